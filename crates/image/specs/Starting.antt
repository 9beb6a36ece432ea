-- What start promises, for every program and memory. Proved in proofs/Memory/Starting.antt: an element of each of these
-- types.
use Rattle.std.specs.Prelude.{ℕ, ◌+◌, ◌≤◌, ◌≡◌, ◌⊎◌, ◌↔◌, ◌≢◌, List, length, Ok, Err}
use Rattle.program.specs.Bytes.{main_of}
use Rattle.program.specs.Location.{size_of}
use Rattle.load.specs.Check.{IsAccepted}
use Rattle.answer.specs.Answer.{refusal_number, refusal_place, number_of}
use Rattle.load.specs.Fault.{Between, Fault, CheckNumber}
use Rattle.answer.specs.declared.Refusal.{Refusal}
use Rattle.image.specs.Memory.{fewest_words, most_words, main_at, turns}
use Rattle.image.specs.Sound.{SoundImage}
use Rattle.image.specs.Start.{started_of, start_of}

-- 3.1 Memory has a legal length.
abbrev pub Words : List ℕ → Type 0
Words m = Between fewest_words most_words (length m)

-- main and the words before it have room
abbrev pub Room : List ℕ → List ℕ → Type 0
Room p m = main_at + size_of p (main_of p) ≤ length m

pub record Startable (p m : List ℕ) : Type 0 where
  pub accepted : IsAccepted p
  pub words : Words m
  pub room : Room p m

-- a start that refuses all is shut out: `start_succeeds`
abbrev pub StartSucceeds : Type 0
StartSucceeds = (p m : List ℕ) → (number_of (start_of p m).answer ≡ 0) ↔ Startable p m

-- 4.5 The answer of a start that succeeds, and every word: `starts`
abbrev pub Starts : Type 0
Starts =
    (p m : List ℕ) → Startable p m
    → start_of p m ≡ record { answer = Ok (main_at + size_of p (main_of p)); memory = started_of p (length m) }

-- 3.15 v after start: a sound image of no turn, by which each word is said.
pub record AfterStart (p m v : List ℕ) : Type 0 where
  pub same_length : length v ≡ length m
  pub no_turn : turns v ≡ 0
  pub sound : SoundImage p v

-- `start_leaves`
abbrev pub StartLeaves : Type 0
StartLeaves = (p m : List ℕ) → Startable p m → AfterStart p m (start_of p m).memory

-- 4.11 A start that is refused changes no word: `start_keeps`
abbrev pub StartKeeps : Type 0
StartKeeps = (p m : List ℕ) → number_of (start_of p m).answer ≢ 0 → (start_of p m).memory ≡ m

-- 5.5 The first fault of a start, by number and place: the program's own, then 8 for the memory's length, then 14 where
-- main has no room.
pub data StartFault (p m : List ℕ) : ℕ → ℕ → Type 0 where
  program : {n q : ℕ} → Fault p n q → StartFault p m n q
  words : IsAccepted p → (Words m → ⊥) → StartFault p m 8 (length m)
  room : IsAccepted p → Words m → (Room p m → ⊥) → StartFault p m 14 (main_of p)

-- number and place of every refusal: `start_fault`
abbrev pub StartFirstFault : Type 0
StartFirstFault =
    (p m : List ℕ) (w : Refusal) → ((start_of p m).answer ≡ Err w) ↔ StartFault p m (refusal_number w) (refusal_place w)

-- 5.7 The numbers that start can give at all: the check's, 8 and 14.
abbrev pub StartNumber : ℕ → Type 0
StartNumber n = CheckNumber n ⊎ (n ≡ 8) ⊎ (n ≡ 14)

-- proved as `start_numbers`
abbrev pub StartNumbers : Type 0
StartNumbers = (p m : List ℕ) → StartNumber (number_of (start_of p m).answer)
