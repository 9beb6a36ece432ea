-- 5.6 For which fault a turn is refused before its first step, by number and place. Each case says what its fault is
-- and that what comes before it is right, so that nothing here speaks of a ladder of tests. Proved in
-- proofs/FirstFault.antt: `first_fault`, `turn_numbers`.
use Rattle.std.specs.Prelude.{ℕ, ◌+◌, ◌*◌, ◌≤◌, ◌<◌, ◌≡◌, ◌⊎◌, ◌↔◌, ◌≢◌, List, length, Err}
use Rattle.program.specs.Bytes.{globals, global_kind, main_of}
use Rattle.program.specs.Location.{sink_count}
use Rattle.program.specs.Kind.{OfKind}
use Rattle.load.specs.Check.{IsAccepted}
use Rattle.answer.specs.Answer.{refusal_number, refusal_place, number_of}
use Rattle.load.specs.Fault.{Between, CheckNumber}
use Rattle.load.specs.Fault as Load
use Rattle.answer.specs.declared.Refusal.{Refusal}
use Rattle.image.specs.Memory.{most_turns, turns}
use Rattle.image.specs.Sound.{SoundImage}
use Rattle.image.specs.Fault.{FaultAt}
use Rattle.image.specs.Starting.{Words}
use Rattle.remus.specs.Turn.{turn_of, reading_at}

-- reading k, from 0, is of its global's kind
abbrev pub LegalReading : List ℕ → List ℕ → ℕ → Type 0
LegalReading p rd k = OfKind p (global_kind p (k + 1)) (reading_at rd k)

abbrev pub LegalReadings : List ℕ → List ℕ → Type 0
LegalReadings p rd = (k : ℕ) → k < globals p → LegalReading p rd k

module _ (p m rd sk : List ℕ) where
  -- 5.20 to 5.23 What a turn brings, and the clock.
  pub data Asking : ℕ → ℕ → Type 0 where
    count : length rd ≢ 2 * globals p → Asking 10 (length rd)
    -- the first that is not legal
    reading : {k : ℕ} → length rd ≡ 2 * globals p → k < globals p → ((j : ℕ) → j < k → LegalReading p rd j)
        → (LegalReading p rd k → ⊥) → Asking 11 k
    -- the words that are needed
    space : length rd ≡ 2 * globals p → LegalReadings p rd → length sk < 2 * sink_count p (main_of p)
        → Asking 12 (2 * sink_count p (main_of p))
    clock : length rd ≡ 2 * globals p → LegalReadings p rd → 2 * sink_count p (main_of p) ≤ length sk
        → most_turns ≤ turns m → Asking 13 0

  pub data Fault : ℕ → ℕ → Type 0 where
    -- a number of the check
    program : {n q : ℕ} → Load.Fault p n q → Fault n q
    words : IsAccepted p → (Words m → ⊥) → Fault 8 (length m)
    -- 5.19 where the image is at fault
    image : {q : ℕ} → IsAccepted p → Words m → FaultAt p m q → Fault 9 q
    brought : {n q : ℕ} → IsAccepted p → Words m → SoundImage p m → Asking n q → Fault n q

-- A turn is refused exactly for its first fault: for every input, and every refusal but 14 and 15. Those come of a
-- step; TurnClaim's `full` and `deep` say when.
abbrev pub FirstFault : Type 0
FirstFault =
    (p m rd sk : List ℕ) (w : Refusal) → refusal_number w ≢ 14 → refusal_number w ≢ 15
    → ((turn_of p m rd sk).answer ≡ Err w) ↔ Fault p m rd sk (refusal_number w) (refusal_place w)

-- 5.7 The numbers that a turn can give at all: the check's, and 8 to 15.
abbrev pub TurnNumber : ℕ → Type 0
TurnNumber n = CheckNumber n ⊎ Between 8 15 n

abbrev pub TurnNumbers : Type 0
TurnNumbers = (p m rd sk : List ℕ) → TurnNumber (number_of (turn_of p m rd sk).answer)
