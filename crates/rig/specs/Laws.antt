-- What holds of words in bytes and of packed answers, in other words than the definitions have.
use Rattle.std.specs.Prelude.{ℕ, ◌*◌, ◌/◌, ◌%◌, ◌≤◌, ◌<◌, min, ◌≡◌, ◌⊎◌, ◌≢◌, List, ◌++◌, length, get_or, drop}
use Rattle.answer.specs.Answer.{number_of}
use Rattle.rig.specs.Words.{words_of, holding, packed, most_place}
use Rattle.rig.specs.Face.{start_bytes, turn_bytes, preview_bytes}

-- bytes, and words of 32 bits
abbrev pub Bytes : List ℕ → Type 0
Bytes s = (i : ℕ) → get_or s i 0 < 256

abbrev pub Words : List ℕ → Type 0
Words ws = (i : ℕ) → get_or ws i 0 < 4294967296

-- ---- proved in proofs/Pinned.antt: an element of each of these types

-- Bytes that are given words have these as their first words, and further ones as before.
abbrev pub HeldWords : Type 0
HeldWords = (s ws : List ℕ) → Words ws → length ws ≤ length (words_of s)
    → words_of (holding s ws) ≡ ws ++ drop (length ws) (words_of s)

-- They are as many as before, and each one past the words is as before.
abbrev pub HeldRest : Type 0
HeldRest = (s ws : List ℕ) → length ws ≤ length (words_of s)
    → (length (holding s ws) ≡ length s)
    × ((i : ℕ) → 4 * length ws ≤ i → get_or (holding s ws) i 0 ≡ get_or s i 0)

-- Bytes that are given their own words are as they were.
abbrev pub HeldSame : Type 0
HeldSame = (s : List ℕ) → Bytes s → holding s (words_of s) ≡ s

-- A caller finds the number, and the place or the largest one.
abbrev pub Unpacked : Type 0
Unpacked = (number place : ℕ) → (packed number place / 4294967296 ≡ number)
    × (packed number place % 4294967296 ≡ min place most_place)

-- A refused call leaves every byte of memory and of sink space.
abbrev pub StartKeepsBytes : Type 0
StartKeepsBytes = (p m : List ℕ) → Bytes m → number_of (start_bytes p m).answer ≢ 0 → (start_bytes p m).memory ≡ m

abbrev pub RefusedKeepsBytes : Type 0
RefusedKeepsBytes = (p m rd sk : List ℕ) → Bytes m → Bytes sk → number_of (turn_bytes p m rd sk).answer ≢ 0
    → ((turn_bytes p m rd sk).memory ≡ m) × ((turn_bytes p m rd sk).sink_space ≡ sk)

-- So does a refused preview, with the one exception: after 14 and 15 the work memory holds the words of memory.
abbrev pub PreviewKeepsBytes : Type 0
PreviewKeepsBytes = (p m work rd sk : List ℕ) → Bytes work → Bytes sk → let v = preview_bytes p m work rd sk in
    let n = number_of v.answer in n ≢ 0 → (v.sink_space ≡ sk)
    × ((n ≡ 14) ⊎ (n ≡ 15) → v.work ≡ holding work (words_of m)) × (n ≢ 14 → n ≢ 15 → v.work ≡ work)
