-- 4.22 Calls on bytes by computing: the clock on slices whose last bytes make no word.
use Rattle.std.specs.Prelude.{ℕ, ◌+◌, ◌*◌, ◌≡◌, refl, List, [], ◌∷◌, ◌++◌, replicate}
use Rattle.load.specs.Check.{check_of}
use Rattle.load.specs.Programs.{clock}
use Rattle.remus.specs.Open.{opened as below_opened}
use Rattle.rig.specs.Words.{words_of, bytes_of, holding, packed}
use Rattle.rig.specs.Face.{one_number, start_bytes, turn_bytes, preview_bytes}

unfoldable pub opened : ℕ
unfolding below_opened words_of bytes_of holding packed one_number start_bytes turn_bytes preview_bytes
opened = 0

-- 9 words and two bytes
abbrev before : List ℕ
before = replicate 38 238

abbrev started : List ℕ
started = (start_bytes clock before).memory

-- two words and a byte
abbrev space : List ℕ
space = replicate 9 238

pub check_answers : one_number (check_of clock) ≡ 7
unfolding opened
check_answers = refl

pub start_answers : one_number (start_bytes clock before).answer ≡ 9
unfolding opened
start_answers = refl

pub start_words : started ≡ (9 ∷ replicate 35 0) ++ (238 ∷ 238 ∷ [])
unfolding opened
start_words = refl

-- without the last byte of a word there are 8 words
pub start_short : one_number (start_bytes clock (replicate 35 238)).answer ≡ 14 * 4294967296 + 0
unfolding opened
start_short = refl

pub turn_answers : one_number (turn_bytes clock started [] space).answer ≡ 9
unfolding opened
turn_answers = refl

-- number 1, low byte first, and the byte past the pair as it was
pub turn_sinks : (turn_bytes clock started [] space).sink_space ≡ 1 ∷ 0 ∷ 0 ∷ 0 ∷ 1 ∷ 0 ∷ 0 ∷ 0 ∷ 238 ∷ []
unfolding opened
turn_sinks = refl

-- 4.25 a work memory of as many words, and one byte that is kept
pub preview_work : (preview_bytes clock started (replicate 37 238) [] space).work
    ≡ (9 ∷ 0 ∷ 0 ∷ 0 ∷ 1 ∷ replicate 7 0) ++ ((1 ∷ replicate 23 0) ++ (238 ∷ []))
unfolding opened
preview_work = refl

-- 5.32 one that is a byte short of them
pub preview_short : one_number (preview_bytes clock started (replicate 35 238) [] space).answer ≡ 22 * 4294967296 + 8
unfolding opened
preview_short = refl

-- a place of more than 32 bits
pub place_cut : packed 8 4294967296 ≡ 8 * 4294967296 + 4294967295
unfolding opened
place_cut = refl
