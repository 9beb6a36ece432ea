-- What the contracts speak of beside the definitions: definitions cut as the code is cut.
use Rattle.std.specs.Prelude.{ℕ, ◌+◌, ◌*◌, ◌<◌, Bool, List, [], ◌∷◌, length, Option, Some, None, Result, Ok, Err}
use Rattle.std.specs.Int.{w32}
use Rattle.std.proofs.Common.{of_z}
use Rattle.value.specs.Test.{pick, ◌<?◌, ◌=?◌, ◌and◌, ◌or◌}
use Rattle.answer.specs.Answer.{Answer}
use Rattle.haai.specs.Word.{is_letter, is_digit, minus_byte, among, position, every, decimal, is_number, integer_of}
use Rattle.haai.specs.Word.{signs, sign_at, taken_words, taken_at}
use Rattle.haai.specs.Grammar.{Step, takes, refuses, most_brackets, deepened, Formed, items, fault}
use Rattle.haai.specs.Places.{word_of}
use Rattle.haai.specs.Compile.{Compilation}
use Rattle.haai.specs.declared.Phase.TheVariants.{Operator}
use Rattle.haai.specs.declared.Reading.{Reading}
use Rattle.haai.specs.declared.Role.TheVariants.{Fixed}
use Rattle.haai.specs.declared.Sign.{Sign}
use Rattle.haai.specs.declared.Taken.{Taken}

-- ---- words

-- a byte of a name
unfoldable pub is_part : ℕ → Bool
is_part c = is_letter c or (is_digit c or (c =? minus_byte))

-- a number's digits are counted up to here: no signed 32-bit number has more
abbrev pub most : ℕ
most = 2147483649

unfoldable pub capped : ℕ → ℕ
capped n = pick (n <? most) n most

-- what digits come to, if a word is of digits
unfoldable pub magnitude_of : List ℕ → Option ℕ
magnitude_of w = pick ((0 <? length w) and every is_digit w) (Some (capped (decimal 0 w))) None

-- the number, the sign or the taken word that a word is
unfoldable pub number_of : List ℕ → Option ℕ
number_of w = pick (is_number w) (Some (of_z w32 (integer_of w))) None

unfoldable pub sign_of : List ℕ → Option Sign
sign_of w = pick (among signs w) (Some (sign_at (position signs w))) None

unfoldable pub taken_of : List ℕ → Option Taken
taken_of w = pick (among taken_words w) (Some (taken_at (position taken_words w))) None

-- ---- names

-- the words that begin at these places
unfoldable pub words_at : List ℕ → List ℕ → List (List ℕ)
words_at t [] = []
words_at t (a ∷ ps) = word_of t a ∷ words_at t ps

-- the first of the names that is w
unfoldable pub place_in : List (List ℕ) → List ℕ → Option ℕ
place_in ns w = pick (among ns w) (Some (position ns w)) None

-- ---- the form

-- the counts have room for one more
abbrev pub Room : Reading → Type 0
Room s = (s.sources < 255) × ((s.definitions < 255) × (s.count < 255))

-- a bracket where an expression can stand
unfoldable pub opened_step : Reading → Step
opened_step s = pick (s.depth <? most_brackets) (takes Fixed (deepened Operator (s.depth + 1) s)) refuses

-- 16 alone, without the words in their roles
abbrev pub right : Result (Unit {0}) ℕ
right = Ok tt

unfoldable pub check_of : Formed → Result (Unit {0}) ℕ
check_of (items is) = right
check_of (fault q) = Err q

-- ---- the call

-- an answer, with the output space then
unfoldable pub compiled : Answer → List ℕ → Compilation
compiled a out = record { answer = a; output = out }
