-- 8.1 The words of a text: where they are, and what each is by its bytes.
use Rattle.std.specs.Prelude.{ℕ, zero, suc, ◌+◌, ◌-◌, ◌*◌, Bool, true, false, not, List, [], ◌∷◌, length, take, drop}
use Rattle.value.specs.Test.{pick, ◌<?◌, ◌≤?◌, ◌=?◌, ◌and◌, ◌or◌, guard, sweep}
use Rattle.value.specs.Primitive.{in32}
use Rattle.program.specs.Bytes.{byte}
use Rattle.haai.specs.declared.Class.{Class}
use Rattle.haai.specs.declared.Class.TheVariants.{Open, Shut, Sign as ASign, Number, Taken as ATaken, Name, Other}
use Rattle.haai.specs.declared.Sign.{Sign}
use Rattle.haai.specs.declared.Sign.TheVariants.{Plus, Minus, Times, Divide}
use Rattle.haai.specs.declared.Taken.{Taken}
use Rattle.haai.specs.declared.Taken.TheVariants.{Time, Defr, Out, Source}
use Rattle.std.specs.Prelude.{ℤ, pos, neg_ℤ}
use Rattle.std.specs.Int.{w32}
use Rattle.std.proofs.Common.{of_z}

-- ---- where words are

abbrev pub open_byte : ℕ
open_byte = 40

abbrev pub shut_byte : ℕ
shut_byte = 41

abbrev pub minus_byte : ℕ
minus_byte = 45

-- 8.1 Spaces and line feeds part words; a bracket is a word of its own; any other byte is part of a word.
unfoldable pub is_space : ℕ → Bool
is_space c = (c =? 32) or (c =? 10)

unfoldable pub is_bracket : ℕ → Bool
is_bracket c = (c =? open_byte) or (c =? shut_byte)

unfoldable pub ends_word : ℕ → Bool
ends_word c = is_space c or is_bracket c

-- a word, and the place of its first byte
pub record Word : Type 0 where
  pub at : ℕ
  pub bytes : List ℕ

-- the first byte from i on that is no space; the text's length if there is none
unfoldable pub word_start : List ℕ → ℕ → ℕ
word_start t i = sweep (λ j. is_space (byte t j)) i (length t - i)

-- the byte after the word that begins at i
unfoldable pub word_end : List ℕ → ℕ → ℕ
word_end t i =
    guard (not (is_bracket (byte t i))) (i + 1) (λ _. sweep (λ j. not (ends_word (byte t j))) i (length t - i))

-- the bytes from i to before e
unfoldable pub bytes_of : List ℕ → ℕ → ℕ → List ℕ
bytes_of t i e = take (e - i) (drop i t)

-- at most f words, from byte i on
unfoldable pub words_from : ℕ → List ℕ → ℕ → List Word
words_from zero t i = []
words_from (suc f) t i =
    let s = word_start t i in
    guard (s <? length t) [] (λ _.
    let e = word_end t s in
    record { at = s; bytes = bytes_of t s e } ∷ words_from f t e)

unfoldable pub words_of : List ℕ → List Word
words_of t = words_from (length t) t 0

-- ---- what a word is

unfoldable pub same_word : List ℕ → List ℕ → Bool
same_word [] [] = true
same_word [] (y ∷ ys) = false
same_word (x ∷ xs) [] = false
same_word (x ∷ xs) (y ∷ ys) = guard (x =? y) false (λ _. same_word xs ys)

-- the first of the names that is w; their count if none is
unfoldable pub position : List (List ℕ) → List ℕ → ℕ
position [] w = 0
position (x ∷ xs) w = guard (not (same_word x w)) 0 (λ _. 1 + position xs w)

unfoldable pub among : List (List ℕ) → List ℕ → Bool
among ns w = position ns w <? length ns

unfoldable pub every : (ℕ → Bool) → List ℕ → Bool
every ok [] = true
every ok (c ∷ cs) = guard (ok c) false (λ _. every ok cs)

unfoldable pub is_letter : ℕ → Bool
is_letter c = (97 ≤? c) and (c ≤? 122)

unfoldable pub is_digit : ℕ → Bool
is_digit c = (48 ≤? c) and (c ≤? 57)

-- 8.6 A name has 1 to 16 small letters, digits and hyphens, and begins with a letter.
unfoldable pub is_name : List ℕ → Bool
is_name w = is_letter (byte w 0) and (length w ≤? 16) and every (λ c. is_letter c or (is_digit c or (c =? minus_byte))) w

abbrev pub defr_word : Taken
defr_word = Defr

abbrev pub out_word : Taken
out_word = Out

abbrev pub source_word : Taken
source_word = Source

-- 8.6 The words that are taken, as bytes: time, defr, out, source.
abbrev pub time_bytes : List ℕ
time_bytes = 116 ∷ 105 ∷ 109 ∷ 101 ∷ []

abbrev pub taken_words : List (List ℕ)
taken_words =
    time_bytes
    ∷ (100 ∷ 101 ∷ 102 ∷ 114 ∷ [])
    ∷ (111 ∷ 117 ∷ 116 ∷ [])
    ∷ (115 ∷ 111 ∷ 117 ∷ 114 ∷ 99 ∷ 101 ∷ [])
    ∷ []

-- the taken word at place n of these, and the place of one
unfoldable pub taken_at : ℕ → Taken
taken_at zero = Time
taken_at (suc zero) = defr_word
taken_at (suc (suc zero)) = out_word
taken_at (suc (suc (suc n))) = source_word

unfoldable pub taken_number : Taken → ℕ
taken_number Time = 0
taken_number Defr = 1
taken_number Out = 2
taken_number Source = 3

-- 8.8 The signs + - * / stand for the primitives 0 to 3, in this order.
abbrev pub signs : List (List ℕ)
signs = (43 ∷ []) ∷ (minus_byte ∷ []) ∷ (42 ∷ []) ∷ (47 ∷ []) ∷ []

-- the sign at place n of these, and the place of one
unfoldable pub sign_at : ℕ → Sign
sign_at zero = Plus
sign_at (suc zero) = Minus
sign_at (suc (suc zero)) = Times
sign_at (suc (suc (suc n))) = Divide

unfoldable pub sign_number : Sign → ℕ
sign_number Plus = 0
sign_number Minus = 1
sign_number Times = 2
sign_number Divide = 3

-- 8.5 A number has decimal digits, after a minus or none, and fits in 32 bits.
unfoldable pub decimal : ℕ → List ℕ → ℕ
decimal n [] = n
decimal n (c ∷ cs) = decimal (10 * n + (c - 48)) cs

unfoldable pub has_minus : List ℕ → Bool
has_minus w = byte w 0 =? minus_byte

unfoldable pub digits : List ℕ → List ℕ
digits w = pick (has_minus w) (drop 1 w) w

unfoldable pub integer_of : List ℕ → ℤ
integer_of w = let n = pos (decimal 0 (digits w)) in pick (has_minus w) (neg_ℤ n) n

unfoldable pub is_number : List ℕ → Bool
is_number w = (0 <? length (digits w)) and (every is_digit (digits w) and in32 (integer_of w))

-- no word is of two classes
unfoldable pub class_of : List ℕ → Class
class_of w =
    guard (not (same_word w (open_byte ∷ []))) Open (λ _.
    guard (not (same_word w (shut_byte ∷ []))) Shut (λ _.
    guard (not (among signs w)) (ASign (sign_at (position signs w))) (λ _.
    guard (not (is_number w)) (Number (of_z w32 (integer_of w))) (λ _.
    guard (not (among taken_words w)) (ATaken (taken_at (position taken_words w))) (λ _.
    pick (is_name w) Name Other)))))
