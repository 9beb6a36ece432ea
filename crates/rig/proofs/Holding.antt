-- Bytes that are given words: `hold_same`, and that words which are their own already make no difference.
-- Assumes nothing.
use Rattle.std.specs.Prelude.{ℕ, suc, ◌*◌, ◌/◌, ◌%◌, ◌≤◌, ◌<◌, ◌≡◌, refl, List, [], ◌∷◌, ◌++◌}
use Rattle.std.proofs.Common.{sym, ◌∙◌, ap}
use Rattle.std.specs.Prelude.{length, take, drop}
use Rattle.std.proofs.Common.{arith}
use lib.Seq.{take-length}
use Rattle.rig.specs.Words.{word, words_of, bytes_of, holding}
use Rattle.rig.specs.Laws.{Bytes, HeldSame}
use Rattle.rig.proofs.Copying.{words_count, four}

-- words are given one by one
pub hold_more : (x : ℕ) (xs : List ℕ) (a b c d : ℕ) (s : List ℕ)
    → holding (a ∷ b ∷ c ∷ d ∷ s) (x ∷ xs) ≡ four x (holding s xs)
unfolding holding bytes_of
hold_more x xs a b c d s = let e : 4 * suc (length xs) ≡ suc (suc (suc (suc (4 * length xs)))) = omega arith in rw e

-- a word's bytes are those that it was made of
module _ (a b c d : ℕ) (ha : a < 256) (hb : b < 256) (hc : c < 256) (hd : d < 256) where
  low : word a b c d % 256 ≡ a
  low = omega arith

  second : word a b c d / 256 % 256 ≡ b
  second = omega arith

  third : word a b c d / 65536 % 256 ≡ c
  third = omega arith

  high : word a b c d / 16777216 % 256 ≡ d
  high = omega arith

  four_again : (s : List ℕ) → four (word a b c d) s ≡ a ∷ b ∷ c ∷ d ∷ s
  four_again s = rw (low, second, third, high)

pub hold_same : HeldSame
unfolding words_of bytes_of holding
hold_same [] h = refl
hold_same (a ∷ []) h = refl
hold_same (a ∷ b ∷ []) h = refl
hold_same (a ∷ b ∷ c ∷ []) h = refl
hold_same (a ∷ b ∷ c ∷ d ∷ s) h =
    hold_more (word a b c d) (words_of s) a b c d s
    ∙ four_again a b c d (h 0) (h 1) (h 2) (h 3) (holding s (words_of s))
    ∙ ap (λ (t : List ℕ). a ∷ b ∷ c ∷ d ∷ t) (hold_same s (λ i. h (suc (suc (suc (suc i))))))

-- further words that are those of the bytes
pub hold_rest : (s xs : List ℕ) → Bytes s → length xs ≤ length (words_of s)
    → holding s (xs ++ drop (length xs) (words_of s)) ≡ holding s xs
unfolding words_of bytes_of holding
hold_rest s [] h l = hold_same s h
hold_rest [] (x ∷ xs) h l = absurd (omega arith)
hold_rest (a ∷ []) (x ∷ xs) h l = absurd (omega arith)
hold_rest (a ∷ b ∷ []) (x ∷ xs) h l = absurd (omega arith)
hold_rest (a ∷ b ∷ c ∷ []) (x ∷ xs) h l = absurd (omega arith)
hold_rest (a ∷ b ∷ c ∷ d ∷ s) (x ∷ xs) h l =
    hold_more x (xs ++ drop (length xs) (words_of s)) a b c d s
    ∙ ap (four x) (hold_rest s xs (λ i. h (suc (suc (suc (suc i))))) (omega arith))
    ∙ sym (hold_more x xs a b c d s)

-- as many words as there are, taken
pub all_words : (m : List ℕ) (n : ℕ) → n ≡ length m / 4 → take n (words_of m) ≡ words_of m
all_words m n e = ap (λ (k : ℕ). take k (words_of m)) (e ∙ sym (words_count m)) ∙ take-length (words_of m)
