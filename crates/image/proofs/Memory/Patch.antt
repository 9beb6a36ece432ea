-- Words put together, and words with a stretch put in: what stands where.
use Rattle.std.specs.Prelude.{ℕ, ◌+◌, ◌-◌, ◌≤◌, ◌<◌, ◌≡◌, refl, List, ◌++◌, length, get_or, take, drop}
use Rattle.std.proofs.Common.{sym, ◌∙◌, ap}
use Rattle.std.specs.Prelude.{replicate}
use Rattle.std.proofs.Common.{arith}
use lib.ListN.{length-append, length-drop, get_or-append}
use lib.Seq.{length-take-le, get_or-append-add, get_or-take, get_or-drop}
use Rattle.image.specs.Memory.{word, patch}
use Rattle.value.proofs.Zeros.{zeros_at}

pub word_left : (xs ys : List ℕ) (k : ℕ) → k < length xs → word (xs ++ ys) k ≡ word xs k
unfolding word
word_left xs ys k h = get_or-append xs ys 0 k h

pub word_right : (xs ys : List ℕ) (j k : ℕ) → length xs + k ≡ j → word (xs ++ ys) j ≡ word ys k
unfolding word
word_right xs ys j k e = ap (λ (j : ℕ). get_or (xs ++ ys) j 0) (sym e) ∙ get_or-append-add xs ys k 0

pub word-take : (n : ℕ) (xs : List ℕ) (k : ℕ) → k < n → word (take n xs) k ≡ word xs k
unfolding word
word-take n xs k h = get_or-take n xs k 0 h

pub word-drop : (n : ℕ) (xs : List ℕ) (k : ℕ) → word (drop n xs) k ≡ word xs (n + k)
unfolding word
word-drop n xs k = get_or-drop n xs k 0

pub word_zeros : (n k : ℕ) → word (replicate n 0) k ≡ 0
unfolding word
word_zeros n k = zeros_at n k

module _ (m : List ℕ) (i : ℕ) (ws : List ℕ) (inside : i ≤ length m) where
  before : length (take i m) ≡ i
  before = length-take-le i m inside

  pub patch_below : (j : ℕ) → j < i → word (patch m i ws) j ≡ word m j
  unfolding patch
  patch_below j h = word_left (take i m) (ws ++ drop (i + length ws) m) j (rw before h) ∙ word-take i m j h

  pub patch_inside : (j k : ℕ) → i + k ≡ j → k < length ws → word (patch m i ws) j ≡ word ws k
  unfolding patch
  patch_inside j k e h =
      let tail = ws ++ drop (i + length ws) m in
      word_right (take i m) tail j k (omega (arith, before)) ∙ word_left ws (drop (i + length ws) m) k h

  pub patch_above : (j : ℕ) → i + length ws ≤ j → word (patch m i ws) j ≡ word m j
  unfolding patch
  patch_above j h =
      let tail = ws ++ drop (i + length ws) m in
      let q = j - (i + length ws) in
      word_right (take i m) tail j (length ws + q) (omega (arith, before))
      ∙ word_right ws (drop (i + length ws) m) (length ws + q) q refl
      ∙ word-drop (i + length ws) m q ∙ ap (word m) (omega arith)

pub patch-length : (m : List ℕ) (i : ℕ) (ws : List ℕ) → i + length ws ≤ length m → length (patch m i ws) ≡ length m
unfolding patch
patch-length m i ws h =
    simp (length-append, length-drop) (omega (arith, length-take-le i m (omega arith)))
