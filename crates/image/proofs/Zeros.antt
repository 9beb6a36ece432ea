-- Zero stretches: bits gathered word by word, and parts that reach past the end.
-- Assumes nothing.
use Rattle.std.specs.Prelude.{ℕ, zero, suc, ◌+◌, ◌-◌, ◌≤◌, ◌<◌, ◌≡◌, refl, Bool, true, List, [], ◌∷◌}
use Rattle.std.proofs.Common.{sym, ◌∙◌, ap}
use Rattle.std.specs.Prelude.{length, get_or, take, drop}
use Rattle.std.proofs.Common.{arith}
use native.Mathlib.Numerals.{add-one}
use lib.Bits.{bit_or, bit_and, or_add_and, and_le_r}
use lib.ListN.{length-drop}
use lib.Seq.{drop-cons, drop-length, take_all, take-nil}
use Rattle.value.specs.Test.{◌and◌, ◌=?◌}
use Rattle.value.proofs.Tests.{eq!, eq×, left×, true_and}
use Rattle.image.proofs.Ands.{and_assoc, and_true, as_and}
use Rattle.image.specs.Memory.{all_zero, zero_at}

-- what is gathered is zero if and only if both are
gathered : (a w : ℕ) → (bit_or a w =? 0) ≡ ((a =? 0) and (w =? 0))
gathered zero w = sym (true_and _ (eq! refl))
gathered (suc a) w =
    let e : bit_or (suc a) w + bit_and (suc a) w ≡ suc a + w = or_add_and (suc a) w in
    let l : bit_and (suc a) w ≤ w = and_le_r (suc a) w in
    eq× (λ z. omega arith) ∙ sym (left× _ (eq× (λ z. omega arith)))

nil_of : (l : List ℕ) → length l ≡ 0 → l ≡ []
nil_of [] e = refl
nil_of (w ∷ l) e = absurd (omega arith)

-- the words from i on, and what the ones before gathered
unfoldable pub zero_from : List ℕ → ℕ → ℕ → Bool
zero_from m bits i = (bits =? 0) and all_zero (drop i m)

module _ (m : List ℕ) where
  pub zero_first : zero_from m 0 0 ≡ all_zero m
  unfolding zero_from
  zero_first = true_and _ (eq! refl)

  pub zero_next : (bits i : ℕ) → i < length m → zero_from m (bit_or bits (get_or m i 0)) (i + 1) ≡ zero_from m bits i
  unfolding zero_from all_zero
  zero_next bits i h = rw (gathered, add-one, drop-cons m i 0 h)
      (and_assoc _ _ _ ∙ ap (λ (t : Bool). (bits =? 0) and t) (sym (as_and _ _)))

  pub zero_done : (bits i : ℕ) → length m ≤ i → i ≤ length m → (bits =? 0) ≡ zero_from m bits i
  unfolding zero_from all_zero
  zero_done bits i h g =
      let e : i ≡ length m = omega arith in
      rw (e, drop-length) (sym (and_true (bits =? 0)))

  pub zero_past : (from n : ℕ) → length m ≤ from → true ≡ zero_at m from n
  unfolding zero_at all_zero
  zero_past from n h =
      let e : length (drop from m) ≡ 0 = simp length-drop (omega arith) in
      rw (nil_of (drop from m) e, take-nil n)

  -- the part lent on, whose end is no nearer
  pub zero_part : (from k n : ℕ) → k ≡ n → all_zero (take k (drop from m)) ≡ zero_at m from n
  unfolding zero_at
  zero_part from k n e = rw e

  pub zero_rest : (from k n : ℕ) → k ≡ length m - from → k ≤ n → all_zero (take k (drop from m)) ≡ zero_at m from n
  unfolding zero_at
  zero_rest from k n e h =
      let d : length (drop from m) ≡ length m - from = length-drop from m in
      ap all_zero (take_all k (drop from m) (omega arith) ∙ sym (take_all n (drop from m) (omega arith)))
