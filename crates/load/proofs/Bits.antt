-- Bits of a standing: the weight that the code uses does for a byte what the power of two does.
-- Assumes nothing.
use Rattle.std.specs.Prelude.{ℕ, zero, suc, min, ◌+◌, ◌*◌, ◌/◌, ◌%◌, ◌^◌, ◌≤◌, ◌<◌, ◌≡◌, refl, false}
use Rattle.std.proofs.Common.{sym, ◌∙◌, ap, ⊎_elim}
use Rattle.std.proofs.Common.{arith}
use native.Mathlib.Nat.{pow-le-pow_right, div-eq_of_lt}
use Rattle.value.specs.Test.{◌=?◌}
use Rattle.value.proofs.Tests.{yes, no, lt!, lt×, eq×, eq×?, below}
use Rattle.load.specs.Clauses.{byte_bit}
use Rattle.load.specs.Scan.{ready_at}

pub bit_low : (x : ℕ) → x < 8 → 2 ^ x ≡ byte_bit x
unfolding byte_bit
bit_low x h = yes _ (lt! h) refl

pub bit_high : (x : ℕ) → 8 ≤ x → 256 ≡ byte_bit x
unfolding byte_bit
bit_high x h = no _ (lt× h) refl

-- the bits past a byte's
high : (x : ℕ) → 8 ≤ x → 256 ≤ 2 ^ x
high x h = let two : 0 < 2 = omega arith in pow-le-pow_right two h

low_cases : (P : ℕ → Type 0) → P 0 → P 1 → P 2 → P 3 → P 4 → P 5 → P 6 → P 7 → (x : ℕ) → x < 8 → P x
low_cases P a b c d e f g h zero l = a
low_cases P a b c d e f g h (suc zero) l = b
low_cases P a b c d e f g h (suc (suc zero)) l = c
low_cases P a b c d e f g h (suc (suc (suc zero))) l = d
low_cases P a b c d e f g h (suc (suc (suc (suc zero)))) l = e
low_cases P a b c d e f g h (suc (suc (suc (suc (suc zero))))) l = f
low_cases P a b c d e f g h (suc (suc (suc (suc (suc (suc zero)))))) l = g
low_cases P a b c d e f g h (suc (suc (suc (suc (suc (suc (suc zero))))))) l = h
low_cases P a b c d e f g h (suc (suc (suc (suc (suc (suc (suc (suc x)))))))) l = absurd (omega arith)

low_some : (x : ℕ) → x < 8 → 0 < 2 ^ x
low_some =
    low_cases (λ (x : ℕ). 0 < 2 ^ x)
    (omega arith) (omega arith) (omega arith) (omega arith) (omega arith) (omega arith) (omega arith) (omega arith)

pub bit_some : (x : ℕ) → 0 < byte_bit x
bit_some x = ⊎_elim (λ (h : x < 8). omega (arith, bit_low x h, low_some x h))
    (λ (h : 8 ≤ x). omega (arith, bit_high x h)) (below x 8)

even : (q : ℕ) → (q % 2 ≡ 1 → ⊥) → q % 2 ≡ 0
even q d = ⊎_elim (λ (h : q % 2 < 1). omega arith) (λ (h : 1 ≤ q % 2). absurd (d (omega arith))) (below (q % 2) 1)

module _ (t : ℕ) (b : t < 256) where
  pub bit_test : (x : ℕ) → t / byte_bit x % 2 ≡ t / 2 ^ x % 2
  bit_test x =
      ⊎_elim
      (λ (h : x < 8). ap (λ (w : ℕ). t / w % 2) (sym (bit_low x h)))
      (λ (h : 8 ≤ x).
      let g : t < 2 ^ x = omega (arith, high x h) in
      let l : t < byte_bit x = omega (arith, bit_high x h) in
      ap (λ (q : ℕ). q % 2) (div-eq_of_lt l ∙ sym (div-eq_of_lt g)))
      (below x 8)

  -- no byte is ready with more sources than a byte has bits for
  pub never_ready : (x : ℕ) → 8 ≤ x → (t =? ready_at x) ≡ false
  unfolding ready_at
  never_ready x h = eq× (λ e. omega (arith, high x h))

  room : (x : ℕ) → x < 8 → t / 2 ^ x % 2 ≡ 0 → t + 2 ^ x < 256
  room =
      low_cases (λ (x : ℕ). t / 2 ^ x % 2 ≡ 0 → t + 2 ^ x < 256)
      (λ e. omega arith) (λ e. omega arith) (λ e. omega arith) (λ e. omega arith)
      (λ e. omega arith) (λ e. omega arith) (λ e. omega arith) (λ e. omega arith)

  -- a bit that is not set can be added
  pub bit_room : (x : ℕ) → x < 8 → (t / 2 ^ x % 2 =? 1) ≡ false → t + 2 ^ x < 256
  bit_room x h e = room x h (even _ (eq×? e))

pub shifted : (x m : ℕ) → m ≡ min x 8 → 1 * 2 ^ m % 65536 ≡ byte_bit x
shifted x m e =
    ⊎_elim
    (λ (h : x < 8).
    let same : m ≡ x = omega arith in
    rw same (low_cases (λ (x : ℕ). 1 * 2 ^ x % 65536 ≡ 2 ^ x) refl refl refl refl refl refl refl refl x h ∙ bit_low x h))
    (λ (h : 8 ≤ x). let same : m ≡ 8 = omega arith in rw same (bit_high x h))
    (below x 8)

low_most : (x : ℕ) → x < 8 → 2 ^ x ≤ 128
low_most =
    low_cases (λ (x : ℕ). 2 ^ x ≤ 128)
    (omega arith) (omega arith) (omega arith) (omega arith) (omega arith) (omega arith) (omega arith) (omega arith)

pub bit_most : (x : ℕ) → byte_bit x ≤ 256
bit_most x = ⊎_elim (λ (h : x < 8). omega (arith, bit_low x h, low_most x h))
    (λ (h : 8 ≤ x). omega (arith, bit_high x h)) (below x 8)
