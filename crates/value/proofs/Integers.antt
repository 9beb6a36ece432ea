-- Signed integers as the machine has them: bits, read by `to_z` and written by `of_z`. What is read back, which
-- results fit, and what the operations of specs/Primitive.antt are where they fit. All signed reasoning of the
-- crate is here. Assumes nothing.
use Rattle.std.specs.Prelude.{ℕ, zero, suc, ◌+◌, ◌-◌, ◌/◌, ◌%◌, ◌^◌, ◌≤◌, ◌<◌, ◌≡◌, refl}
use Rattle.std.proofs.Common.{sym, ◌∙◌, ap}
use Rattle.std.proofs.Common.{arith}
use Rattle.std.specs.Prelude.{Bool, true, false, not}
use Rattle.std.proofs.Common.{eqb, ltb, ℤ, pos, negsuc, ◌-ℤ◌, neg_ℤ, div-le_self, div-one, to_z-of_z, Fits-lit, w32, Fits, SFits, to_z, of_z, ltb-false, ltb-true, le-ltb, eq-eqb, ne_eqb, eqb-true}
use native.Mathlib.Nat.{div-lt_self}
use borrow.Author.Tests.{eqb-false}
use lib.IntN.{+ℤ_idl}
use lib.Signed.{mag, lt_z, quot_z}
use mir.Facts.{of_z-to_z}
use Rattle.value.proofs.Tests.{cases, both?, flags, not_true}
use Rattle.value.specs.Test.{pick}
use Rattle.value.specs.Value.{blank, number}
use Rattle.std.specs.Prelude.{Option}
use Rattle.std.specs.Option.{SomeIff}
use Rattle.std.specs.declared.option.Option.TheVariants.{Some, None}
use Rattle.value.specs.Clauses.{number_or_blank}
use Rattle.value.specs.Primitive.{in32, within, is_zero, same_int, quotient, goes_round}

-- ---- read back

-- an integer written at 32 bits and read back
abbrev pub back : ℤ → ℤ
back z = to_z w32 (of_z w32 z)

pub is_back : {z : ℤ} → SFits w32 z → back z ≡ z
is_back f = to_z-of_z f

-- a test `x == n` is one of bits
at : {x : ℤ} {n : ℕ} → SFits w32 x → of_z w32 x ≡ n → x ≡ to_z w32 n
at f h = sym (is_back f) ∙ ap (to_z w32) h

not_at : {x : ℤ} (n : ℕ) → Fits w32 n → (of_z w32 x ≡ n → ⊥) → x ≡ to_z w32 n → ⊥
not_at n f h e = h (ap (of_z w32) e ∙ of_z-to_z f)

pub same_bits : (x y : ℤ) → SFits w32 x → SFits w32 y → eqb (of_z w32 x) (of_z w32 y) ≡ same_int x y
same_bits (pos a) (pos b) f g = refl
same_bits (pos a) (negsuc b) f g = ne_eqb a (2 ^ 32 - suc b) (λ e. omega (arith, f.sfits, g.sfits))
same_bits (negsuc a) (pos b) f g = ne_eqb (2 ^ 32 - suc a) b (λ e. omega (arith, f.sfits, g.sfits))
same_bits (negsuc a) (negsuc b) f g = go (eqb a b) refl
  where
    go : (t : Bool) → eqb a b ≡ t → eqb (2 ^ 32 - suc a) (2 ^ 32 - suc b) ≡ t
    go true e = eq-eqb (2 ^ 32 - suc a) (2 ^ 32 - suc b) (omega (arith, eqb-true a b e))
    go false e = ne_eqb (2 ^ 32 - suc a) (2 ^ 32 - suc b) (λ q. eqb-false a b e (omega (arith, f.sfits, g.sfits)))

-- ---- the range of 32 bits

in_fits : (z : ℤ) → lt_z z (negsuc 2147483647) ≡ false → lt_z (pos 2147483647) z ≡ false → SFits w32 z
in_fits (pos n) e h = record { sfits = omega (arith, ltb-false 2147483647 n h) }
in_fits (negsuc n) e h = record { sfits = omega (arith, ltb-false 2147483647 n e) }

pub in32_fits : (z : ℤ) → in32 z ≡ true → SFits w32 z
in32_fits z e =
    let b = both? (sym (flags (not (lt_z z (negsuc 2147483647))) (not (lt_z (pos 2147483647) z))) ∙ e) in
    in_fits z (not_true _ b.0) (not_true _ b.1)

fits_in : (z : ℤ) → SFits w32 z → in32 z ≡ true
fits_in (pos n) f = rw (le-ltb 2147483647 n (omega (arith, f.sfits)))
fits_in (negsuc n) f = rw (le-ltb 2147483647 n (omega (arith, f.sfits)))

-- what is read from bits is in range
pub signed_in : (n : ℕ) → in32 (to_z w32 n) ≡ true
signed_in n =
    cases (ltb n (2 ^ 31))
    (λ e. let h : n < 2 ^ 31 = ltb-true n (2 ^ 31) e in rw e (fits_in (pos n) (record { sfits = h })))
    (λ e.
    let h : 2 ^ 31 ≤ n = ltb-false n (2 ^ 31) e in
    rw e (fits_in (negsuc (2 ^ 32 - suc n)) (record { sfits = omega arith })))

pub is_within : (z : ℤ) → SFits w32 z → within z ≡ number z
unfolding within pick
is_within z f = rw (fits_in z f)

-- a checked result is the integer within 32 bits
pub narrowed : (z : ℤ) (r : Option ℤ) → SomeIff r (SFits w32 z) z → number_or_blank r ≡ within z
unfolding within pick
narrowed z (Some x) h = ap number h.1 ∙ sym (is_within z h.0)
narrowed z None h = cases (in32 z) (λ e. absurd (h (in32_fits z e))) (λ e. rw e refl)

-- ---- negation

neg_mag : (x : ℤ) → mag x < 2 ^ 31 → (x ≡ negsuc 2147483647 → ⊥) → mag (neg_ℤ x) < 2 ^ 31
neg_mag (pos zero) h e = omega arith
neg_mag (pos (suc n)) h e = omega arith
neg_mag (negsuc n) h e = let d : n ≡ 2147483647 → ⊥ = λ q. e (ap negsuc q) in omega arith

module _ {x : ℤ} (f : SFits w32 x) (h : of_z w32 x ≡ 2147483648 → ⊥) where
  negated : pos 0 -ℤ back x ≡ neg_ℤ x
  negated = +ℤ_idl (neg_ℤ (back x)) ∙ ap neg_ℤ (is_back f)

  neg_fits : SFits w32 (neg_ℤ x)
  neg_fits = record { sfits = neg_mag x f.sfits (not_at 2147483648 (Fits-lit tt) h) }

  pub negated_number : number (back (pos 0 -ℤ back x)) ≡ within (neg_ℤ x)
  negated_number = ap number (ap back negated ∙ is_back neg_fits) ∙ sym (is_within (neg_ℤ x) neg_fits)

pub lowest_blank : {x : ℤ} → SFits w32 x → of_z w32 x ≡ 2147483648 → within (neg_ℤ x) ≡ blank
unfolding within pick
lowest_blank f h = ap (λ (y : ℤ). within (neg_ℤ y)) (at f h)

-- ---- quotient

quot_minus_one : (x : ℤ) → quot_z x (negsuc 0) ≡ neg_ℤ x
quot_minus_one (pos a) = ap (λ (n : ℕ). neg_ℤ (pos n)) (div-one a)
quot_minus_one (negsuc a) = ap pos (div-one (suc a))

-- a divisor 0, and a divisor -1
module _ (x : ℤ) {y : ℤ} (g : SFits w32 y) where
  pub by_zero : of_z w32 y ≡ 0 → quotient x y ≡ blank
  unfolding quotient pick
  by_zero h = ap (quotient x) (at g h)

  pub by_minus_one : of_z w32 y ≡ 4294967295 → quotient x y ≡ within (neg_ℤ x)
  unfolding quotient pick
  by_minus_one h = ap (quotient x) (at g h) ∙ ap within (quot_minus_one x)

mag_abs : (n : ℕ) → mag (neg_ℤ (pos n)) ≤ n
mag_abs zero = omega arith
mag_abs (suc n) = omega arith

mag_neg_le : (r : ℕ) {a : ℕ} → r ≤ suc a → mag (neg_ℤ (pos r)) ≤ a
mag_neg_le zero h = omega arith
mag_neg_le (suc r) h = omega arith

quot_mag : (x y : ℤ) → mag x < 2 ^ 31 → (y ≡ negsuc 0 → ⊥) → mag (quot_z x y) < 2 ^ 31
quot_mag (pos a) (pos b) h e = omega (arith, div-le_self a b)
quot_mag (pos a) (negsuc b) h e = omega (arith, mag_abs (a / suc b), div-le_self a (suc b))
quot_mag (negsuc a) (pos b) h e = omega (arith, mag_neg_le (suc a / b) (div-le_self (suc a) b))
quot_mag (negsuc a) (negsuc zero) h e = absurd (e refl)
quot_mag (negsuc a) (negsuc (suc b)) h e =
    omega (arith, div-lt_self {n = suc a} {k = suc (suc b)} (omega arith) (omega arith))

pub nonzero : (y : ℤ) → (y ≡ pos 0 → ⊥) → is_zero y ≡ false
nonzero (pos n) h = ne_eqb n 0 (λ e. h (ap pos e))
nonzero (negsuc n) h = refl

module _ {x y : ℤ} (f : SFits w32 x) (g : SFits w32 y) (h : of_z w32 y ≡ 0 → ⊥) where
  module _ (k : of_z w32 y ≡ 4294967295 → ⊥) where
    quot_fits : SFits w32 (quot_z x y)
    quot_fits = record { sfits = quot_mag x y f.sfits (not_at 4294967295 (Fits-lit tt) k) }

    -- what `x / y` gives
    pub divided : number (back (quot_z (back x) (back y))) ≡ quotient x y
    unfolding quotient pick
    divided =
        rw (is_back f, is_back g, is_back quot_fits, nonzero y (λ e. h (ap (of_z w32) e)))
        (sym (is_within (quot_z x y) quot_fits))

-- for the code's results
pub ruleset results = (same_bits, narrowed, lowest_blank, negated_number, by_zero, by_minus_one, divided)

-- ---- difference of ticks

pub round_in : (x y : ℤ) → in32 (goes_round x y) ≡ true
unfolding goes_round
round_in x y = signed_in ((of_z w32 x + (2 ^ 32 - of_z w32 y)) % 2 ^ 32)
