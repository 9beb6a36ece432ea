-- The kit's quotient is the one of `Division`, with the kit's remainder as the rest: `exact_quotient`. Assumes nothing.
use Rattle.std.specs.Prelude.{ℕ, zero, suc, ◌+◌, ◌-◌, ◌*◌, ◌/◌, ◌%◌, ◌<◌, ◌≡◌, refl, ◌≢◌}
use Rattle.std.proofs.Common.{sym, ◌∙◌, ap, arith}
use Rattle.std.proofs.Common.{ℤ, pos, negsuc, ◌+ℤ◌, ◌*ℤ◌, neg_ℤ, nat_abs, mod-lt, suc-mul, div-add-mod', lt-ltb}
use lib.Arith.{digits_div}
use lib.IntN.{neg_ℤ-+ℤ, neg_ℤ-neg_ℤ, zero-*ℤ, pos-ne-negsuc}
use lib.Signed.{quot_z, rem_z}
use Rattle.value.specs.Division.{Division, ExactQuotient}

neg_product : (x y : ℤ) → neg_ℤ x *ℤ y ≡ neg_ℤ (x *ℤ y)
neg_product (pos zero) y = rw (zero-*ℤ y) refl
neg_product (pos (suc a)) (pos b) = refl
neg_product (pos (suc a)) (negsuc b) = sym (neg_ℤ-neg_ℤ (pos (suc a * suc b)))
neg_product (negsuc a) (pos b) = sym (neg_ℤ-neg_ℤ (pos (suc a * b)))
neg_product (negsuc a) (negsuc b) = refl

neg_sum : (m n : ℕ) → neg_ℤ (pos m) +ℤ neg_ℤ (pos n) ≡ neg_ℤ (pos (m + n))
neg_sum m n = sym (neg_ℤ-+ℤ (pos m) (pos n))

-- ---- the kit's two make a division

whole : (x y : ℤ) → quot_z x y *ℤ y +ℤ rem_z x y ≡ x
whole (pos a) (pos b) = ap pos (div-add-mod' a b)
whole (pos a) (negsuc b) =
    ap (λ (z : ℤ). z +ℤ pos (a % suc b))
    (neg_product (pos (a / suc b)) (negsuc b) ∙ neg_ℤ-neg_ℤ (pos (a / suc b * suc b)))
    ∙ ap pos (div-add-mod' a (suc b))
whole (negsuc a) (pos b) =
    ap (λ (z : ℤ). z +ℤ neg_ℤ (pos (suc a % b))) (neg_product (pos (suc a / b)) (pos b))
    ∙ neg_sum (suc a / b * b) (suc a % b)
    ∙ ap (λ (n : ℕ). neg_ℤ (pos n)) (div-add-mod' (suc a) b)
whole (negsuc a) (negsuc b) =
    neg_sum (suc a / suc b * suc b) (suc a % suc b)
    ∙ ap (λ (n : ℕ). neg_ℤ (pos n)) (div-add-mod' (suc a) (suc b))

abs_neg : (n : ℕ) → nat_abs (neg_ℤ (pos n)) ≡ n
abs_neg zero = refl
abs_neg (suc n) = refl

some : (y : ℤ) → y ≢ pos 0 → 0 < nat_abs y
some (pos zero) h = absurd (h refl)
some (pos (suc n)) h = omega arith
some (negsuc n) h = omega arith

division : (x y : ℤ) → y ≢ pos 0 → Division x y (quot_z x y) (rem_z x y)
division (pos a) y h = record { whole = whole (pos a) y; small = mod-lt a (some y h); sign = refl }
division (negsuc a) y h =
    let rest = abs_neg (suc a % nat_abs y) in
    record {
      whole = whole (negsuc a) y;
      small = rw rest (mod-lt (suc a) (some y h));
      sign = rw rest refl;
    }

-- ---- and no other number does

-- −m + n with n below m is below zero
below : (m n a : ℕ) → n < m → neg_ℤ (pos m) +ℤ pos n ≢ pos a
below zero n a h e = omega arith
below (suc m) n a h e = pos-ne-negsuc a (m - n) (sym e ∙ still)
  where
    still : negsuc m +ℤ pos n ≡ negsuc (m - n)
    still = rw (lt-ltb n (suc m) h) (ap negsuc (omega arith))

-- a rest that is below one part is below any number of them
few : {n b : ℕ} (c : ℕ) → n < b → n < suc c * b
few {b = b} c h = omega (arith, suc-mul c b)

parts : {c b n a : ℕ} → n < b → c * b + n ≡ a → c ≡ a / b
parts {c} {b} h e = sym (digits_div c h) ∙ ap (λ (m : ℕ). m / b) e

-- from zero on
only_above : (a n : ℕ) (y q : ℤ) → n < nat_abs y → q *ℤ y +ℤ pos n ≡ pos a → q ≡ quot_z (pos a) y
only_above a n (pos b) (pos c) h e = ap pos (parts h (ap nat_abs e))
only_above a n (pos b) (negsuc c) h e = absurd (below (suc c * b) n a (few c h) e)
only_above a n (negsuc b) (pos zero) h e =
    let rest = ap nat_abs (sym (ap (λ (z : ℤ). z +ℤ pos n) (zero-*ℤ (negsuc b))) ∙ e) in
    ap (λ (m : ℕ). neg_ℤ (pos m)) (parts {c = 0} h (omega (arith, rest)))
only_above a n (negsuc b) (pos (suc c)) h e = absurd (below (suc c * suc b) n a (few c h) e)
only_above a n (negsuc b) (negsuc c) h e = ap (λ (m : ℕ). neg_ℤ (pos m)) (parts {c = suc c} h (ap nat_abs e))

neg_quotient : (a : ℕ) (y : ℤ) → neg_ℤ (quot_z (pos (suc a)) y) ≡ quot_z (negsuc a) y
neg_quotient a (pos b) = refl
neg_quotient a (negsuc b) = neg_ℤ-neg_ℤ (pos (suc a / suc b))

only : (x y q r : ℤ) → Division x y q r → q ≡ quot_z x y
only (pos a) y q r d = only_above a (nat_abs r) y q d.small (ap (λ (z : ℤ). q *ℤ y +ℤ z) (sym d.sign) ∙ d.whole)
only (negsuc a) y q r d =
    let n = nat_abs r in
    let rest : neg_ℤ r ≡ pos n = ap neg_ℤ d.sign ∙ neg_ℤ-neg_ℤ (pos n) in
    let above : neg_ℤ q *ℤ y +ℤ pos n ≡ pos (suc a) =
    ap (λ (z : ℤ). neg_ℤ q *ℤ y +ℤ z) (sym rest)
    ∙ ap (λ (z : ℤ). z +ℤ neg_ℤ r) (neg_product q y)
    ∙ sym (neg_ℤ-+ℤ (q *ℤ y) r)
    ∙ ap neg_ℤ d.whole
    in
    sym (neg_ℤ-neg_ℤ q) ∙ ap neg_ℤ (only_above (suc a) n y (neg_ℤ q) d.small above) ∙ neg_quotient a y

pub exact_quotient : ExactQuotient
exact_quotient x y q h =
    ((λ e. (rem_z x y, rw e (division x y h))), λ d. only x y q d.0 d.1)
