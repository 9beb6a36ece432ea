-- 1.14 What a quotient is, said without dividing: times the divisor, and with a rest that is smaller than the divisor
-- and has the dividend's sign or is 0, it makes up the dividend.
use Rattle.std.specs.Prelude.{ℕ, ◌<◌, ◌≡◌, ◌↔◌, ◌≢◌, int_div, unsigned_abs}
use Rattle.std.specs.Prelude.{ℤ, pos, negsuc, ◌+ℤ◌, ◌*ℤ◌, neg_ℤ}

-- n with the sign of x
abbrev pub signed_as : ℤ → ℕ → ℤ
signed_as (pos a) n = pos n
signed_as (negsuc a) n = neg_ℤ (pos n)

pub record Division (x y q r : ℤ) : Type 0 where
  pub whole : q *ℤ y +ℤ r ≡ x
  pub small : unsigned_abs r < unsigned_abs y
  pub sign : r ≡ signed_as x (unsigned_abs r)

-- There is one such number for each dividend and divisor but 0, and it is the kit's:
-- `exact_quotient` in proofs/Division.antt.
abbrev pub ExactQuotient : Type 0
ExactQuotient = (x y q : ℤ) → y ≢ pos 0 → (q ≡ int_div x y) ↔ ((r : ℤ) × Division x y q r)
