-- Tests asked and numbers added one place at a time, as a loop does; and a sum below n as one over the list of the
-- numbers below n, `sum_from`, by which it has the laws of such sums.
use Rattle.std.specs.Prelude.{ℕ, zero, suc, ◌+◌, ◌≤◌, ◌<◌, ◌≡◌, refl, Bool}
use Rattle.std.proofs.Common.{◌∙◌, ap, arith}
use Rattle.value.specs.Test.{◌or◌}
use Rattle.image.proofs.Exact.Lists.{from, from_in, from_length, total, total_ones, total_spare}
use Rattle.figure.specs.Steps.{anywhere}
use Rattle.figure.specs.Bound.{sum_below}

pub anywhere_next : (t : ℕ → Bool) (n : ℕ) → (anywhere t n or t n) ≡ anywhere t (n + 1)
unfolding anywhere
anywhere_next t n = let e : n + 1 ≡ suc n = omega arith in rw e refl

pub sum_next : (f : ℕ → ℕ) (n : ℕ) → sum_below f n + f n ≡ sum_below f (n + 1)
unfolding sum_below
sum_next f n = let e : n + 1 ≡ suc n = omega arith in rw e refl

from_last : (f : ℕ → ℕ) (n j : ℕ) → total f (from (suc n) j) ≡ total f (from n j) + f (j + n)
unfolding total from
from_last f zero j = let e : f (j + 0) ≡ f j = ap f (omega arith) in omega arith
from_last f (suc n) j =
    let e : f (j + 1 + n) ≡ f (j + suc n) = ap f (omega arith) in omega (arith, from_last f n (j + 1))

pub sum_from : (f : ℕ → ℕ) (n : ℕ) → sum_below f n ≡ total f (from n 0)
unfolding sum_below total from
sum_from f zero = refl
sum_from f (suc n) = let e : f (0 + n) ≡ f n = ap f (omega arith) in omega (arith, sum_from f n, from_last f n 0)

pub sum_less : (f g : ℕ → ℕ) (n j : ℕ) → j < n → ((q : ℕ) → q < n → f q ≤ g q) → f j < g j
    → sum_below f n < sum_below g n
sum_less f g n j l h s =
    let more = total_spare f g 1 ((from_in n 0 j).1 (omega arith)) (λ q i. h q (omega (arith, (from_in n 0 q).0 i)))
    (omega arith) in
    omega (arith, sum_from f n, sum_from g n)

pub sum_ones : (n : ℕ) → sum_below (λ q. 1) n ≡ n
sum_ones n = sum_from (λ q. 1) n ∙ total_ones (from n 0) ∙ from_length n 0
