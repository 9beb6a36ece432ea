-- A test at each number below n: computed at once, and read off at one.
use Rattle.std.specs.Prelude.{ℕ, zero, suc, ◌<◌, ◌≡◌, refl, Bool, true, false, ◌&&◌}
use Rattle.std.proofs.Common.{◌∙◌, ap, ⊎_elim}
use Rattle.std.proofs.lemmas.Bool.{false≢true}
use Rattle.std.proofs.Common.{arith}
use Rattle.std.proofs.Common.{le_of_suc-le-suc, not-suc-le-zero, eq-or-lt_of_le}

-- t holds at each number below n
abbrev pub all_below : ℕ → (ℕ → Bool) → Bool
all_below zero t = true
all_below (suc n) t = t n && all_below n t

pub both : (a b : Bool) → (a && b) ≡ true → (a ≡ true) × (b ≡ true)
both true b e = (refl, e)
both false b e = absurd (false≢true e)

-- a number up to n is n or below it
pub last_or_below : {A : Type 0} (i n : ℕ) → i < suc n → (i ≡ n → A) → (i < n → A) → A
last_or_below i n h here below = ⊎_elim here below (eq-or-lt_of_le (le_of_suc-le-suc h))

pub at : (n : ℕ) (t : ℕ → Bool) → all_below n t ≡ true → (i : ℕ) → i < n → t i ≡ true
at zero t e i h = absurd (not-suc-le-zero h)
at (suc n) t e i h =
    let b = both (t n) (all_below n t) e in
    last_or_below i n h (λ q. ap t q ∙ b.0) (λ l. at n t b.1 i l)

pub all : (n : ℕ) (t : ℕ → Bool) → ((i : ℕ) → i < n → t i ≡ true) → all_below n t ≡ true
all zero t h = refl
all (suc n) t h = simp (h n (omega arith)) (all n t (λ i l. h i (omega arith)))
