-- Rows of the table of primitives, by number. Assumes nothing.
use Rattle.std.specs.Prelude.{ℕ, zero, suc, ◌+◌, ◌≤◌, ◌<◌, ◌≡◌, refl, ◌≢◌, length}
use Rattle.std.proofs.Common.{subst, ⊎_elim, arith}
use Rattle.std.proofs.Common.{eq-or-lt_of_le}
use lib.ListN.{get_or-eq_default}
use Rattle.value.specs.Primitive.{table, none, row_of, primitive}
use Rattle.value.specs.declared.Value.{Value}
use Rattle.value.specs.Clauses.{number_of}
use Rattle.value.specs.declared.table.Primitive.{Primitive}
use Rattle.value.proofs.Tests.{below}

-- Q holds of the n numbers from k on
abbrev pub Each : (ℕ → Type 0) → ℕ → ℕ → Type 0
Each Q k zero = Unit {0}
Each Q k (suc n) = Q k × Each Q (suc k) n

pub each : (Q : ℕ → Type 0) (k n : ℕ) → Each Q k n → (x : ℕ) → k ≤ x → x < k + n → Q x
each Q k zero qs x low high = absurd (omega arith)
each Q k (suc n) qs x low high =
    ⊎_elim (λ e. subst Q e qs.0) (λ h. each Q (suc k) n qs.1 x h (omega arith)) (eq-or-lt_of_le low)

-- x is none of the n numbers from k on, as the last arm of a `match` has it
abbrev pub Missed : ℕ → ℕ → ℕ → Type 0
Missed k zero x = Unit {0}
Missed k (suc n) x = Missed k n x × (x ≡ k + n → ⊥)

pub missed : (k n x : ℕ) → k ≤ x → Missed k n x → k + n ≤ x
missed k zero x low m = omega arith
missed k (suc n) x low m = omega (arith, missed k n x low m.0, m.1)

-- a number past the table is no primitive's
pub past : (x : ℕ) → length table ≤ x → row_of x ≡ none
unfolding row_of
past x h = get_or-eq_default table none h

-- a primitive but the choice does not look at its third operand
pub third_unread : (x : ℕ) (a b c d : Value) → x ≢ 11 → primitive x a b c ≡ primitive x a b d
unfolding primitive row_of table
third_unread x a b c d n =
    ⊎_elim
    (λ (h : x < 11). each (λ x. primitive x a b c ≡ primitive x a b d) 0 11
    (refl, (refl, (refl, (refl, (refl, (refl, (refl, (refl, (refl, (refl, (refl, tt))))))))))) x (omega arith) h)
    (λ (h : 11 ≤ x).
    ⊎_elim
    (λ (g : x < 14). each (λ x. primitive x a b c ≡ primitive x a b d) 12 2 (refl, (refl, tt)) x (omega (arith, n)) g)
    (λ (g : 14 ≤ x). rw (past x g)) (below x 14)) (below x 11)

-- a primitive's number is in the table
pub in_table : (p : Primitive) → number_of p < length table
unfolding table
in_table p = grind arith
