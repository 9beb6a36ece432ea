use Rattle.std.specs.Prelude.{ℕ, ◌≡◌, length}
use Rattle.figure.specs.Bound.{sum_below}
use Rattle.figure.specs.Clauses.{Capped}
use Rattle.figure.proofs.Capping.{of_shape}
use Rattle.figure.proofs.bound.shape_sums.Given as goal

abbrev pub invariant-loop-q : goal.invariant-loop-q
invariant-loop-q l =
    (length l.sums ≡ 256)
    × ((b : ℕ → ℕ) → Capped l.bounds b → Capped l.sums (λ s. sum_below (of_shape l.program b s) l.q))
