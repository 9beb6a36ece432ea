use Rattle.std.specs.Prelude.{ℕ, ◌≡◌, length}
use Rattle.figure.specs.Bound.{bound_by}
use Rattle.figure.specs.Clauses.{Capped, up_to}
use Rattle.figure.proofs.bound.next_bounds.Given as goal

abbrev pub invariant-loop-r : goal.invariant-loop-r
invariant-loop-r l =
    (length l.next ≡ 256) × ((b : ℕ → ℕ) → Capped l.bounds b → Capped l.next (up_to (bound_by l.program b) l.r))
