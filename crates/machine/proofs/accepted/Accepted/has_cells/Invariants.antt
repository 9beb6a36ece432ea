use Rattle.std.specs.Prelude.{ℕ, ◌-◌, ◌≡◌, not}
use Rattle.machine.specs.Clauses.{has_cell}
use Rattle.value.specs.Test.{sweep}
use Rattle.machine.proofs.accepted.Accepted.has_cells.Given as goal

abbrev pub invariant-loop-r : goal.invariant-loop-r
invariant-loop-r l =
    sweep (λ (k : ℕ). not (has_cell l.self.program.now k)) l.r (l.r-end - l.r) ≡ sweep (λ (k : ℕ). not (has_cell l.self.program.now k)) 0 l.r-end
