use Rattle.std.specs.Prelude.{ℕ, ◌-◌, ◌≡◌}
use Rattle.machine.specs.Clauses.{no_cell}
use Rattle.program.specs.Bytes.{commands_at}
use Rattle.value.specs.Test.{sweep}
use Rattle.machine.proofs.keeps.has_cell.Given as goal

abbrev pub invariant-loop-j : goal.invariant-loop-j
invariant-loop-j l =
    (r : ℕ) → l.at ≡ commands_at l.program r → sweep (no_cell l.program r) l.j (l.j-end - l.j) ≡ sweep (no_cell l.program r) 0 l.j-end
