use Rattle.std.specs.Prelude.{ℕ, ◌≤◌, ◌≡◌}
use Rattle.program.specs.Bytes.{commands_d, command_at}
use Rattle.program.specs.Location.{results}
use Rattle.program.proofs.location.results_from.Given as goal

abbrev pub invariant-loop-j : goal.invariant-loop-j
invariant-loop-j l =
    ((r : ℕ) → l.at ≡ command_at l.program r (commands_d l.program r) → l.m ≡ results l.program r l.j) × (l.m ≤ l.j)
