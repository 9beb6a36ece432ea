use Rattle.std.specs.Prelude.{ℕ, ◌+◌, ◌≤◌, ◌≡◌}
use Rattle.machine.specs.Clauses.{PlacedTo}
use Rattle.program.proofs.Slots.{first_r}
use Rattle.program.specs.Bytes.{command_at, commands_d, commands_r}
use Rattle.program.specs.Location.{results}
use Rattle.machine.proofs.places.Slots.lay_rest.Given as goal

abbrev pub invariant-loop-j : goal.invariant-loop-j
invariant-loop-j l =
    (l.m ≤ l.first + l.j)
    × ((r : ℕ) → l.at ≡ command_at l.program r (commands_d l.program r) → l.first ≡ first_r l.program r → l.n ≤ commands_r l.program r
    → (l.m ≡ first_r l.program r + results l.program r l.j)
    × (PlacedTo l.program r l.initial.self.before l.first → PlacedTo l.program r l.self.before (l.first + l.j)))
