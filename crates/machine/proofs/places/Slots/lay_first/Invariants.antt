use Rattle.std.specs.Prelude.{ℕ, ◌≤◌, List}
use Rattle.machine.specs.Clauses.{PlacedTo}
use Rattle.program.proofs.Slots.{first_r}
use Rattle.machine.proofs.places.Slots.lay_first.Given as goal

abbrev pub invariant-loop-l : goal.invariant-loop-l
invariant-loop-l l =
    (p : List ℕ) (r : ℕ) → l.n ≤ first_r p r → PlacedTo p r l.self.before l.l
