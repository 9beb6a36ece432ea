use Rattle.std.specs.Prelude.{ℕ, ◌-◌, ◌≡◌, List, length}
use Rattle.image.specs.Clauses.{starts_on}
use Rattle.image.specs.Passes.{over, tiles_from, visit}
use Rattle.image.specs.declared.Pass.TheVariants.{Starts}
use Rattle.program.specs.Clauses.{Facts}
use Rattle.image.proofs.sweep.mark_tiles.Given as goal

abbrev pub invariant-loop-a : goal.invariant-loop-a
invariant-loop-a l =
    (length l.table ≡ length l.initial.table)
    × ((p : List ℕ) → Facts p l.facts → tiles_from p l.memory (length l.memory) l.u l.a ≡ tiles_from p l.memory (length l.memory) l.u 2)
    × ((p : List ℕ) → Facts p l.facts
    → over (visit p l.memory Starts) l.table (starts_on p l.memory l.u l.a) ≡ over (visit p l.memory Starts) l.initial.table
    (starts_on p l.memory l.u 2))

abbrev pub decreases-loop-a : goal.decreases-loop-a
decreases-loop-a l = l.u - l.a
