use Rattle.std.specs.Prelude.{ℕ, ◌-◌, ◌≡◌, List, length}
use Rattle.image.specs.Clauses.{Tiling, starts_on, Swept}
use Rattle.image.proofs.sweep.sweep_all.Given as goal

abbrev pub invariant-loop-a : goal.invariant-loop-a
invariant-loop-a l =
    (Tiling l.program l.memory l.u l.a) × (length l.table ≡ length l.initial.table)
    × ((t : List ℕ) → Swept l.program l.memory (starts_on l.program l.memory l.u l.a) l.table t
    → Swept l.program l.memory (starts_on l.program l.memory l.u 2) l.initial.table t)

abbrev pub decreases-loop-a : goal.decreases-loop-a
decreases-loop-a l = l.u - l.a
