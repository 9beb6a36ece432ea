use Rattle.std.specs.Prelude.{ℕ, ◌-◌, ◌≡◌, List, length}
use Rattle.image.specs.Clauses.{command_sound, Placed, Sweeps, SlotsSwept}
use Rattle.image.specs.Passes.{children_from}
use Rattle.value.specs.Test.{◌=?◌, sweep}
use Rattle.image.proofs.sweep.sweep_slots.Given as goal

abbrev pub invariant-loop-j : goal.invariant-loop-j
invariant-loop-j l =
    (length l.table ≡ length l.initial.table) × (Placed l.o l.k l.table)
    × ((t : List ℕ)
    → Sweeps l.o (children_from l.program l.memory (l.j-end - l.j) l.j l.o)
    (λ (r : List ℕ). sweep (command_sound l.program l.memory r l.o) l.j (l.j-end - l.j) =? l.j-end) l.table t
    → SlotsSwept l.program l.memory l.o l.initial.table t)
