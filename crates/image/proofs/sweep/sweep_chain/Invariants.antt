use Rattle.std.specs.Prelude.{ℕ, ◌+◌, ◌-◌, ◌≡◌, List, length, replicate}
use Rattle.image.specs.Memory.{used}
use Rattle.image.specs.Clauses.{Placed, Sweeps}
use Rattle.image.specs.Passes.{chain_from, members_from}
use Rattle.program.specs.Bytes.{reactors}
use Rattle.image.proofs.sweep.sweep_chain.Given as goal

abbrev pub invariant-loop : goal.invariant-loop
invariant-loop l =
    (length l.table ≡ length l.initial.table) × (Placed l.o l.k l.table)
    × ((t : List ℕ)
    → Sweeps l.o (members_from l.program l.memory (l.end - l.counter) l.c) (λ (r : List ℕ). chain_from l.program l.memory
    (l.end - l.counter + 1) r l.o l.s l.last l.seen l.c) l.table t
    → Sweeps l.o (members_from l.program l.memory (reactors l.program) l.head)
    (λ (r : List ℕ). chain_from l.program l.memory (reactors l.program + 1) r l.o l.s (used l.memory) (replicate 64 0) l.head)
    l.initial.table t)
