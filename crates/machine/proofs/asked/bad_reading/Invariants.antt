use Rattle.std.specs.Prelude.{ℕ, ◌+◌, ◌-◌, ◌≡◌}
use Rattle.program.specs.Bytes.{global_kind}
use Rattle.program.specs.Kind.{legal}
use Rattle.remus.specs.Turn.{bad_reading, reading_at}
use Rattle.value.specs.Test.{sweep}
use Rattle.machine.proofs.asked.bad_reading.Given as goal

abbrev pub invariant-loop-k : goal.invariant-loop-k
invariant-loop-k l =
    sweep (λ (i : ℕ). legal l.program (global_kind l.program (i + 1)) (reading_at l.readings i)) l.k (l.k-end - l.k)
    ≡ bad_reading l.program l.readings
