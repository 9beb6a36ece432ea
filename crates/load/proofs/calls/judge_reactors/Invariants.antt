use Rattle.std.specs.Prelude.{◌-◌, ◌≤◌, ◌≡◌}
use Rattle.load.specs.Check.{accepted, reactors_of}
use Rattle.program.proofs.Known.{Upto}
use Rattle.program.specs.Bytes.{commands_at, reactors}
use Rattle.load.proofs.calls.judge_reactors.Given as goal

abbrev pub invariant-loop-r : goal.invariant-loop-r
invariant-loop-r l =
    (reactors_of (accepted l.program) (reactors l.program) l.program 0 ≡ reactors_of
    (accepted l.program) (reactors l.program - l.r) l.program l.r)
    × (l.r ≤ reactors l.program) × (l.first ≡ commands_at l.program l.r) × Upto l.program l.facts l.r
