use Rattle.std.specs.Prelude.{◌+◌, ◌*◌, ◌≤◌, ◌≡◌}
use Rattle.program.specs.Bytes.{commands_at}
use Rattle.program.proofs.entry.commands_at.Given as goal

abbrev pub invariant-loop-i : goal.invariant-loop-i
invariant-loop-i l = (l.at ≡ commands_at l.program l.i) × (l.at ≤ 65536 + 4080 * l.i)
