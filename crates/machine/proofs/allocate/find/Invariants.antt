use Rattle.program.specs.Bytes.{reactors}
use Rattle.remus.specs.Exec.{find}
use Rattle.std.specs.Prelude.{◌-◌, ◌≡◌}
use Rattle.machine.proofs.allocate.find.Given as goal

abbrev pub invariant-loop-i : goal.invariant-loop-i
invariant-loop-i l = find (l._i-end - l._i) l.memory l.q l.c ≡ find (reactors l.program) l.memory l.q l.head
