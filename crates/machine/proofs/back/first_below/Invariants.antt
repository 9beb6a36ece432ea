use Rattle.std.specs.Prelude.{◌+◌, ◌-◌, ◌≡◌}
use Rattle.program.specs.Bytes.{reactors}
use Rattle.remus.specs.Undo.{below}
use Rattle.machine.proofs.back.first_below.Given as goal

abbrev pub invariant-loop-i : goal.invariant-loop-i
invariant-loop-i l = below (l._i-end - l._i) l.memory l.u l.c ≡ below (reactors l.program + 1) l.memory l.u l.head
