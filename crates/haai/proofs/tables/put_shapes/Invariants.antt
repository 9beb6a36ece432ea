use Rattle.std.specs.Prelude.{◌≡◌, take}
use Rattle.image.specs.Memory.{patch}
use Rattle.haai.specs.Writing.{shapes_by}
use Rattle.haai.proofs.tables.put_shapes.Given as goal

abbrev pub invariant-loop-j : goal.invariant-loop-j
invariant-loop-j l = l.out ≡ patch l.initial.out l.at (shapes_by (take l.j l.sizes))
