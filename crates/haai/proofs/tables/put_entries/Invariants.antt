use Rattle.std.specs.Prelude.{◌≡◌, take}
use Rattle.image.specs.Memory.{patch}
use Rattle.haai.specs.Writing.{entries_by}
use Rattle.haai.proofs.tables.put_entries.Given as goal

abbrev pub invariant-loop-j : goal.invariant-loop-j
invariant-loop-j l = l.out ≡ patch l.initial.out l.at (entries_by 0 (take l.j l.sizes))
