use Rattle.std.specs.Prelude.{◌≡◌}
use Rattle.load.specs.Tables.{header_legal}
use Rattle.value.specs.Test.{◌=?◌, sweep}
use Rattle.load.proofs.tables.header_passes.Given as goal

abbrev pub invariant-loop-i : goal.invariant-loop-i
invariant-loop-i l = l.all ≡ (sweep (header_legal l.program) 0 l.i =? l.i)
