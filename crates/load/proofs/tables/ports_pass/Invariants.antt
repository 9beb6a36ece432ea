use Rattle.std.specs.Prelude.{ℕ, ◌+◌, ◌≡◌}
use Rattle.load.specs.Tables.{port_legal}
use Rattle.program.specs.Bytes.{byte}
use Rattle.value.specs.Test.{◌=?◌, sweep}
use Rattle.load.proofs.tables.ports_pass.Given as goal

abbrev pub invariant-loop-x : goal.invariant-loop-x
invariant-loop-x l = (l.all ≡ (sweep (λ (x : ℕ). port_legal l.s l.n x (byte l.program (l.at + x))) 0 l.x =? l.x))
