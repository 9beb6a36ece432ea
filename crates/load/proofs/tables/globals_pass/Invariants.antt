use Rattle.std.specs.Prelude.{ℕ, ◌+◌, ◌≡◌}
use Rattle.program.specs.Bytes.{byte}
use Rattle.value.specs.Test.{◌<?◌, ◌=?◌, sweep}
use Rattle.load.proofs.tables.globals_pass.Given as goal

abbrev pub invariant-loop-i : goal.invariant-loop-i
invariant-loop-i l = (l.all ≡ (sweep (λ (i : ℕ). byte l.program (8 + i) <? 2) 0 l.i =? l.i))
