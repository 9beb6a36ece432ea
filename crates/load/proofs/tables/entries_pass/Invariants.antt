use Rattle.std.specs.Prelude.{ℕ, ◌≡◌}
use Rattle.load.specs.Tables.{entry_legal}
use Rattle.program.specs.Bytes.{entry_at}
use Rattle.value.specs.Test.{◌=?◌, sweep}
use Rattle.load.proofs.tables.entries_pass.Given as goal

abbrev pub invariant-loop-r : goal.invariant-loop-r
invariant-loop-r l =
    (l.all ≡ (sweep (λ (r : ℕ). sweep (entry_legal l.program r) 0 4 =? 4) 0 l.r =? l.r)) × (l.at ≡ entry_at l.program l.r)
