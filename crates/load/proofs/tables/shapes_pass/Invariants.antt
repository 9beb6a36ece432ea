use Rattle.std.specs.Prelude.{ℕ, ◌≡◌}
use Rattle.load.specs.Tables.{shape_legal}
use Rattle.program.specs.Bytes.{shape_at}
use Rattle.value.specs.Test.{◌=?◌, sweep}
use Rattle.load.proofs.tables.shapes_pass.Given as goal

abbrev pub invariant-loop-s : goal.invariant-loop-s
invariant-loop-s l =
    (l.all ≡ (sweep (λ (s : ℕ). sweep (shape_legal l.program s) 0 16 =? 16) 0 l.s =? l.s)) × (l.at ≡ shape_at l.program l.s)
