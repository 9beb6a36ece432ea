use Rattle.std.specs.Prelude.{◌-◌, ◌≡◌}
use Rattle.std.proofs.Common.{sym, ◌∙◌, ap, arith, not}
use Rattle.program.specs.Bytes.{globals}
use Rattle.remus.specs.Turn.{bad_reading}
use Rattle.value.proofs.Sweeps.{sweep_done, sweep_found, sweep_next}
use Rattle.value.proofs.Tests.{passed, refused}
use Rattle.machine.proofs.asked.bad_reading.Goals as goal

pub loop-k-init : goal.loop-k-init
unfolding bad_reading
loop-k-init c =
    let e : c.globals-k-end.result - 0 ≡ globals c.args.program.now = omega (arith, c.globals-k-end.ensures) in rw e

pub returns-then-not-reading_legal : goal.returns-then-not-reading_legal
returns-then-not-reading_legal c = (
  sym (sweep_found _ _ _ c.loop-k-test.true (refused c.reading_legal.ensures (ap not c.if-not-reading_legal.true))
      ∙ c.loop-k.invariant),
  omega (arith, c.globals-k-end.ensures),
)

pub loop-k-preserved : goal.loop-k-preserved
loop-k-preserved c =
    sym (sweep_next _ _ _ c.loop-k-test.true (passed c.reading_legal.ensures (ap not c.if-not-reading_legal.false)))
    ∙ c.loop-k.invariant

pub returns : goal.returns
returns c = omega (arith, sweep_done _ _ _ c.loop-k-test.false ∙ c.loop-k.invariant, c.globals-k-end.ensures)
