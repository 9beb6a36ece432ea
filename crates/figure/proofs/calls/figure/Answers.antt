use Rattle.std.specs.Prelude.{refl}
use Rattle.std.proofs.Common.{sym, ap}
use Rattle.answer.specs.Answer.{number_of}
use Rattle.answer.proofs.Handed.{handed_on}
use Rattle.load.specs.Check.{checked}
use Rattle.load.proofs.Exact.{exact}
use Rattle.figure.specs.Figure.{figured_by, figure_of}
use Rattle.figure.proofs.calls.figure.Goals as goal

pub judge-requires : goal.judge-requires
judge-requires c = refl

pub figured-requires : goal.figured-requires
unfolding checked
figured-requires c = let judged = c.in_ok-judge.ensures in
    record { facts = judged.facts refl; some = ((exact _).0 (ap number_of (sym judged.ruling))).tables.header.some_reactor }

pub returns : goal.returns
unfolding figure_of figured_by checked
returns c = rw (← c.in_ok-judge.ensures.ruling) c.figured.ensures

pub returns-in_err-judge : goal.returns-in_err-judge
unfolding figure_of figured_by checked
returns-in_err-judge c = rw (handed_on _ c.from_residual.ensures.1, ← c.in_err-judge.ensures.ruling)
