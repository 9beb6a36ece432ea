use Rattle.answer.proofs.Handed.{handed_on}
use Rattle.load.specs.Check.{checked}
use Rattle.machine.proofs.Safety.{sure}
use Rattle.machine.specs.Clauses.{turned}
use Rattle.remus.specs.Turn.{by_check, turn_refused, turn_of}
use Rattle.std.specs.Prelude.{refl}
use Rattle.machine.proofs.calls.turn.Goals as goal

pub turn_accepted-requires : goal.turn_accepted-requires
unfolding checked
turn_accepted-requires c = sure _ _ c.in_ok-judge.ensures.ruling (c.in_ok-judge.ensures.facts refl)

pub returns : goal.returns
unfolding turn_of checked
returns c = rw (← c.in_ok-judge.ensures.ruling) c.turn_accepted.ensures

pub returns-in_err-judge : goal.returns-in_err-judge
unfolding turn_of by_check turn_refused turned checked
returns-in_err-judge c = rw (handed_on _ c.from_residual.ensures.1, ← c.in_err-judge.ensures.ruling)

pub judge-requires : goal.judge-requires
judge-requires c = refl
