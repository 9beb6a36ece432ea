use Rattle.answer.proofs.Handed.{handed_on}
use Rattle.answer.specs.Answer.{number_of}
use Rattle.load.specs.Check.{checked}
use Rattle.machine.proofs.Safety.{sure}
use Rattle.machine.specs.Clauses.{previewed}
use Rattle.remus.specs.Preview.{preview_by, preview_of, preview_refused}
use Rattle.std.specs.Prelude.{refl}
use Rattle.std.proofs.Common.{ap, sym}
use Rattle.machine.proofs.calls.preview.Goals as goal

pub preview_accepted-requires : goal.preview_accepted-requires
unfolding checked
preview_accepted-requires c = let e = c.in_ok-judge.ensures.ruling in
    record { sure = sure _ _ e (c.in_ok-judge.ensures.facts refl); accepted = ap number_of (sym e) }

pub returns : goal.returns
unfolding preview_of checked
returns c = rw (← c.in_ok-judge.ensures.ruling) c.preview_accepted.ensures

pub returns-in_err-judge : goal.returns-in_err-judge
unfolding preview_of preview_by preview_refused previewed checked
returns-in_err-judge c = rw (handed_on _ c.from_residual.ensures.1, ← c.in_err-judge.ensures.ruling)

pub judge-requires : goal.judge-requires
judge-requires c = refl
