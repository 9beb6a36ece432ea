use Rattle.std.proofs.Common.{◌∙◌, ap}
use Rattle.answer.proofs.Handed.{handed_on}
use Rattle.image.specs.Start.{start_by, start_of}
use Rattle.image.proofs.Starts.{start_refused_lem}
use Rattle.image.proofs.calls.start.Goals as goal

pub returns : goal.returns
unfolding start_of
returns c = c.start_sized.ensures ∙ ap (start_by _ _) c.in_ok-size.ensures

pub returns-in_err-size : goal.returns-in_err-size
unfolding start_of
returns-in_err-size c = rw (handed_on _ c.from_residual.ensures.1) (start_refused_lem _ _ _ ∙ ap (start_by _ _) c.in_err-size.ensures)
