use Rattle.answer.proofs.Handed.{handed_on}
use Rattle.machine.proofs.Turning.{ready_off, ready_on}
use Rattle.machine.specs.Clauses.{ready_of}
use Rattle.std.proofs.Common.{ap, ◌∙◌}
use Rattle.machine.proofs.calls.ready.Goals as goal

pub returns : goal.returns
returns c = c.asked.ensures ∙ ready_on _ _ _ _ _ c.in_ok-map_err.ensures.cases ∙ ap (ready_of _ _ _ _) c.sound_by.ensures

pub returns-in_err-map_err : goal.returns-in_err-map_err
returns-in_err-map_err c = rw (handed_on _ c.from_residual.ensures.1)
    (ready_off _ _ _ _ _ _ c.in_err-map_err.ensures.cases ∙ ap (ready_of _ _ _ _) c.sound_by.ensures)
