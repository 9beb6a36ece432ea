use Rattle.image.proofs.Ands.{and_goes, and_stops}
use Rattle.image.specs.Passes.{chain_from, slot_sound}
use Rattle.value.proofs.Tests.{eq!, eq×}
use Rattle.std.proofs.Common.{◌∙◌, ap, arith}
use Rattle.image.proofs.tiled.Tiled.point_sound.Goals as goal

pub returns-then-mark-ne-POINT : goal.returns-then-mark-ne-POINT
unfolding slot_sound
returns-then-mark-ne-POINT c = and_stops _ (eq× (λ e. c.if-mark-ne-POINT.true (c.mark.ensures ∙ e)))

pub returns : goal.returns
unfolding slot_sound
returns c = and_goes (eq! (omega arith))
    (c.chain_sound.ensures ∙ ap (chain_from _ _ _ _ _ _ _ _) c.content-head.ensures)
