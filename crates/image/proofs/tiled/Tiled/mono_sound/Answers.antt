use Rattle.image.proofs.Ands.{and_goes, and_stops}
use Rattle.image.specs.Passes.{slot_sound}
use Rattle.value.proofs.Tests.{eq!, eq×, same_and4, same_eq, same_lt}
use Rattle.std.specs.Prelude.{refl}
use Rattle.std.proofs.Common.{◌∙◌, arith}
use Rattle.image.proofs.tiled.Tiled.mono_sound.Goals as goal

pub returns-then-mark-ne-DEPLOYMENT : goal.returns-then-mark-ne-DEPLOYMENT
unfolding slot_sound
returns-then-mark-ne-DEPLOYMENT c = and_stops _ (eq× (λ e. c.if-mark-ne-DEPLOYMENT.true (c.mark.ensures ∙ e)))

pub returns : goal.returns
unfolding slot_sound
returns c = rw (← c.content-c.ensures)
    (and_goes (eq! (omega arith))
    (same_and4 (same_lt refl refl) c.is_start.ensures (same_eq c.reactor.ensures refl)
    (same_eq c.next.ensures refl)))
