use Rattle.std.proofs.Common.{not}
use Rattle.image.proofs.Ands.{and_goes, and_stops}
use Rattle.image.specs.Passes.{own_sound}
use Rattle.image.specs.Clauses.{command_sound}
use Rattle.value.proofs.Tests.{eq!, eq×, passed, refused}
use Rattle.std.proofs.Common.{◌∙◌, ap, arith}
use Rattle.image.proofs.tiled.Tiled.own_sound.Goals as goal

pub returns-then-wired-ne1 : goal.returns-then-wired-ne1
unfolding own_sound
returns-then-wired-ne1 c = and_stops _ (eq× (λ e. c.if-wired-ne1.true (c.wired.ensures ∙ e)))

pub returns-then-not-clear_at : goal.returns-then-not-clear_at
unfolding own_sound
returns-then-not-clear_at c = and_goes (eq! (omega arith)) (and_stops _ (refused c.clear_at.ensures (ap not c.if-not-clear_at.true)))

pub returns : goal.returns
unfolding own_sound command_sound
returns c = and_goes (eq! (omega arith))
    (and_goes
    (passed c.clear_at.ensures
    (ap not c.if-not-clear_at.false))
    c.slots_sound.ensures)
