use Rattle.std.proofs.Common.{not}
use Rattle.std.proofs.Common.{ap}
use Rattle.image.proofs.Ands.{and_goes, and_stops}
use Rattle.image.specs.Passes.{framed}
use Rattle.value.proofs.Tests.{le!, le×, passed, refused}
use Rattle.std.proofs.Common.{arith}
use Rattle.image.proofs.soundness.framed.Goals as goal

pub returns-then-memory-u : goal.returns-then-memory-u
unfolding framed
returns-then-memory-u c = rw (← c.used-u.ensures) (and_stops _ (le× (omega arith)))

pub returns-then-turns-gt-MOST_TURNS : goal.returns-then-turns-gt-MOST_TURNS
unfolding framed
returns-then-turns-gt-MOST_TURNS c = rw (← c.used-u.ensures) (and_goes (le! (omega arith)) (and_stops _ (le× (omega arith))))

pub returns-then-not-main_first : goal.returns-then-not-main_first
unfolding framed
returns-then-not-main_first c = rw (← c.used-u.ensures)
    (and_goes (le! (omega arith))
    (and_goes (le! (omega arith)) (and_stops _ (refused c.main_first.ensures (ap not c.if-not-main_first.true)))))

pub returns-then-not-tiles : goal.returns-then-not-tiles
unfolding framed
returns-then-not-tiles c = rw (← c.used-u.ensures)
    (and_goes (le! (omega arith))
    (and_goes (le! (omega arith))
    (and_goes (passed c.main_first.ensures (ap not c.if-not-main_first.false))
    (and_stops _ (refused c.tiles.ensures (ap not c.if-not-tiles.true))))))

pub returns : goal.returns
unfolding framed
returns c = rw (← c.used-u.ensures)
    (and_goes (le! (omega arith))
    (and_goes (le! (omega arith))
    (and_goes (passed c.main_first.ensures (ap not c.if-not-main_first.false))
    (and_goes (passed c.tiles.ensures (ap not c.if-not-tiles.false)) c.zero_at.ensures))))
