use Rattle.std.proofs.Common.{sym, arith}
use Rattle.machine.proofs.Placing.{placed_next}
use Rattle.program.proofs.Slots.{slot_low}
use Rattle.machine.proofs.places.Slots.lay_first.Goals as goal

pub loop-l-init : goal.loop-l-init
loop-l-init c = λ p r h l q. absurd (omega arith)

pub loop-l-preserved : goal.loop-l-preserved
loop-l-preserved c = let loop = c.loop-l in
    λ p r h.
    placed_next p loop.self.before _ r loop.l _ (omega (arith, loop.self.whole)) c.note.ensures (loop.invariant p r h)
    (sym (slot_low p r loop.l (omega arith)))

pub returns : goal.returns
returns c = λ p r h l q. c.loop-l.invariant p r h l (omega arith)
