use Rattle.std.proofs.Common.{inl, inr}
use Rattle.rig.specs.Clauses.{call_of}
use Rattle.rig.proofs.Facing.{start_turned}
use Rattle.rig.proofs.rooms.Request.on_words.Goals as goal

pub returns-in-Start : goal.returns-in-Start
unfolding call_of
returns-in-Start c = rw c.in-Start.is (start_turned _ _ _ _ _ c.start.ensures)

pub returns-in-Turn : goal.returns-in-Turn
unfolding call_of
returns-in-Turn c = elim c.in-Turn.is [ inl e ↦ rw e c.turn.ensures | inr e ↦ rw e.1 c.turn.ensures ]
