use Rattle.std.proofs.Common.{sym, ◌∙◌, inl, inr}
use Rattle.rig.specs.Clauses.{room_of}
use Rattle.rig.proofs.Holding.{all_words}
use Rattle.rig.proofs.rooms.Request.fill.Goals as goal

pub returns-in-Start : goal.returns-in-Start
unfolding room_of
returns-in-Start c = let all = c.load.ensures ∙ all_words c.args.memory.now _ c.requires.room_len in
    elim c.in-Start.is [ inl e ↦ rw e all | inr e ↦ rw e all ]

pub returns-in-Preview : goal.returns-in-Preview
unfolding room_of
returns-in-Preview c = let level = rw c.in-Preview.is at c.requires.level in
    rw c.in-Preview.is
    (c.load-in-Preview.ensures ∙ all_words c.in-Preview.source.now _ (c.requires.room_len ∙ sym level))
