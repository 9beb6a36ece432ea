use Rattle.std.specs.Prelude.{refl}
use Rattle.std.proofs.Common.{inl, inr}
use Rattle.rig.specs.Clauses.{saves}
use Rattle.rig.proofs.rooms.Request.saves.Goals as goal

pub returns-in-Start : goal.returns-in-Start
unfolding saves
returns-in-Start c = elim c.in-Start.is [ inl e ↦ rw e refl | inr e ↦ rw e refl ]

pub returns-in-Preview : goal.returns-in-Preview
unfolding saves
returns-in-Preview c = rw c.in-Preview.is c.ran.ensures
