use Rattle.std.proofs.Common.{sym, inl, inr}
use Rattle.rig.proofs.Numbers.{done_runs, no_room_runs, too_deep_runs, not_run}
use Rattle.rig.proofs.pack.ran.Goals as goal

pub returns-in-Ok : goal.returns-in-Ok
returns-in-Ok c = rw c.in-Ok.is (sym done_runs)

pub returns-in-NoRoom : goal.returns-in-NoRoom
returns-in-NoRoom c = rw c.in-Err.is
    (elim c.in-NoRoom.is [ inl e ↦ rw e.1 (sym no_room_runs) | inr e ↦ rw e.1 (sym too_deep_runs) ])

pub returns-in_default : goal.returns-in_default
returns-in_default c = rw c.in-Err.is
    (sym (not_run c.in-Err.why c.in_default.not-NoRoom c.in_default.not-TooDeep))
