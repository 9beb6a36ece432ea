use Rattle.rig.proofs.Facing.{answer_faced}
use Rattle.rig.proofs.calls.remus_check.Goals as goal

pub returns : goal.returns
returns c = let at_check = c.check-c in
    let number = c.number in
    let place = c.place in
    answer_faced c.pack.ensures _ _ at_check.ensures number.ensures place.ensures
