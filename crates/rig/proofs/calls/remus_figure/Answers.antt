use Rattle.rig.proofs.Facing.{answer_faced}
use Rattle.rig.proofs.calls.remus_figure.Goals as goal

pub returns : goal.returns
returns c = let at_figure = c.figure-f in
    let number = c.number in
    let place = c.place in
    answer_faced c.pack.ensures _ _ at_figure.ensures number.ensures place.ensures
