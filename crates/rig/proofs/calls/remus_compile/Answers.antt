use Rattle.rig.proofs.Facing.{answer_faced}
use Rattle.rig.proofs.calls.remus_compile.Goals as goal

pub returns : goal.returns
returns c = let compile = c.compile-c in
    let number = c.number in
    let place = c.place in
    record { answer = answer_faced c.pack.ensures _ _ compile.ensures.answer number.ensures place.ensures; output = compile.ensures.output }
