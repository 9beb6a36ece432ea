use Rattle.rig.proofs.Facing.{turn_faced_lem}
use Rattle.std.proofs.Common.{sym, arith}
use lib.Seq.{length-take-le, take-length}
use Rattle.rig.proofs.words.remus_turn_words.Goals as goal

pub slice_bounds-turn-end : goal.slice_bounds-turn-end
slice_bounds-turn-end c = sym (length-take-le _ _ (omega arith))

pub returns : goal.returns
returns c = let at_turn = c.turn-t in
    let whole = take-length c.args.program.now in
    let number = c.number in
    let place = c.place in
    turn_faced_lem c.pack.ensures _ _ _ _ (rw whole at at_turn.ensures) number.ensures place.ensures
