use Rattle.rig.proofs.Facing.{start_faced}
use Rattle.rig.proofs.words.remus_start_words.Goals as goal

pub returns : goal.returns
returns c =
    let faced = start_faced c.pack.ensures _ _ _ c.start-s.ensures c.number.ensures c.place.ensures in
    record { answer = faced.0; memory = faced.1 }
