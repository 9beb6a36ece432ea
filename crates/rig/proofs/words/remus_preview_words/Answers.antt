use Rattle.rig.proofs.Facing.{preview_faced_lem}
use Rattle.rig.proofs.words.remus_preview_words.Goals as goal

pub returns : goal.returns
returns c = let at_preview = c.preview-v in
    preview_faced_lem c.pack.ensures _ _ _ _ at_preview.ensures c.number.ensures
    c.place.ensures
