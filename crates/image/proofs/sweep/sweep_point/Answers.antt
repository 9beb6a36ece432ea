use Rattle.image.proofs.Sweeping.{pair_mark, pair_content, point_swept}
use Rattle.std.proofs.Common.{sym, ◌∙◌}
use Rattle.image.proofs.sweep.sweep_point.Goals as goal

pub returns : goal.returns
returns c = λ l at e.
    let read = c.pair-v.ensures in
    let is = c.if-v-ne-POINT.false in
    point_swept _ _ _ _ _ _ _ _ (sym (pair_mark _ _ _ l _ _ at read) ∙ is) (pair_content _ _ _ l _ _ at read)
    (c.sweep_chain.ensures e)
