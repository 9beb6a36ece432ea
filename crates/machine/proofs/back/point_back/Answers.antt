use Rattle.image.specs.Memory.{content, store}
use Rattle.remus.specs.Undo.{slot_back}
use Rattle.machine.proofs.back.point_back.Goals as goal

pub returns : goal.returns
unfolding slot_back store content
returns c = let at_word = c.word-head in
    let at_first_below = c.first_below-c in
    let at_put_pair = c.put_pair in
    λ o l x e. rw (← e, ← at_word.ensures, ← at_first_below.ensures) at_put_pair.ensures
