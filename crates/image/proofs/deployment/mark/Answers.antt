use Rattle.image.specs.Memory.{mark, word}
use Rattle.std.proofs.Common.{◌∙◌, ap}
use Rattle.image.proofs.deployment.mark.Goals as goal

pub returns : goal.returns
unfolding mark
returns c = c.word.ensures ∙ ap (word _) c.slot-i.ensures.is
