use Rattle.image.specs.Memory.{content, word}
use Rattle.std.proofs.Common.{◌∙◌, ap, arith}
use Rattle.image.proofs.deployment.content.Goals as goal

pub returns : goal.returns
unfolding content
returns c = c.word.ensures ∙ ap (word _) (omega arith)
