use Rattle.image.specs.Memory.{size_at}
use Rattle.program.specs.Location.{size_of}
use Rattle.std.proofs.Common.{◌∙◌, ap}
use Rattle.image.proofs.deployment.size_at.Goals as goal

pub returns : goal.returns
unfolding size_at
returns c = record { is = c.size_of.ensures.is ∙ ap (size_of _) c.reactor-r.ensures; small = c.size_of.ensures.small }
