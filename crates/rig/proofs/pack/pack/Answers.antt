use Rattle.std.specs.Prelude.{◌+◌, ◌*◌}
use Rattle.std.proofs.Common.{◌∙◌, ap}
use Rattle.rig.specs.Words.{packed}
use Rattle.rig.proofs.Pinned.{cut}
use Rattle.rig.proofs.pack.pack.Goals as goal

pub returns : goal.returns
unfolding packed
returns c = ap (λ q. c.args.number * 4294967296 + q) (c.min.ensures ∙ cut c.args.place)
