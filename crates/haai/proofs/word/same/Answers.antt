use Rattle.std.proofs.Common.{◌∙◌}
use Rattle.haai.proofs.Words.{same_is}
use Rattle.haai.proofs.word.same.Goals as goal

pub returns : goal.returns
returns c = c.eq.ensures ∙ same_is c.args.a.now c.args.b.now
