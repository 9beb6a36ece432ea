use Rattle.load.specs.Scan.{agreed}
use Rattle.load.proofs.Scan.operands_agreed.Goals as goal

pub returns : goal.returns
unfolding agreed
returns c = λ p r. rw (
  ← c.kind_at-j.ensures,
  ← c.kind_at-k.ensures,
  ← c.kind_at-l.ensures,
) c.kinds_fit.ensures
