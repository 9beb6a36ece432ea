use Rattle.std.specs.Prelude.{refl}
use Rattle.value.proofs.Tests.{yes, no}
use Rattle.load.proofs.refuse.unless.Goals as goal

pub returns-then-ok : goal.returns-then-ok
returns-then-ok c = yes _ c.if-ok.true refl

pub returns-else-ok : goal.returns-else-ok
returns-else-ok c = no _ c.if-ok.false refl
