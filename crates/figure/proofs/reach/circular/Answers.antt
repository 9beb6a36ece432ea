use Rattle.std.specs.Prelude.{refl}
use Rattle.std.proofs.Common.{◌∙◌}
use Rattle.value.proofs.Tests.{same_eq, same_and, same_or}
use Rattle.figure.specs.Steps.{circular, found}
use Rattle.figure.proofs.reach.circular.Goals as goal

pub returns : goal.returns
unfolding circular found
returns c = let low = c.requires in
    λ p e t.
    same_and (same_or (same_eq refl e) (t.says _ _ low.0 low.1 ∙ rw e refl)) (t.says _ _ low.1 low.1)
