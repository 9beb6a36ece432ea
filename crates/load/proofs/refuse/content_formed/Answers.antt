use Rattle.program.specs.Kind.{content_legal}
use Rattle.value.proofs.Tests.{same_and3, same_eq}
use Rattle.std.specs.Prelude.{refl}
use Rattle.std.proofs.Common.{◌∙◌, ap}
use Rattle.load.proofs.refuse.content_formed.Goals as goal

pub returns : goal.returns
returns c = same_and3 (same_eq refl refl) refl
    (c.content_legal.ensures ∙ ap (content_legal _ _) c.v-v.ensures)
