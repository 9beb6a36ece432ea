use Rattle.std.proofs.Common.{◌∙◌, ap, arith}
use Rattle.image.specs.Passes.{name, with_table_byte}
use Rattle.value.proofs.Tests.{lt!, lt×, no, yes}
use Rattle.image.proofs.children.name.Goals.{then-n-lt2, else-n-lt2}
use Rattle.image.proofs.children.name.Goals as goal

pub returns : goal.returns
unfolding name
returns c = c.put_table_byte.ensures
    ∙ ap (with_table_byte _ _) (elim c.if-n-lt2.branch [
      | then-n-lt2 w ↦ yes _ (lt! (omega arith)) (omega arith)
      | else-n-lt2 w ↦ no _ (lt× (omega arith)) (omega arith)
    ])
