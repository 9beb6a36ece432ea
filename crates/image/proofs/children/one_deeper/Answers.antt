use Rattle.image.specs.Passes.{one_deeper}
use Rattle.value.proofs.Tests.{le!, le×, no, yes}
use Rattle.std.specs.Prelude.{refl}
use Rattle.std.proofs.Common.{arith}
use Rattle.image.proofs.children.one_deeper.Goals as goal

pub returns-then-d-le-MOST_DEPTH : goal.returns-then-d-le-MOST_DEPTH
unfolding one_deeper
returns-then-d-le-MOST_DEPTH c = yes _ (le! (omega arith)) refl

pub returns-else-d-le-MOST_DEPTH : goal.returns-else-d-le-MOST_DEPTH
unfolding one_deeper
returns-else-d-le-MOST_DEPTH c = no _ (le× (omega arith)) refl
