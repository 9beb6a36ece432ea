use Rattle.remus.specs.Cells.{kept}
use Rattle.value.proofs.Tests.{eq!, eq×, no, yes}
use Rattle.std.specs.Prelude.{refl}
use Rattle.machine.proofs.cells.kept.Goals as goal

pub returns-then-v-eq-KEPT : goal.returns-then-v-eq-KEPT
unfolding kept
returns-then-v-eq-KEPT c = yes _ (eq! c.if-v-eq-KEPT.true) c.blank.ensures

pub returns : goal.returns
unfolding kept
returns c = no _ (eq× c.if-v-eq-KEPT.false) refl
