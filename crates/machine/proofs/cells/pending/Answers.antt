use Rattle.remus.specs.Cells.{pending}
use Rattle.value.proofs.Tests.{eq!, eq×, no, yes}
use Rattle.value.specs.Value.{is_blank}
use Rattle.std.specs.Prelude.{refl}
use Rattle.machine.proofs.cells.pending.Goals as goal

pub returns-then-v-eq-BLANK : goal.returns-then-v-eq-BLANK
unfolding pending is_blank
returns-then-v-eq-BLANK c = yes _ (eq! c.if-v-eq-BLANK.true) refl

pub returns : goal.returns
unfolding pending is_blank
returns c = no _ (eq× c.if-v-eq-BLANK.false) refl
