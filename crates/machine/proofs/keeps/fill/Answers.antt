use Rattle.image.specs.Memory.{store}
use Rattle.machine.proofs.FactLaws.{value_there}
use Rattle.remus.specs.Cells.{keep_by}
use Rattle.value.proofs.Tests.{eq!, eq×, no, yes}
use Rattle.value.specs.Value.{is_blank}
use Rattle.std.specs.Prelude.{refl}
use Rattle.machine.proofs.keeps.fill.Goals as goal

pub returns-then-v-ne-BLANK : goal.returns-then-v-ne-BLANK
unfolding keep_by is_blank store
returns-then-v-ne-BLANK c = let at_pair = c.pair-v in
    let at_kept = c.kept in
    let at_if1 = c.if-v-ne-BLANK in
    let at_put_pair = c.put_pair in
    λ p o l a k e f. rw (← value_there p _ o l _ _ e at_pair.ensures, ← f, ← at_kept.ensures)
    (no _ (eq× at_if1.true) at_put_pair.ensures)

pub returns-else-v-ne-BLANK : goal.returns-else-v-ne-BLANK
unfolding keep_by is_blank
returns-else-v-ne-BLANK c = let at_pair = c.pair-v in
    let at_if1 = c.if-v-ne-BLANK in
    λ p o l a k e f. rw (← value_there p _ o l _ _ e at_pair.ensures) (yes _ (eq! at_if1.false) refl)
