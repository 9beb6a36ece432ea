use Rattle.std.proofs.Common.{not}
use Rattle.std.proofs.Common.{ap}
use Rattle.image.proofs.Sweeping.{pair_mark, pair_content, mono_swept}
use Rattle.value.proofs.Tests.{passed, same_and, same_eq}
use Rattle.std.specs.Prelude.{refl}
use Rattle.std.proofs.Common.{sym, ◌∙◌}
use Rattle.std.proofs.lemmas.Bool.{false≢true}
use Rattle.image.proofs.sweep.sweep_mono.Goals as goal

pub returns-then-v-ne-DEPLOYMENT : goal.returns-then-v-ne-DEPLOYMENT
returns-then-v-ne-DEPLOYMENT c = λ p l at e. absurd (false≢true e)

pub returns-then-not-link : goal.returns-then-not-link
returns-then-not-link c = λ p l at e. absurd (false≢true e)

pub returns : goal.returns
returns c = λ p l at e.
    let read = c.pair-v.ensures in
    let is = c.if-v-ne-DEPLOYMENT.false in
    mono_swept _ _ _ _ _ _ _ _ _ (sym (pair_mark p _ _ l _ _ at read) ∙ is) (pair_content p _ _ l _ _ at read)
    (sym (same_and (same_eq c.reactor.ensures refl) (same_eq c.next.ensures refl)) ∙ e)
    (c.link.ensures (passed refl (ap not c.if-not-link.false)))
