use Rattle.std.specs.Prelude.{ℕ, ◌<◌, ◌≡◌, refl, get_or}
use Rattle.std.proofs.Common.{sym, ◌∙◌, ap, arith}
use Rattle.load.specs.Scan.{settled}
use Rattle.value.proofs.Tests.{both!, both?, cases, flags, lt?, lt×?}
use Rattle.value.specs.Test.{◌<?◌}
use Rattle.load.proofs.Locations.settled_from.Goals as goal

pub loop-l-init : goal.loop-l-init
loop-l-init c = (λ e i a b. absurd (omega arith), λ h. refl)

pub loop-l-preserved : goal.loop-l-preserved
loop-l-preserved c = let loop = c.loop-l in
    let here = c.settled-all.ensures in (
      λ e i a b.
          let q = both? (sym (flags _ _) ∙ e) in
          cases (i <? loop.l) (λ m. let w : i < loop.l = lt? m in loop.invariant.0 q.0 i a (omega arith))
          (λ m. let w : loop.l ≡ i = omega (arith, lt×? m) in ap
          (λ (i : ℕ). settled (get_or c.args.self.now.standing i 0)) (sym w) ∙ sym here ∙ q.1),
      λ h. flags _ _ ∙ both! (loop.invariant.1 h) (here ∙ h _ (omega arith)),
    )

pub returns : goal.returns
returns c = let loop = c.loop-l in
    (λ e i a b. loop.invariant.0 e i a (omega arith), loop.invariant.1)
