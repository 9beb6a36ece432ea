use Rattle.std.specs.Prelude.{ℕ, ◌*◌, ◌≤◌, ◌<◌, ◌≡◌, refl, true, get_or}
use Rattle.std.proofs.Common.{sym, ◌∙◌, ap, arith}
use Rattle.program.specs.Location.{most_locations}
use Rattle.load.specs.Scan.{complete, settled, standing_at}
use Rattle.value.proofs.Sweeps.{sweeps?}
use Rattle.value.proofs.Tests.{both!, both?, cases, flags, lt?, lt×?, same_test}
use Rattle.value.specs.Test.{◌<?◌, ◌or◌}
use Rattle.load.proofs.Locations.complete.Goals as goal

-- nothing is missing where nothing stands
settled-none : settled 0 ≡ true
unfolding settled ◌or◌ ◌<?◌
settled-none = refl

pub loop-k-init : goal.loop-k-init
loop-k-init c = (λ e i a b. absurd (omega arith), λ h. refl)

pub loop-k-preserved : goal.loop-k-preserved
loop-k-preserved c = let loop = c.loop-k in
    let part = c.settled_from-all.ensures in (
      λ e i a b.
          let q = both? (sym (flags _ _) ∙ e) in
          cases (i <? 16 * loop.k) (λ m. loop.invariant.0 q.0 i (lt? m) b)
          (λ m. let w : 16 * loop.k ≤ i = lt×? m in part.0 q.1 i (omega arith) (omega arith)),
      λ h. flags _ _ ∙ both! (loop.invariant.1 h) (part.1 h),
    )

pub returns : goal.returns
unfolding complete standing_at settled
returns c = let args = c.args in
    let loop = c.loop-k in
    let all = sweeps? (λ (l : ℕ). settled (get_or args.self.now.standing l 0)) 0 most_locations most_locations refl in
    λ m.
    same_test _ _
    (λ e. all.1 (λ i low high.
    cases (i <? args.n) (λ q. let w : i < args.n = lt? q in loop.invariant.0 e i (omega arith) high)
    (λ q. ap settled (c.requires.within i (lt×? q)) ∙ settled-none)))
    (λ e. loop.invariant.1 (λ i high. all.0 e i (omega arith) high))
