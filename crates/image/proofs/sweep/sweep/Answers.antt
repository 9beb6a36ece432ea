use Rattle.std.proofs.Common.{not}
use Rattle.std.proofs.Common.{ap}
use Rattle.image.proofs.Merging.{swept_grown}
use Rattle.value.proofs.Tests.{passed}
use Rattle.std.specs.Prelude.{refl}
use Rattle.std.proofs.lemmas.Bool.{false≢true}
use Rattle.image.proofs.sweep.sweep.Goals as goal

pub returns-then-not-headed : goal.returns-then-not-headed
returns-then-not-headed g c = λ e. absurd (false≢true e)

pub returns-then-not-begun : goal.returns-then-not-begun
returns-then-not-begun g c = λ e. absurd (false≢true e)

pub sweep_all-requires : goal.sweep_all-requires
sweep_all-requires g c = let pre = c.requires in
    let begun = c.begun.ensures _ pre.facts (passed refl (ap not c.if-not-begun.false)) in
    record { facts = pre.facts; tiling = record { fits = pre.u_in_bounds; tiled = begun.tiled } }

pub returns : goal.returns
returns g c = let pre = c.requires in
    let head = c.headed.ensures (passed refl (ap not c.if-not-headed.false)) in
    let begun = c.begun.ensures _ pre.facts (passed refl (ap not c.if-not-begun.false)) in
    λ e. swept_grown _ _ _ _ _ _ _ refl pre.some pre.few pre.u_value head begun
    (c.sweep_all.ensures e)
