use Rattle.std.specs.Prelude.{ℕ, refl}
use Rattle.std.proofs.Common.{◌∙◌, ap, arith}
use Rattle.load.proofs.TableBytes.{entry_inside, entry_next}
use Rattle.load.specs.Tables.{entry_legal}
use Rattle.value.proofs.Sweeps.{sweep_more}
use Rattle.value.proofs.Tests.{same_and}
use Rattle.value.specs.Test.{◌=?◌, sweep}
use Rattle.load.proofs.tables.entries_pass.Goals as goal

pub loop-r-init : goal.loop-r-init
unfolding sweep ◌=?◌
loop-r-init c = (refl, c.entry_at-at.ensures.is)

pub entry_passes-all-requires : goal.entry_passes-all-requires
entry_passes-all-requires c = let at_reactors = c.reactors-n in
    let args = c.args in
    let pre = c.requires in
    let p = args.program.now in
    let inside = entry_inside p c.loop-r.r (omega (arith, at_reactors.ensures)) (pre) in
    (c.loop-r.invariant.1, omega (arith, c.loop-r.invariant.1, inside))

pub overflow_add-at : goal.overflow_add-at
overflow_add-at c = let at_loop = c.loop-r in
    let at_reactors = c.reactors-n in
    let args = c.args in
    let pre = c.requires in
    let p = args.program.now in
    omega (arith, at_loop.invariant.1, entry_inside p at_loop.r (omega (arith, at_reactors.ensures)) (pre))

pub loop-r-preserved : goal.loop-r-preserved
loop-r-preserved c = let at_loop = c.loop-r in
    let args = c.args in
    let p = args.program.now in (
      same_and at_loop.invariant.0 c.entry_passes-all.ensures ∙ sweep_more (λ (r : ℕ). sweep (entry_legal p r) 0 4 =? 4) _,
      omega (arith, at_loop.invariant.1, entry_next p at_loop.r),
    )

pub returns : goal.returns
returns c = let at_reactors = c.reactors-n in
    let args = c.args in
    let p = args.program.now in
    c.loop-r.invariant.0 ∙ ap (λ (n : ℕ). sweep (λ (r : ℕ). sweep (entry_legal p r) 0 4 =? 4) 0 n =? n)
    (omega (arith, at_reactors.ensures))
