use Rattle.std.specs.Prelude.{ℕ, refl}
use Rattle.std.proofs.Common.{◌∙◌, ap, arith}
use Rattle.load.proofs.TableBytes.{shape_inside, shape_next}
use Rattle.load.specs.Tables.{shape_legal}
use Rattle.value.proofs.Sweeps.{sweep_more}
use Rattle.value.proofs.Tests.{same_and}
use Rattle.value.specs.Test.{◌=?◌, sweep}
use Rattle.load.proofs.tables.shapes_pass.Goals as goal

pub loop-s-init : goal.loop-s-init
unfolding sweep ◌=?◌
loop-s-init c = (refl, c.shape_at-at.ensures.is)

pub shape_passes-all-requires : goal.shape_passes-all-requires
shape_passes-all-requires c = let at_shapes = c.shapes-n in
    let args = c.args in
    let pre = c.requires in
    let p = args.program.now in
    let inside = shape_inside p c.loop-s.s (omega (arith, at_shapes.ensures)) (pre) in
    (c.loop-s.invariant.1, omega (arith, c.loop-s.invariant.1, inside), omega arith)

pub overflow_add-at : goal.overflow_add-at
overflow_add-at c = let at_loop = c.loop-s in
    let at_shapes = c.shapes-n in
    let args = c.args in
    let pre = c.requires in
    let p = args.program.now in
    omega (arith, at_loop.invariant.1, shape_inside p at_loop.s (omega (arith, at_shapes.ensures)) (pre))

pub loop-s-preserved : goal.loop-s-preserved
loop-s-preserved c = let at_loop = c.loop-s in
    let args = c.args in
    let p = args.program.now in (
      same_and at_loop.invariant.0 c.shape_passes-all.ensures ∙ sweep_more (λ (s : ℕ). sweep (shape_legal p s) 0 16 =? 16)
          _,
      omega (arith, at_loop.invariant.1, shape_next p at_loop.s),
    )

pub returns : goal.returns
returns c = let at_shapes = c.shapes-n in
    let args = c.args in
    let p = args.program.now in
    c.loop-s.invariant.0 ∙ ap (λ (n : ℕ). sweep (λ (s : ℕ). sweep (shape_legal p s) 0 16 =? 16) 0 n =? n)
    (omega (arith, at_shapes.ensures))
