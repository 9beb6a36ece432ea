use Rattle.std.specs.Prelude.{◌≡◌, refl}
use Rattle.std.proofs.Common.{◌∙◌, ap, arith}
use lib.ListN.{length-set}
use Rattle.value.proofs.Zeros.{zeros_at}
use Rattle.program.specs.Bytes.{reactors}
use Rattle.figure.specs.Bound.{sum_below, shape_sum}
use Rattle.figure.specs.Clauses.{capped}
use Rattle.figure.proofs.Capping.{capped_low, of_shape, shape_next}
use Rattle.figure.proofs.bound.shape_sums.Goals as goal

pub loop-q-init : goal.loop-q-init
unfolding sum_below
loop-q-init c = (refl, λ b t s h. zeros_at 256 s ∙ capped_low (omega arith))

pub loop-q-preserved : goal.loop-q-preserved
loop-q-preserved c = let loop = c.loop-q in
    let shape = c.shape_of-s.ensures in (
      length-set loop.sums _ _ ∙ loop.invariant.0,
      λ b t. shape_next _ b loop.sums loop.q _ _ _ loop.invariant.0 (omega arith) shape c.add.ensures
          (t loop.q (omega arith)) (loop.invariant.1 b t),
    )

pub returns : goal.returns
unfolding shape_sum
returns c = λ b t s h.
    let p = c.args.program.now in
    let all : c.loop-q.q ≡ reactors p = omega (arith, c.requires) in
    c.loop-q.invariant.1 b t s h ∙ ap (λ k. capped (sum_below (of_shape p b s) k)) all
