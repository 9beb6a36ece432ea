use Rattle.std.specs.Prelude.{◌≡◌, refl}
use Rattle.std.proofs.Common.{◌∙◌, ap, arith}
use lib.ListN.{length-set}
use Rattle.value.proofs.Zeros.{zeros_at}
use Rattle.program.specs.Bytes.{reactors}
use Rattle.figure.specs.Bound.{bound_by}
use Rattle.figure.specs.Clauses.{capped, up_to}
use Rattle.figure.proofs.Capping.{none_yet, bound_next}
use Rattle.figure.proofs.bound.next_bounds.Goals as goal

pub loop-r-init : goal.loop-r-init
loop-r-init c = (refl, λ b t s h. zeros_at 256 s ∙ none_yet (bound_by c.args.program.now b) s)

pub loop-r-preserved : goal.loop-r-preserved
loop-r-preserved c = let loop = c.loop-r in
    let told = c.fact.ensures.known _ c.requires.facts (omega (arith, c.requires.count)) in (
      length-set loop.next _ _ ∙ loop.invariant.0,
      λ b t.
          let sums = c.shape_sums-sums.ensures b t in
          bound_next (bound_by _ b) loop.next loop.r _ loop.invariant.0 (omega arith)
          (c.bound_by.ensures loop.r b told t sums) (loop.invariant.1 b t),
    )

pub returns : goal.returns
returns c = λ b t s h.
    let p = c.args.program.now in
    let all : c.loop-r.r ≡ reactors p = omega (arith, c.requires.count) in
    c.loop-r.invariant.1 b t s h ∙ ap (λ k. capped (up_to (bound_by p b) k s)) all

pub shape_sums-sums-requires : goal.shape_sums-sums-requires
shape_sums-sums-requires c = c.requires.count
