use Rattle.std.proofs.Common.{◌∙◌, arith}
use lib.ListN.{length-set}
use Rattle.figure.specs.Steps.{leads}
use Rattle.figure.proofs.Cells.{row_next}
use Rattle.figure.proofs.steps.fill_steps.Goals as goal

pub loop-r-init : goal.loop-r-init
loop-r-init c = (omega arith, λ a q h. absurd (omega arith))

pub row_of-requires : goal.row_of-requires
row_of-requires c = omega (arith, c.requires.count, c.requires.facts.few)

pub loop-r-preserved : goal.loop-r-preserved
loop-r-preserved c = let loop = c.loop-r in
    let told = c.fact.ensures.known _ c.requires.facts (omega (arith, c.requires.count)) in (
      length-set loop.table _ _ ∙ loop.invariant.0,
      row_next (leads c.args.program.now) loop.table loop.r c.row_of.result
          (omega (arith, loop.invariant.0, c.requires.count, c.requires.facts.few)) (c.row_of.ensures loop.r told) loop.invariant.1,
    )

pub returns : goal.returns
returns c = let inv = c.loop-r.invariant in
    record { long = inv.0; says = λ r q h k. inv.1 r q (omega arith) k }
