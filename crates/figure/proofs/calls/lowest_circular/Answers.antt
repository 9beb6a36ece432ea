use Rattle.std.proofs.Common.{arith}
use Rattle.program.specs.Bytes.{main_of}
use Rattle.figure.proofs.calls.lowest_circular.Goals as goal

pub fill_steps-requires : goal.fill_steps-requires
fill_steps-requires c = let start = c.requires in record { count = start.count; facts = start.facts }

pub close-requires : goal.close-requires
close-requires c = let start = c.requires in
    omega (arith, start.count, start.facts.few)

pub lowest-requires : goal.lowest-requires
unfolding main_of
lowest-requires c = let facts = c.requires.facts in
    let main = c.main_of.ensures in
    (omega (arith, c.requires.count, c.requires.some), omega (arith, c.requires.count, facts.few))

pub returns : goal.returns
returns c = let steps = c.fill_steps.ensures in
    let ways = c.close.ensures _ c.requires.count steps in
    c.lowest.ensures _ c.requires.count c.main_of.ensures ways
