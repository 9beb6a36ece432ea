use Rattle.std.proofs.Common.{arith, rules}
use Rattle.haai.specs.Tables.{sizes_length, size_length}
use Rattle.haai.proofs.Sizes.{length_next, length_done}
use Rattle.haai.proofs.measure.code_length.Goals as goal

pub overflow_add-total : goal.overflow_add-total
overflow_add-total c = let few = c.loop-size.invariant.1 in
    let more = c.length-total.ensures.1 in
    search rules

pub loop-size-preserved : goal.loop-size-preserved
loop-size-preserved c = let l = c.loop-size in
    let e = length_next c.args.sizes.now l.size-index c.loop-size-test.true in
    let m = l.invariant in
    let f = c.length-total.ensures in
    (omega (arith, m.0), omega (arith, m.1))

pub returns : goal.returns
returns c = let l = c.loop-size in
    let e = length_done c.args.sizes.now l.size-index c.loop-size-test.false in
    let m = l.invariant in
    (omega (arith, m.0), omega (arith, m.1))
