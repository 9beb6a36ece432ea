use Rattle.std.specs.Prelude.{refl}
use Rattle.std.proofs.Common.{◌∙◌, arith}
use Rattle.image.specs.Memory.{size_at, starts_below}
use Rattle.machine.proofs.Passing.{pass_done, pass_inside, pass_legal, pass_next, pass_rises, pass_within}
use Rattle.machine.proofs.accepted.Accepted.pass_over.Goals as goal

pub loop-a-init : goal.loop-a-init
unfolding starts_below
loop-a-init g c = (refl, c.requires.tiling, refl)

pub overflow_add-a : goal.overflow_add-a
unfolding size_at
overflow_add-a g c = let at_loop = c.loop-a in
    let at_loop_test = c.loop-a-test in
    let at_size = c.size in
    let pre = c.requires in
    let tiling = at_loop.invariant.1 in
    let in_loop = at_loop_test.true in
    let legal = pass_legal _ _ _ _ tiling in_loop in
    let size = at_size.ensures.is _ _ (c.counts_at.ensures.known _ c.args.self.loaded.facts legal) in
    omega (arith, pass_within _ _ _ _ tiling in_loop _ size)

pub change-requires : goal.change-requires
change-requires g c = let at_loop = c.loop-a in
    let at_loop_test = c.loop-a-test in
    let pre = c.requires in
    let tiling = at_loop.invariant.1 in
    let in_loop = at_loop_test.true in
    record { o_in_bounds = pass_inside _ _ _ _ tiling in_loop; o_bound = pass_legal _ _ _ _ tiling in_loop; suited = pre.suited }

pub loop-a-smaller : goal.loop-a-smaller
unfolding size_at
loop-a-smaller g c = let at_loop = c.loop-a in
    let at_loop_test = c.loop-a-test in
    let at_size = c.size in
    let pre = c.requires in
    let tiling = at_loop.invariant.1 in
    let in_loop = at_loop_test.true in
    let legal = pass_legal _ _ _ _ tiling in_loop in
    let size = at_size.ensures.is _ _ (c.counts_at.ensures.known _ c.args.self.loaded.facts legal) in
    pass_rises _ _ _ _ tiling in_loop _ size

pub loop-a-preserved : goal.loop-a-preserved
unfolding size_at
loop-a-preserved g c = let at_loop = c.loop-a in
    let at_loop_test = c.loop-a-test in
    let at_size = c.size in
    let pre = c.requires in
    let args = c.args in
    let at_change = c.change in
    let tiling = at_loop.invariant.1 in
    let in_loop = at_loop_test.true in
    let legal = pass_legal _ _ _ _ tiling in_loop in
    let size = at_size.ensures.is _ _ (c.counts_at.ensures.known _ c.args.self.loaded.facts legal) in
    pass_next _ _ _ _ tiling in_loop _ size (g.C.Change.makes args.change.now args.self.program.now) _ _ _
    at_change.ensures.is (rw at_change.ensures.is at at_change.ensures.local) at_loop.invariant.0 at_loop.invariant.2

pub shape_of-memory : goal.shape_of-memory
shape_of-memory g c = c.loop-a.invariant.0

pub returns : goal.returns
returns g c = pass_done _ _ _ _ _ c.loop-a-test.false ∙ c.loop-a.invariant.2
