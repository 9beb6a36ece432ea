use Rattle.std.specs.Prelude.{refl}
use Rattle.std.proofs.Common.{◌∙◌, ap, arith}
use Rattle.image.proofs.Tiles.{grows, tiles_beyond, tiles_done, tiles_next, tiles_not_reactor}
use Rattle.image.specs.Passes.{tiles_from}
use Rattle.value.specs.Test.{◌=?◌}
use Rattle.image.proofs.tiling.tiles.Goals as goal

pub loop-a-init : goal.loop-a-init
loop-a-init c = refl

pub returns-then-n-reactor : goal.returns-then-n-reactor
returns-then-n-reactor c = tiles_not_reactor _ _ _ _ c.requires
    c.loop-a-test.true (omega arith)
    ∙ c.loop-a.invariant

pub returns-then-u-a : goal.returns-then-u-a
returns-then-u-a c = tiles_beyond _ _ _ _ c.requires
    c.loop-a-test.true (omega arith) (omega arith)
    ∙ c.loop-a.invariant

pub loop-a-smaller : goal.loop-a-smaller
loop-a-smaller c = omega (
  arith,
  grows (c.args.program.now) (c.args.memory.now)
      c.loop-a.a,
)

pub loop-a-preserved : goal.loop-a-preserved
loop-a-preserved c = ap (tiles_from _ _ _ _) (omega arith)
    ∙ tiles_next _ _ _ _ c.requires
    c.loop-a-test.true (omega arith)
    ∙ c.loop-a.invariant

pub returns : goal.returns
unfolding ◌=?◌
returns c = tiles_done _ _ _ _ (omega arith) ∙ c.loop-a.invariant
