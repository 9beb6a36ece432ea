use Rattle.std.specs.Prelude.{refl}
use Rattle.std.proofs.Common.{◌∙◌, arith}
use Rattle.image.proofs.Lists.{over_done, over_next}
use Rattle.image.proofs.Tiles.{starts_done}
use Rattle.image.proofs.tiled.Tiled.visit_all.Goals as goal

pub loop-a-init : goal.loop-a-init
loop-a-init c = (c.args.self.now.tiling, refl)

pub following-a-requires : goal.following-a-requires
following-a-requires c = record { tiling = c.loop-a.invariant.0; a_lt_u = c.loop-a-test.true }

pub visit-requires : goal.visit-requires
visit-requires c = let f = c.following-a.ensures in f.legal

pub loop-a-smaller : goal.loop-a-smaller
loop-a-smaller c = let f = c.following-a.ensures in omega (arith, f.rises)

pub loop-a-preserved : goal.loop-a-preserved
loop-a-preserved c = let f = c.following-a.ensures in
    (f.tiling, over_next _ _ _ _ _ _ f.here c.visit.ensures ∙ c.loop-a.invariant.1)

pub returns : goal.returns
returns c = let t = c.args.self.now in
    over_done _ _ _ (starts_done t.program.now t.memory.now t.u c.loop-a.a c.loop-a-test.false) ∙ c.loop-a.invariant.1
