use Rattle.std.proofs.Common.{not, ap, ◌∙◌, arith}
use Rattle.std.specs.Prelude.{refl}
use Rattle.image.proofs.Lists.{judged_fault, judged_none, lowest_done, lowest_found, lowest_next}
use Rattle.image.proofs.Tiles.{starts_done}
use Rattle.value.proofs.Tests.{passed, refused}
use Rattle.image.proofs.tiled.Tiled.all_fit.Goals as goal

pub loop-a-init : goal.loop-a-init
loop-a-init c = (c.args.self.now.tiling, omega arith, refl)

pub following-a-requires : goal.following-a-requires
following-a-requires c = record { tiling = c.loop-a.invariant.0; a_lt_u = c.loop-a-test.true }

pub fits-requires : goal.fits-requires
fits-requires c = let f = c.following-a.ensures in f.legal

pub returns-then-not-fits : goal.returns-then-not-fits
returns-then-not-fits c = let f = c.following-a.ensures in
    judged_fault _ _ (omega arith)
    (lowest_found _ _ _ _ f.here (refused c.fits.ensures (ap not c.if-not-fits.true)) ∙ c.loop-a.invariant.2)

pub loop-a-smaller : goal.loop-a-smaller
loop-a-smaller c = let f = c.following-a.ensures in omega (arith, f.rises)

pub loop-a-preserved : goal.loop-a-preserved
loop-a-preserved c = let f = c.following-a.ensures in (
  f.tiling,
  omega (arith, f.rises),
  lowest_next _ _ _ _ f.here (passed c.fits.ensures (ap not c.if-not-fits.false)) ∙ c.loop-a.invariant.2,
)

pub returns : goal.returns
returns c = let t = c.args.self.now in
    judged_none _
    (lowest_done _ _ (starts_done t.program.now t.memory.now t.u c.loop-a.a c.loop-a-test.false) ∙ c.loop-a.invariant.2)
