-- A code by its name: what holds of each code holds of any.
-- Assumes nothing.
use Rattle.std.specs.Prelude.{◌≡◌, refl}
use Rattle.program.specs.declared.commands.Code.{Code}
use Rattle.program.specs.declared.commands.Code.TheVariants.{AllocMono, MakePoly, Constant, Global, Supply, React}
use Rattle.program.specs.declared.commands.Code.TheVariants.{Consume, Sink, AllocPoly, Primitive, Cell, Fetch, Keep}

pub by_name : (P : Code → Type 0) (k : Code) →
    (k ≡ AllocMono → P AllocMono) →
    (k ≡ MakePoly → P MakePoly) →
    (k ≡ Constant → P Constant) →
    (k ≡ Global → P Global) →
    (k ≡ Supply → P Supply) →
    (k ≡ React → P React) →
    (k ≡ Consume → P Consume) →
    (k ≡ Sink → P Sink) →
    (k ≡ AllocPoly → P AllocPoly) →
    (k ≡ Primitive → P Primitive) →
    (k ≡ Cell → P Cell) →
    (k ≡ Fetch → P Fetch) →
    (k ≡ Keep → P Keep) →
    P k
by_name P AllocMono p1 p2 p3 p4 p5 p6 p7 p8 p9 p10 p11 p12 p13 = p1 refl
by_name P MakePoly p1 p2 p3 p4 p5 p6 p7 p8 p9 p10 p11 p12 p13 = p2 refl
by_name P Constant p1 p2 p3 p4 p5 p6 p7 p8 p9 p10 p11 p12 p13 = p3 refl
by_name P Global p1 p2 p3 p4 p5 p6 p7 p8 p9 p10 p11 p12 p13 = p4 refl
by_name P Supply p1 p2 p3 p4 p5 p6 p7 p8 p9 p10 p11 p12 p13 = p5 refl
by_name P React p1 p2 p3 p4 p5 p6 p7 p8 p9 p10 p11 p12 p13 = p6 refl
by_name P Consume p1 p2 p3 p4 p5 p6 p7 p8 p9 p10 p11 p12 p13 = p7 refl
by_name P Sink p1 p2 p3 p4 p5 p6 p7 p8 p9 p10 p11 p12 p13 = p8 refl
by_name P AllocPoly p1 p2 p3 p4 p5 p6 p7 p8 p9 p10 p11 p12 p13 = p9 refl
by_name P Primitive p1 p2 p3 p4 p5 p6 p7 p8 p9 p10 p11 p12 p13 = p10 refl
by_name P Cell p1 p2 p3 p4 p5 p6 p7 p8 p9 p10 p11 p12 p13 = p11 refl
by_name P Fetch p1 p2 p3 p4 p5 p6 p7 p8 p9 p10 p11 p12 p13 = p12 refl
by_name P Keep p1 p2 p3 p4 p5 p6 p7 p8 p9 p10 p11 p12 p13 = p13 refl
