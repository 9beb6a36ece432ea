use Rattle.std.specs.Prelude.{◌+◌}
use Rattle.std.proofs.Common.{arith}
use Rattle.image.proofs.Tiles.{follows}
use Rattle.image.proofs.tiling.following.Goals as goal

pub overflow_add-result : goal.overflow_add-result
overflow_add-result c = let f = follows _ _ _ _ c.requires.tiling c.requires.a_lt_u (c.args.a + c.size_at.result) (omega arith) in
    omega (arith, f.within)

pub returns : goal.returns
returns c = follows _ _ _ _ c.requires.tiling c.requires.a_lt_u _ (omega arith)
