use Rattle.std.specs.Prelude.{◌-◌, ◌≡◌, length}
use Rattle.image.specs.Passes.{tiles_from}
use Rattle.image.proofs.tiling.tiles.Given as goal

abbrev pub invariant-loop-a : goal.invariant-loop-a
invariant-loop-a l =
    tiles_from l.program l.memory (length l.memory) l.u l.a ≡ tiles_from l.program l.memory (length l.memory) l.u 2

abbrev pub decreases-loop-a : goal.decreases-loop-a
decreases-loop-a l = l.u - l.a
