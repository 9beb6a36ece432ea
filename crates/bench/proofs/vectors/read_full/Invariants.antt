use Rattle.std.specs.Prelude.{◌≤◌, ◌-◌, length}
use Rattle.bench.proofs.vectors.read_full.Given as goal

abbrev pub invariant-loop-n : goal.invariant-loop-n
invariant-loop-n g l = l.n ≤ length l.space

abbrev pub decreases-loop-n : goal.decreases-loop-n
decreases-loop-n g l = length l.space - l.n
