use Rattle.std.specs.Prelude.{◌≡◌, ◌++◌, take, drop}
use Rattle.rig.specs.Words.{words_of}
use Rattle.rig.proofs.bytes.load.Given as goal

abbrev pub invariant-loop-k : goal.invariant-loop-k
invariant-loop-k l = l.w ≡ take l.k (words_of l.s) ++ drop l.k l.initial.w
