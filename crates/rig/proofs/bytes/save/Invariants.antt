use Rattle.std.specs.Prelude.{◌≡◌, take}
use Rattle.rig.specs.Words.{holding}
use Rattle.rig.proofs.bytes.save.Given as goal

abbrev pub invariant-loop-k : goal.invariant-loop-k
invariant-loop-k l = l.s ≡ holding l.initial.s (take l.k l.w)
