use Rattle.std.specs.Prelude.{◌^◌, ◌<◌, ◌≡◌}
use Rattle.image.proofs.Zeros.{zero_from}
use Rattle.image.specs.Memory.{all_zero}
use Rattle.image.proofs.zero.all_zero.Given as goal

abbrev pub invariant-loop-word : goal.invariant-loop-word
invariant-loop-word l = (l.bits < 2 ^ 32) × (zero_from l.words l.bits l.word-index ≡ all_zero l.words)
