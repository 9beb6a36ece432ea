use Rattle.image.specs.Memory.{word}
use Rattle.std.specs.Prelude.{refl}
use Rattle.image.proofs.words.pair_within.Goals as goal

pub returns : goal.returns
unfolding word
returns c = refl
