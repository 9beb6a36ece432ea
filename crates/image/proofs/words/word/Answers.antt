use Rattle.std.proofs.Common.{rules}
use Rattle.image.specs.Memory.{word}
use Rattle.image.proofs.words.word.Goals as goal

pub returns : goal.returns
unfolding word
returns c = search rules
