use Rattle.image.specs.Start.{words_legal}
use Rattle.value.proofs.Tests.{same_and, same_le}
use Rattle.std.specs.Prelude.{refl}
use Rattle.image.proofs.calls.words_legal.Goals as goal

pub returns : goal.returns
unfolding words_legal
returns c = same_and (same_le refl refl) (same_le refl refl)
