use Rattle.std.proofs.Common.{◌∙◌, arith}
use Rattle.std.specs.Prelude.{get_or}
use Rattle.image.proofs.Zeros.{zero_done, zero_first, zero_next}
use Rattle.value.specs.Test.{◌=?◌}
use lib.Bits.{or_lt}
use Rattle.image.proofs.zero.all_zero.Goals as goal

pub loop-word-init : goal.loop-word-init
loop-word-init c = (omega arith, zero_first _)

pub loop-word-preserved : goal.loop-word-preserved
loop-word-preserved c = let l = c.loop-word in (
  or_lt 32 l.bits (get_or c.args.words.now l.word-index 0) (omega arith) (omega arith),
  zero_next _ _ _ (omega arith) ∙ l.invariant.1,
)

pub returns : goal.returns
unfolding ◌=?◌
returns c = zero_done _ _ _ (omega arith) (omega arith) ∙ c.loop-word.invariant.1
