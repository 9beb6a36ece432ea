use Rattle.image.specs.Memory.{word}
use Rattle.value.specs.Value.{value}
use Rattle.std.proofs.Common.{sym, ◌∙◌, ap}
use lib.ListN.{get_or-eq_default}
use Rattle.image.proofs.words.pair.Goals as goal

pub returns-then-i-memory : goal.returns-then-i-memory
returns-then-i-memory c = c.pair_within.ensures

pub returns : goal.returns
unfolding word
returns c = let m = c.args.memory.now in
    ap (λ w. value w 0) c.word.ensures ∙ ap (value _) (sym (get_or-eq_default m 0 c.if-i-memory.false))
