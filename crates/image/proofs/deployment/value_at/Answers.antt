use Rattle.std.specs.Prelude.{ℕ, ◌+◌}
use Rattle.std.proofs.Common.{◌∙◌, ap}
use Rattle.image.specs.Memory.{mark, content, value_at, word}
use Rattle.value.specs.Value.{value}
use Rattle.image.proofs.deployment.value_at.Goals as goal

pub returns : goal.returns
unfolding value_at mark content
returns c = let m = c.args.memory.now in
    c.pair.ensures ∙ ap (λ (i : ℕ). value (word m i) (word m (i + 1))) c.slot-i.ensures.is
