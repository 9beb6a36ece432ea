use Rattle.machine.proofs.Acting.{gives, read_at}
use Rattle.machine.specs.Clauses.{acted}
use Rattle.program.specs.Command.{takes_words}
use Rattle.remus.specs.Exec.{exec}
use Rattle.value.specs.Test.{pick}
use Rattle.std.proofs.Common.{◌∙◌}
use Rattle.machine.proofs.command.primitive.Goals as goal

pub returns : goal.returns
unfolding exec acted takes_words pick
returns c = let at_give = c.give in
    let at_primitive = c.primitive-v in
    let at_third = c.third-last in
    let at_second = c.pair_within-second in
    let at_first = c.pair_within-first in
    λ p h i j k e f t g rd.
    let first = read_at p _ _ j _ e at_first.ensures in
    let second = read_at p _ _ k _ f at_second.ensures in
    rw (← first, ← second)
    (gives _ _ _ _ _ _ (at_give.ensures p _ _ g) (at_primitive.ensures ∙ at_third.ensures p _ _ t))
