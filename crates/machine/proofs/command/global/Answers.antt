use Rattle.machine.proofs.Acting.{gives}
use Rattle.machine.specs.Clauses.{acted}
use Rattle.program.specs.Command.{takes_words}
use Rattle.remus.specs.Exec.{exec}
use Rattle.value.specs.Test.{pick}
use Rattle.machine.proofs.command.global.Goals as goal

pub returns : goal.returns
unfolding exec acted takes_words pick
returns c = let at_give = c.give in
    let at_global_value = c.global_value-v in
    λ p h o i e. gives _ _ _ _ _ _ (at_give.ensures p o _ e) at_global_value.ensures
