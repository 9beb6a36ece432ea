use Rattle.machine.proofs.Acting.{gives, read_at}
use Rattle.machine.specs.Clauses.{acted}
use Rattle.program.specs.Command.{takes_words}
use Rattle.remus.specs.Exec.{exec}
use Rattle.value.specs.Test.{pick}
use Rattle.machine.proofs.cells.fetch.Goals as goal

pub returns : goal.returns
unfolding exec acted takes_words pick
returns c = let at_give = c.give in
    let at_pair = c.pair_within-v in
    λ p h o i k e g rd.
    gives _ _ _ _ _ _ (at_give.ensures p o _ g) (read_at p _ o k _ e at_pair.ensures)
