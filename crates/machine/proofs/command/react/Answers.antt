use Rattle.machine.proofs.Acting.{content_of, is_there, not_there, read_at}
use Rattle.machine.specs.Clauses.{acted}
use Rattle.program.specs.Command.{takes_words}
use Rattle.remus.specs.Exec.{exec, reacted}
use Rattle.value.specs.Test.{pick}
use Rattle.machine.proofs.command.react.Goals as goal

pub returns-then-d-ne-DEPLOYMENT : goal.returns-then-d-ne-DEPLOYMENT
unfolding exec reacted acted takes_words pick
returns-then-d-ne-DEPLOYMENT c = let at_pair = c.pair-d in
    λ p h o i k e rd. rw (not_there p _ o k (read_at p _ o k _ e at_pair.ensures) c.if-d-ne-DEPLOYMENT.true)

pub returns : goal.returns
unfolding exec reacted acted
returns c = let at_pair = c.pair-d in
    λ p h o i k e rd.
    let v = read_at p _ o k _ e at_pair.ensures in
    rw (is_there p _ o k v c.if-d-ne-DEPLOYMENT.false, content_of p _ o k v)
