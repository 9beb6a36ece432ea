use Rattle.machine.proofs.Acting.{leaves, read_at, stored_at}
use Rattle.machine.specs.Clauses.{acted}
use Rattle.program.specs.Command.{takes_words}
use Rattle.remus.specs.Exec.{exec}
use Rattle.value.specs.Test.{pick}
use Rattle.machine.proofs.command.sink.Goals as goal

pub returns : goal.returns
unfolding exec acted takes_words pick
returns c = let at_put_pair = c.put_pair in
    let at_sink_index = c.sink_index-i in
    let at_pair = c.pair-v in
    λ p h i j f g e rd.
    let at = at_sink_index.ensures.is p f g in
    leaves _ _ _ _ _ _ (stored_at p _ _ _ _ at _ at_put_pair.ensures) (read_at p _ _ j _ e at_pair.ensures)
