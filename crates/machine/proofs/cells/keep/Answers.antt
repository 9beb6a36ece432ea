use Rattle.machine.proofs.Acting.{gives, read_at}
use Rattle.machine.specs.Clauses.{acted}
use Rattle.program.specs.Command.{takes_words}
use Rattle.remus.specs.Exec.{exec}
use Rattle.value.specs.Test.{pick}
use Rattle.remus.specs.Cells.{pending}
use Rattle.std.proofs.Common.{◌∙◌, ap}
use Rattle.machine.proofs.cells.keep.Goals as goal

pub returns : goal.returns
unfolding exec acted takes_words pick
returns c = let at_give = c.give in
    let at_pending = c.pending-waits in
    let at_pair = c.pair_within-v in
    λ p h o i j k e g rd.
    let v = read_at p _ o j _ e at_pair.ensures in
    gives _ _ _ _ _ _ (at_give.ensures p o _ g) (at_pending.ensures ∙ ap pending v)
