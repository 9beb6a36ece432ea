use Rattle.machine.proofs.Acting.{content_of, is_there, leaves, not_there, read_at, source_at, stored_at}
use Rattle.machine.specs.Clauses.{acted}
use Rattle.program.specs.Command.{takes_words}
use Rattle.remus.specs.Exec.{exec, supplied}
use Rattle.value.specs.Test.{pick}
use Rattle.machine.proofs.command.supply.Goals as goal

pub returns-then-d-ne-DEPLOYMENT : goal.returns-then-d-ne-DEPLOYMENT
unfolding exec supplied acted takes_words pick
returns-then-d-ne-DEPLOYMENT c = let at_pair = c.pair-d in
    λ p h o i j k e f s rd. rw (not_there p _ o k (read_at p _ o k _ f at_pair.ensures) c.if-d-ne-DEPLOYMENT.true)

pub returns : goal.returns
unfolding exec supplied acted takes_words pick
returns c = let at_put_pair = c.put_pair in
    let at_pair2 = c.pair-v in
    let at_if1 = c.if-d-ne-DEPLOYMENT in
    let at_pair = c.pair-d in
    λ p h o i j k e f s rd.
    let d = read_at p _ o k _ f at_pair.ensures in
    let v = read_at p _ o j _ e at_pair2.ensures in
    let t = is_there p _ o k d at_if1.false in
    let n = content_of p _ o k d in
    rw (t, ← n)
    (leaves _ _ _ _ _ _ (stored_at p _ _ _ _ (source_at p _ _ _ (rw (← n) at s t)) _ at_put_pair.ensures) v)
