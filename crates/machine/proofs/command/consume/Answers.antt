use Rattle.machine.proofs.Acting.{content_of, gives, is_there, not_there, read_at}
use Rattle.machine.specs.Clauses.{acted}
use Rattle.program.specs.Command.{takes_words}
use Rattle.remus.specs.Exec.{consumed, exec}
use Rattle.value.specs.Test.{pick}
use Rattle.machine.proofs.command.consume.Goals as goal

pub returns-then-d-ne-DEPLOYMENT : goal.returns-then-d-ne-DEPLOYMENT
unfolding exec consumed acted takes_words pick
returns-then-d-ne-DEPLOYMENT c = let at_give = c.give in
    let at_blank = c.blank in
    let at_if1 = c.if-d-ne-DEPLOYMENT in
    let at_own = c.pair_within-d in
    λ p h o i k f e g s rd.
    rw (not_there p _ o k (read_at p _ o k _ e at_own.ensures) at_if1.true)
    (gives _ _ _ _ _ _ (at_give.ensures p o _ g) at_blank.ensures)

pub returns : goal.returns
unfolding exec consumed acted takes_words pick
returns c = let at_give2 = c.give-2 in
    let at_far = c.pair-v in
    let at_sink_index = c.sink_index-i in
    let at_if1 = c.if-d-ne-DEPLOYMENT in
    let at_own = c.pair_within-d in
    λ p h o i k f e g s rd.
    let d = read_at p _ o k _ e at_own.ensures in
    let t = is_there p _ o k d at_if1.false in
    let n = content_of p _ o k d in
    let at = at_sink_index.ensures.is p f (rw (← n) at s t) in
    rw (t, ← n) (gives _ _ _ _ _ _ (at_give2.ensures p o _ g) (read_at p _ _ _ _ at at_far.ensures))
