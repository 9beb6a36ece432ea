use Rattle.machine.proofs.Acting.{content_at}
use Rattle.machine.proofs.Allocating.{found}
use Rattle.remus.specs.Exec.{operated}
use Rattle.machine.proofs.accepted.Accepted.choose.Goals as goal

pub returns-in-None : goal.returns-in-None
unfolding operated
returns-in-None c = λ rd o i j k l s b at.
    rw (← content_at _ _ o k _ b c.word-newest.ensures, c.in-None.ensures) (c.make.ensures _ rd o i j k c.args.self.loaded.facts l s b at)

pub returns-in-Some : goal.returns-in-Some
unfolding operated
returns-in-Some c = λ rd o i j k l s b at.
    rw (← content_at _ _ o k _ b c.word-newest.ensures, c.in-Some.ensures.1)
    (found _ rd _ _ o i _ _ j k c.in-Some.ensures.0 (c.give.ensures _ o _ at))
