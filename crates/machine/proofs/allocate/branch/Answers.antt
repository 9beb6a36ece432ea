use Rattle.machine.proofs.Acting.{content_at, stored_at}
use Rattle.machine.proofs.Allocating.{slot_placed, slot_stored}
use Rattle.machine.specs.Clauses.{acted}
use Rattle.program.specs.Command.{takes_words}
use Rattle.remus.specs.Exec.{branched}
use Rattle.value.specs.Test.{pick}
use Rattle.machine.proofs.allocate.branch.Goals as goal

pub returns : goal.returns
unfolding acted branched takes_words pick
returns c = let at_give = c.give in
    let at_put_pair = c.put_pair in
    let at_place_new = c.place_new in
    let at_word = c.word-head in
    let at_used = c.used-u in
    λ p rd h o i j k size s e at.
    let head = content_at p _ o k _ e at_word.ensures in
    let new = at_place_new.ensures p size in
    let point = stored_at p _ o k _ (slot_placed p _ _ _ _ o k _ s new e) _ at_put_pair.ensures in
    let here = slot_stored p _ _ o k _ _ _ point (slot_placed p _ _ _ _ o _ _ s new at) in
    rw (← head, ← at_used.ensures, ← new, ← point) (at_give.ensures p o _ here)
