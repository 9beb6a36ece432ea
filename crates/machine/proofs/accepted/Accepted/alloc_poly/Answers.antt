use Rattle.machine.proofs.Acting.{content_of, gives, is_blank_lem, not_blank, read_at}
use Rattle.machine.specs.Clauses.{acted}
use Rattle.program.specs.Command.{takes_words}
use Rattle.remus.specs.Exec.{exec, operated}
use Rattle.value.specs.Test.{pick}
use Rattle.machine.proofs.accepted.Accepted.alloc_poly.Goals as goal

pub returns-then-q-eq-BLANK : goal.returns-then-q-eq-BLANK
unfolding exec operated acted takes_words pick
returns-then-q-eq-BLANK c = let at_give = c.give in
    let at_blank = c.blank in
    let at_if1 = c.if-q-eq-BLANK in
    let at_pair = c.pair_within-q in
    λ o i j k s a b at ops rd.
    rw (is_blank_lem _ _ o j (read_at _ _ o j _ a at_pair.ensures) at_if1.true)
    (gives _ _ _ _ _ _ (at_give.ensures _ o _ at) at_blank.ensures)

pub returns : goal.returns
unfolding exec
returns c = let at_choose = c.choose in
    let at_if1 = c.if-q-eq-BLANK in
    let at_pair = c.pair_within-q in
    λ o i j k s a b at ops rd.
    let v = read_at _ _ o j _ a at_pair.ensures in
    let t = not_blank _ _ o j v at_if1.false in
    let q = content_of _ _ o j v in
    rw (t, ← q) (at_choose.ensures rd o i j k (rw (← q) at ops t) s b at)
