use Rattle.image.specs.Memory.{deploy}
use Rattle.machine.proofs.allocate.place_new.Goals as goal

pub returns : goal.returns
unfolding deploy
returns c = let at_set_used = c.set_used in
    let at_put3 = c.put-3 in
    let at_put2 = c.put-2 in
    let at_put = c.put in
    let at_used = c.used-u in
    λ p e.
    rw (← at_used.ensures, ← e, ← at_put.ensures, ← at_put2.ensures, ← at_put3.ensures)
    at_set_used.ensures
