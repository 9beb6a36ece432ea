use Rattle.remus.specs.Clear.{clear_of, closed}
use Rattle.machine.proofs.accepted.Accepted.close.Goals as goal

pub pass_over-requires : goal.pass_over-requires
pass_over-requires c = let pre = c.requires in
    let at_used = c.used-u in
    record { tiling = rw at_used.ensures pre.tiling; suited = tt }

pub returns : goal.returns
unfolding closed clear_of
returns c = let at_used = c.used-u in
    let at_turns = c.turns-t in
    let at_pass_over = c.pass_over in
    let at_set_turns = c.set_turns in
    rw (← at_used.ensures, ← at_turns.ensures, ← at_pass_over.ensures) at_set_turns.ensures
