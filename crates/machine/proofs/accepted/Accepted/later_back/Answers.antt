use Rattle.remus.specs.Undo.{back, zero_from}
use Rattle.machine.proofs.accepted.Accepted.later_back.Goals as goal

pub pass_over-requires : goal.pass_over-requires
pass_over-requires c = let pre = c.requires in
    record { tiling = pre.tiling; suited = tt }

pub returns : goal.returns
unfolding back zero_from
returns c = let at_pass_over = c.pass_over in
    let at_zero_from = c.zero_from in
    rw (← at_pass_over.ensures) at_zero_from.ensures
