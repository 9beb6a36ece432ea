use Rattle.std.proofs.Common.{rules}
use Rattle.haai.specs.Writing.{place_r}
use Rattle.haai.proofs.Puts.{call_put}
use Rattle.haai.proofs.write.put_call.Goals as goal

pub put_supplies-requires : goal.put_supplies-requires
unfolding place_r
put_supplies-requires c = search rules

pub overflow_add-at : goal.overflow_add-at
unfolding place_r
overflow_add-at c = search rules

pub overflow_add-at-2 : goal.overflow_add-at-2
unfolding place_r
overflow_add-at-2 c = search rules

pub overflow_add-at-3 : goal.overflow_add-at-3
unfolding place_r
overflow_add-at-3 c = search rules

pub returns : goal.returns
returns c = let args = c.args in
    let place_r = c.place_r-at in
    let deployment_loc = c.deployment_loc-b in
    let put_supplies = c.put_supplies in
    let put_command = c.put_command in
    let put_command2 = c.put_command-2 in
    call_put args.c _ _ _ _ _ _ _ _ _ place_r.ensures deployment_loc.ensures put_supplies.ensures
    put_command.ensures put_command2.ensures
