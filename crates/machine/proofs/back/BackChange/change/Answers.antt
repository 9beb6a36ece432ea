use Rattle.std.specs.Prelude.{◌≡◌}
use Rattle.machine.proofs.Clears.{local_back, slots_inside, slots_low}
use Rattle.remus.specs.Undo.{one_back}
use Rattle.machine.proofs.back.BackChange.change.Goals as goal

pub change-requires : goal.change-requires
change-requires c = let pre = c.requires in
    rw c.slots_back.ensures (record {
      suited = tt;
      o_bound = slots_low _ _ _ _ pre.o_bound;
      o_in_bounds = slots_inside _ _ _ _ pre.o_in_bounds;
    })

pub returns : goal.returns
unfolding one_back
returns c = let args = c.args in
    let is : c.change.new.memory ≡ one_back args.accepted.program.now args.self.now.u args.memory.now args.o =
    rw (← c.slots_back.ensures) c.change.ensures.is in
    record { is = is; local = rw is (local_back _ _ _ _ c.requires.o_in_bounds) }
