use Rattle.machine.proofs.Turning.{clock_after, run_stopped, run_whole, same_turned, undone, workable}
use Rattle.machine.specs.Clauses.{turned}
use Rattle.remus.specs.Turn.{by_run, turn_refused}
use Rattle.std.proofs.Common.{◌∙◌}
use Rattle.machine.proofs.accepted.Accepted.run_main.Goals as goal

pub run-requires : goal.run-requires
run-requires c = let pre = c.requires in
    record { workable = workable pre.safe pre.memory_bound; steady = pre.steady }

pub complete-requires : goal.complete-requires
complete-requires c = let at_run = c.run in
    let pre = c.requires in
    let e = rw c.in-Ok.is at at_run.ensures in record { ending = pre.safe.ends _ (run_whole _ _ _ _ e); time_fits = clock_after _ _ _ _ (workable pre.safe pre.memory_bound) e; program_in_bounds = pre.program_in_bounds }

pub give_back-requires : goal.give_back-requires
give_back-requires c = let at_run = c.run in
    let at_used = c.used-u in
    let pre = c.requires in
    let e = run_stopped _ _ _ _ _ (rw c.in-Err.is at at_run.ensures) in
    record { tiling = rw at_used.ensures (pre.safe.stops _ _ e) }

pub returns-in-Ok : goal.returns-in-Ok
unfolding by_run turned
returns-in-Ok c = let at_complete = c.complete in
    let at_run = c.run in
    let e = rw c.in-Ok.is at at_run.ensures in
    rw (run_whole _ _ _ _ e) at_complete.ensures

pub returns-in-Err : goal.returns-in-Err
unfolding by_run turn_refused turned
returns-in-Err c = let at_give_back = c.give_back in
    let at_run = c.run in
    let at_used = c.used-u in
    let pre = c.requires in
    let e = run_stopped _ _ _ _ _ (rw c.in-Err.is at at_run.ensures) in
    rw e (same_turned _ at_give_back.ensures.is
    (at_give_back.ensures.words ∙ undone _ _ _ _ at_used.ensures (pre.safe.undoes _ _ e)))
