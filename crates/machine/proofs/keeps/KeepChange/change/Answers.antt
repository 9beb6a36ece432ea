use Rattle.machine.proofs.CellBytes.{keep_none}
use Rattle.machine.proofs.Clears.{local_keep, local_none}
use Rattle.std.proofs.Common.{sym, ◌∙◌}
use Rattle.machine.proofs.keeps.KeepChange.change.Goals as goal

pub keep_each-requires : goal.keep_each-requires
keep_each-requires c = let pre = c.requires in
    let known = c.counts_at-counts.ensures.known _ c.args.accepted.loaded.facts pre.o_bound in
    record { remembering = pre.suited; o_bound = pre.o_bound; r_in_bounds = c.args.accepted.loaded.inside _ pre.o_bound; tells = known }

pub returns-else-has_cell : goal.returns-else-has_cell
returns-else-has_cell c = let at_has_cell = c.has_cell in
    let pre = c.requires in
    let at_if1 = c.if-has_cell in
    let test = at_has_cell.ensures _ (c.counts_at-counts.ensures.known _ c.args.accepted.loaded.facts pre.o_bound) in
    record { is = keep_none _ pre.suited _ _ pre.o_bound (sym test ∙ at_if1.false); local = local_none _ _ _ }

pub returns-then-has_cell : goal.returns-then-has_cell
returns-then-has_cell c = let pre = c.requires in
    let is = c.keep_each.ensures in
    record { is = is; local = rw is (local_keep _ _ pre.suited _ pre.o_bound) }
