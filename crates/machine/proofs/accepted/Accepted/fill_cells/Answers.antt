use Rattle.machine.proofs.CellBytes.{keeps_none}
use Rattle.remus.specs.Cells.{keep_of}
use Rattle.std.proofs.Common.{sym, ◌∙◌}
use Rattle.machine.proofs.accepted.Accepted.fill_cells.Goals as goal

pub pass_over-requires : goal.pass_over-requires
pass_over-requires c = let pre = c.requires in
    let at_used = c.used-u in
    record { tiling = rw at_used.ensures pre.ending.tiled; suited = pre.ending.remembers }

pub returns-then-has_cells : goal.returns-then-has_cells
unfolding keep_of
returns-then-has_cells c = let at_used = c.used-u in
    let at_pass_over = c.pass_over in
    rw (← at_used.ensures) at_pass_over.ensures

pub returns-else-has_cells : goal.returns-else-has_cells
returns-else-has_cells c = let pre = c.requires in
    let at_has_cells = c.has_cells in
    let at_if1 = c.if-has_cells in
    keeps_none _ pre.ending.remembers _ _ pre.ending.tiled (sym at_has_cells.ensures ∙ at_if1.false)
