use Rattle.std.proofs.Common.{sym, ◌∙◌, ap, arith}
use Rattle.machine.proofs.CellBytes.{cell_here, cell_not}
use Rattle.machine.specs.Clauses.{has_cell}
use Rattle.value.proofs.Sweeps.{sweep_done, sweep_found, sweep_next}
use Rattle.value.proofs.Tests.{lt!, lt×}
use Rattle.value.specs.Test.{sweep}
use Rattle.machine.proofs.keeps.has_cell.Goals as goal

pub loop-j-init : goal.loop-j-init
loop-j-init c = λ r e. ap (sweep _ 0) (omega arith)

pub returns-then-byte-eq-CELL : goal.returns-then-byte-eq-CELL
unfolding has_cell
returns-then-byte-eq-CELL c = let at_at = c.at-at in
    let at_byte = c.byte in
    let at_if1 = c.if-byte-eq-CELL in
    let at_loop_test = c.loop-j-test in
    let at_loop = c.loop-j in
    let at_declared = c.commands_d-j-end in
    λ r known.
    let at = at_at.ensures.is _ r known in
    let here = cell_here _ r _ _ _ at at_byte.ensures at_if1.true in
    let found = sweep_found _ _ _ at_loop_test.true here ∙ at_loop.invariant r at in
    rw (← at_declared.ensures _ r known, ← found) (sym (lt! at_loop_test.true))

pub loop-j-preserved : goal.loop-j-preserved
loop-j-preserved c = let at_loop_test = c.loop-j-test in
    let at_byte = c.byte in
    let at_if1 = c.if-byte-eq-CELL in
    let at_loop = c.loop-j in
    λ r e.
    let not-here = cell_not _ r _ _ _ e at_byte.ensures at_if1.false in
    sym (sweep_next _ _ _ at_loop_test.true not-here) ∙ at_loop.invariant r e

pub returns : goal.returns
unfolding has_cell
returns c = let at_loop_test = c.loop-j-test in
    let at_loop = c.loop-j in
    let at_at = c.at-at in
    let at_declared = c.commands_d-j-end in
    λ r known.
    let swept = sweep_done _ _ _ at_loop_test.false ∙ at_loop.invariant r (at_at.ensures.is _ r known) in
    rw (← at_declared.ensures _ r known, ← swept) (sym (lt× at_loop_test.false))
