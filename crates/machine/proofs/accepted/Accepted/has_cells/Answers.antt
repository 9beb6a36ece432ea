use Rattle.std.specs.Prelude.{refl, not}
use Rattle.std.proofs.Common.{sym, ◌∙◌, ap, arith}
use Rattle.machine.proofs.FactLaws.{told}
use Rattle.machine.specs.Clauses.{has_cells}
use Rattle.value.proofs.Sweeps.{sweep_done, sweep_found, sweep_next}
use Rattle.value.proofs.Tests.{lt!, lt×}
use Rattle.value.specs.Test.{sweep}
use Rattle.machine.proofs.accepted.Accepted.has_cells.Goals as goal

pub loop-r-init : goal.loop-r-init
loop-r-init c = ap (sweep _ 0) (omega arith)

pub returns-then-has_cell : goal.returns-then-has_cell
unfolding has_cells
returns-then-has_cell c = let at_reactors = c.reactors-r-end in
    let at_fact = c.fact in
    let at_has_cell = c.has_cell in
    let at_if1 = c.if-has_cell in
    let at_loop_test = c.loop-r-test in
    let at_loop = c.loop-r in
    let known = told c.args.self.loaded refl (omega (arith, at_reactors.ensures)) at_fact.ensures.known in
    let here = ap not (sym (at_has_cell.ensures _ known) ∙ at_if1.true) in
    let found = sweep_found _ _ _ at_loop_test.true here ∙ at_loop.invariant in
    rw (← at_reactors.ensures, ← found) (sym (lt! at_loop_test.true))

pub loop-r-preserved : goal.loop-r-preserved
loop-r-preserved c = let at_reactors = c.reactors-r-end in
    let at_fact = c.fact in
    let at_has_cell = c.has_cell in
    let at_if1 = c.if-has_cell in
    let at_loop_test = c.loop-r-test in
    let at_loop = c.loop-r in
    let known = told c.args.self.loaded refl (omega (arith, at_reactors.ensures)) at_fact.ensures.known in
    let not-here = ap not (sym (at_has_cell.ensures _ known) ∙ at_if1.false) in
    sym (sweep_next _ _ _ at_loop_test.true not-here) ∙ at_loop.invariant

pub returns : goal.returns
unfolding has_cells
returns c = let at_loop_test = c.loop-r-test in
    let at_loop = c.loop-r in
    let at_reactors = c.reactors-r-end in
    let swept = sweep_done _ _ _ at_loop_test.false ∙ at_loop.invariant in
    rw (← at_reactors.ensures, ← swept) (sym (lt× at_loop_test.false))
