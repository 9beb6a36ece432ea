use Rattle.std.specs.Prelude.{◌≡◌, not}
use Rattle.std.proofs.Common.{sym, ◌∙◌, ap, arith}
use Rattle.value.specs.Test.{sweep}
use Rattle.value.proofs.Sweeps.{sweep_found, sweep_next, sweep_done}
use Rattle.figure.specs.Figure.{lowest_circular}
use Rattle.figure.proofs.reach.lowest.Invariants.{straight}
use Rattle.figure.proofs.reach.lowest.Goals as goal

pub loop-r-init : goal.loop-r-init
unfolding lowest_circular
loop-r-init c = λ p e f t. ap (sweep (straight p) 0) (omega arith)

pub returns-then-circular : goal.returns-then-circular
returns-then-circular c = λ p e f t.
    let on = c.circular.ensures p f t in
    let here = sweep_found (straight p) _ _ (omega arith) (ap not (sym on ∙ c.if-circular.true)) in
    (sym (here ∙ c.loop-r.invariant p e f t), omega arith)

pub loop-r-preserved : goal.loop-r-preserved
loop-r-preserved c = λ p e f t.
    let on = c.circular.ensures p f t in
    sym (sweep_next (straight p) _ _ (omega arith) (ap not (sym on ∙ c.if-circular.false)))
    ∙ c.loop-r.invariant p e f t

pub returns : goal.returns
returns c = λ p e f t.
    let all : c.args.n ≡ c.loop-r.r = omega arith in
    sym (sym e ∙ all ∙ sweep_done (straight p) _ _ (omega arith) ∙ c.loop-r.invariant p e f t)
