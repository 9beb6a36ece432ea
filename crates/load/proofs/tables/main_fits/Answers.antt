use Rattle.std.specs.Prelude.{ℕ, ◌+◌, refl, Bool, get_or}
use Rattle.std.proofs.Common.{sym, ◌∙◌, ap, arith}
use Rattle.load.proofs.Conditions.{and_right, and_true}
use Rattle.load.specs.Tables.{main_legal}
use Rattle.program.specs.Bytes.{byte, sink_kind, sources_in}
use Rattle.value.proofs.Sweeps.{sweep_more}
use Rattle.value.proofs.Tests.{same_and, same_eq, same_lt}
use Rattle.value.specs.Test.{◌<?◌, ◌=?◌, ◌and◌, sweep}
use Rattle.load.proofs.tables.main_fits.Goals as goal

pub bounds-program-at : goal.bounds-program-at
bounds-program-at c = omega (arith, c.shape_at-at.ensures.is, c.requires)

pub loop-x-init : goal.loop-x-init
unfolding sweep ◌=?◌ sources_in byte
loop-x-init c = let args = c.args in
    same_eq (ap (λ (i : ℕ). get_or (args.program.now) i 0) c.shape_at-at.ensures.is) refl ∙ sym (and_true _)

pub overflow_add-all : goal.overflow_add-all
overflow_add-all c = let at_shape_at = c.shape_at-at in
    let pre = c.requires in
    omega (arith, at_shape_at.ensures.is, pre)

pub overflow_add-all-in-loop-x : goal.overflow_add-all-in-loop-x
overflow_add-all-in-loop-x c = let at_shape_at = c.shape_at-at in
    let pre = c.requires in
    omega (arith, at_shape_at.ensures.is, pre)

pub bounds-program-at-in-loop-x : goal.bounds-program-at-in-loop-x
bounds-program-at-in-loop-x c = let at_shape_at = c.shape_at-at in
    let pre = c.requires in
    omega (arith, at_shape_at.ensures.is, pre)

pub loop-x-preserved : goal.loop-x-preserved
unfolding sink_kind byte
loop-x-preserved c = let at_loop = c.loop-x in
    let at_shape_at = c.shape_at-at in
    let args = c.args in
    let p = args.program.now in
    let x = at_loop.x in
    same_and at_loop.invariant (same_lt (ap (λ (i : ℕ). get_or p (i + 9 + x) 0) at_shape_at.ensures.is) refl)
    ∙ and_right (sources_in p args.s =? 0) _ _
    ∙ ap (λ (t : Bool). (sources_in p args.s =? 0) and t)
    (sweep_more (λ (x : ℕ). sink_kind p args.s x <? 2) x)

pub returns : goal.returns
unfolding main_legal
returns c = let args = c.args in
    let p = args.program.now in
    c.loop-x.invariant ∙ ap (λ (n : ℕ). (sources_in p args.s =? 0) and
    (sweep (λ (x : ℕ). sink_kind p args.s x <? 2) 0 n =? n)) (omega arith)
