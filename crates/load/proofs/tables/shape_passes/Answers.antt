use Rattle.std.specs.Prelude.{ℕ, ◌+◌, refl, get_or}
use Rattle.std.proofs.Common.{◌∙◌, ap, arith}
use Rattle.load.proofs.TableBytes.{shape_row}
use Rattle.load.specs.Tables.{between, port_legal}
use Rattle.program.specs.Bytes.{byte, sink_kind, sinks_in, source_kind, sources_in}
use Rattle.value.proofs.Tests.{same_and, same_le}
use Rattle.value.specs.Test.{◌=?◌, sweep}
use Rattle.load.proofs.tables.shape_passes.Goals as goal

pub bounds-program-at-2 : goal.bounds-program-at-2
bounds-program-at-2 c = omega (arith, c.requires)

pub overflow_add-at : goal.overflow_add-at
overflow_add-at c = omega (arith, c.requires)

pub ports_pass-requires : goal.ports_pass-requires
ports_pass-requires c = let pre = c.requires in
    (omega (arith, pre), pre.2)

pub overflow_add-at-2 : goal.overflow_add-at-2
overflow_add-at-2 c = omega (arith, c.requires)

pub ports_pass-requires-2 : goal.ports_pass-requires-2
ports_pass-requires-2 c = let pre = c.requires in
    (omega (arith, pre), pre.2)

pub returns : goal.returns
unfolding sources_in sinks_in source_kind sink_kind byte
returns c = let at_between = c.between in
    let args = c.args in
    let pre = c.requires in
    let p = args.program.now in
    let s = args.s in
    let at = pre.0 in
    same_and (same_le (ap (λ (i : ℕ). get_or p i 0) at) refl)
    (same_and (at_between.ensures ∙ ap (λ (i : ℕ). between 1 7 (get_or p (i + 1) 0)) at)
    (same_and
    (c.ports_pass.ensures ∙ ap (λ (i : ℕ). sweep
    (λ (x : ℕ). port_legal s (get_or p i 0) x (get_or p (i + 2 + x) 0)) 0 7 =? 7) at)
    (c.ports_pass-2.ensures ∙ ap (λ (i : ℕ). sweep (λ (x : ℕ). port_legal s (get_or p (i + 1) 0) x
    (get_or p (i + 9 + x) 0)) 0 7 =? 7) at)))
    ∙ shape_row p s

pub bounds-program-at : goal.bounds-program-at
bounds-program-at c = omega (arith, c.requires)
