use Rattle.std.specs.Prelude.{ℕ, ◌+◌, refl, Bool}
use Rattle.std.proofs.Common.{sym, ◌∙◌, ap, subst, arith}
use Rattle.load.proofs.Conditions.{right-cell, right_make, right_mono}
use Rattle.load.proofs.Sequence.{making, other_d}
use Rattle.load.specs.Clauses.{Making}
use Rattle.load.specs.Scan.{formed, in_sequence, stand, standing_after, waiting}
use Rattle.program.proofs.Decode.{as_cell, as_make, as_mono}
use Rattle.program.specs.Command.{Cmd, sequence_of, v_of}
use Rattle.program.specs.Kind.{content_legal}
use Rattle.value.proofs.Tests.{same_and, same_eq, same_le, same_lt}
use Rattle.value.specs.Test.{◌=?◌, ◌and◌}
use Rattle.load.proofs.known.Known.made.Goals as goal

pub returns-in-1 : goal.returns-in-1
unfolding in_sequence sequence_of standing_after formed
returns-in-1 c = let args = c.args in
    let k = args.self.now in
    let p = k.program.now in
    let r = k.reactor in
    λ s here. subst (λ (d : Cmd). Making p r s here args.c d c.placed.result)
    (as_mono (λ (d : Cmd). d) args.c (omega arith) refl)
    (making p r s here args.c _ _ _ c.placed.ensures refl
    (right_mono p r s args.c _ k.a_reactor (same_and (same_eq (ap (λ (v : ℕ). args.c.a + args.c.b + v) c.v.ensures) refl) (same_lt refl refl)))
    (ap (stand s here waiting) c.shape_of-k.ensures))

pub returns-in-2 : goal.returns-in-2
unfolding in_sequence sequence_of standing_after formed
returns-in-2 c = let args = c.args in
    let k = args.self.now in
    let p = k.program.now in
    let r = k.reactor in
    λ s here. subst (λ (d : Cmd). Making p r s here args.c d c.placed-in-2.result)
    (as_make (λ (d : Cmd). d) args.c (omega arith) refl)
    (making p r s here args.c _ _ _ c.placed-in-2.ensures refl
    (right_make p r s args.c _ (same_and (same_eq (ap (λ (v : ℕ). args.c.a + args.c.b + v) c.v.ensures) refl) (same_lt refl k.its_shapes)))
    refl)

pub returns-in-11 : goal.returns-in-11
unfolding in_sequence sequence_of standing_after formed
returns-in-11 c = let args = c.args in
    let k = args.self.now in
    let p = k.program.now in
    let r = k.reactor in
    λ s here. subst (λ (d : Cmd). Making p r s here args.c d c.placed-in-11.result)
    (as_cell (λ (d : Cmd). d) args.c (omega arith) refl)
    (making p r s here args.c _ _ _ c.placed-in-11.ensures refl
    (right-cell p r s args.c _ _ (c.content_formed-right.ensures ∙ ap
    (λ (t : Bool). (args.c.a + args.c.b =? 0) and t and content_legal p args.c.x (v_of args.c)) (same_le refl refl)))
    refl)

pub returns-in_default : goal.returns-in_default
returns-in_default c = let k = c.args.self.now in
    let m = c.in_default.in_default-own.rest in
    λ s here. sym (other_d k.program.now k.reactor s c.args.c m.0.0.1 m.0.1 m.1)
