use Rattle.std.specs.Prelude.{ℕ, ◌+◌, refl, not}
use Rattle.std.proofs.Common.{◌∙◌, ap, arith}
use Rattle.load.specs.Tables.{between, entry_legal, main_legal}
use Rattle.program.specs.Bytes.{byte, main_of, shapes}
use Rattle.value.proofs.Tests.{eq!, eq×, no, same_eq, same_le, yes}
use Rattle.value.specs.Test.{◌<?◌, ◌=?◌, ◌and◌, ◌or◌}
use Rattle.load.proofs.tables.entry_legal.Goals as goal

pub shape_fits-requires : goal.shape_fits-requires
shape_fits-requires c = c.requires

pub returns-then-k-eq0 : goal.returns-then-k-eq0
unfolding entry_legal
returns-then-k-eq0 c = let at_byte = c.byte-x in
    let at_entry_at = c.entry_at in
    let args = c.args in
    let p = args.program.now in
    yes _ (eq! (omega arith))
    (c.shape_fits.ensures ∙ ap (λ (x : ℕ). (x <? shapes p) and (not (args.r =? main_of p) or main_legal p x))
    (at_byte.ensures ∙ ap (λ (i : ℕ). byte p (i + args.k)) at_entry_at.ensures.is))

pub returns-then-k-eq1 : goal.returns-then-k-eq1
unfolding entry_legal
returns-then-k-eq1 c = let at_byte = c.byte-x in
    let at_entry_at = c.entry_at in
    let args = c.args in
    let p = args.program.now in
    no _ (eq× c.if-k-eq0.false)
    (yes _ (eq! (omega arith)) (same_le (at_byte.ensures ∙ ap (λ (i : ℕ). byte p (i + args.k))
    at_entry_at.ensures.is) refl))

pub returns-then-k-eq2 : goal.returns-then-k-eq2
unfolding entry_legal
returns-then-k-eq2 c = let at_if2 = c.if-k-eq1 in
    let at_if1 = c.if-k-eq0 in
    let at_byte = c.byte-x in
    let at_entry_at = c.entry_at in
    let args = c.args in
    let p = args.program.now in
    no _ (eq× at_if1.false)
    (no _ (eq× at_if2.false) (yes _ (eq! (omega arith))
    (c.between.ensures ∙ ap (between 1 128) (at_byte.ensures ∙ ap (λ (i : ℕ). byte p (i + args.k))
    at_entry_at.ensures.is))))

pub returns : goal.returns
unfolding entry_legal
returns c = let at_if1 = c.if-k-eq0 in
    let at_byte = c.byte-x in
    let at_entry_at = c.entry_at in
    let args = c.args in
    let p = args.program.now in
    no _ (eq× at_if1.false)
    (no _ (eq× c.if-k-eq1.false) (no _ (eq× c.if-k-eq2.false)
    (same_eq (at_byte.ensures ∙ ap (λ (i : ℕ). byte p (i + args.k)) at_entry_at.ensures.is) refl)))
