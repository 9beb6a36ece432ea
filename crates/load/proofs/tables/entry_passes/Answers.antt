use Rattle.std.specs.Prelude.{ℕ, ◌+◌, refl, not, get_or}
use Rattle.std.proofs.Common.{◌∙◌, ap, arith}
use Rattle.load.proofs.TableBytes.{entries_inside, entry_declared, entry_running, entry_shape, entry_zero, four}
use Rattle.load.specs.Tables.{between, entry_legal, main_legal}
use Rattle.program.specs.Bytes.{byte, main_of, shapes}
use Rattle.value.proofs.Tests.{same_and, same_eq, same_le}
use Rattle.value.specs.Test.{◌<?◌, ◌=?◌, ◌and◌, ◌or◌}
use Rattle.load.proofs.tables.entry_passes.Goals as goal

pub shape_fits-requires : goal.shape_fits-requires
shape_fits-requires c = let pre = c.requires in
    let args = c.args in
    omega (arith, pre, entries_inside (args.program.now) args.r)

pub returns : goal.returns
unfolding byte
returns c = let at_shape_fits = c.shape_fits in
    let args = c.args in
    let pre = c.requires in
    let p = args.program.now in
    let at = pre.0 in
    same_and
    (same_and
    (same_and (at_shape_fits.ensures ∙ ap (λ (i : ℕ). (get_or p i 0 <? shapes p) and
    (not (args.r =? main_of p) or main_legal p (get_or p i 0))) at ∙ entry_shape p args.r)
    (same_le (ap (λ (i : ℕ). get_or p (i + 1) 0) at) refl ∙ entry_declared p args.r))
    (c.between.ensures ∙ ap (λ (i : ℕ). between 1 128 (get_or p (i + 2) 0)) at ∙ entry_running p args.r))
    (same_eq (ap (λ (i : ℕ). get_or p (i + 3) 0) at) refl ∙ entry_zero p args.r)
    ∙ four (entry_legal p args.r)

pub bounds-program-at : goal.bounds-program-at
bounds-program-at c = omega (arith, c.requires)
