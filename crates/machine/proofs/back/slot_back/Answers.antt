use Rattle.machine.proofs.Passing.{slot_other, slot_point}
use Rattle.std.proofs.Common.{sym, ◌∙◌}
use Rattle.machine.proofs.back.slot_back.Goals as goal

pub returns-then-code-eq-MAKE_POLY : goal.returns-then-code-eq-MAKE_POLY
returns-then-code-eq-MAKE_POLY c = let at_if1 = c.if-code-eq-MAKE_POLY in
    let at_point_back = c.point_back in
    λ o l d e f. slot_point _ _ _ _ _ _ (e ∙ at_if1.true) (at_point_back.ensures o l _ f)

pub returns-else-code-eq-MAKE_POLY : goal.returns-else-code-eq-MAKE_POLY
returns-else-code-eq-MAKE_POLY c = λ o l d e f. slot_other _ _ _ _ _ d (λ g. c.if-code-eq-MAKE_POLY.false (sym e ∙ g))
