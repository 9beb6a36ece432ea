-- The formulas of specs/Formula.antt are what primitives 7 and 11 mean, and stay in 32 bits; and primitive 12 by the
-- formula of 11. Assumes nothing.
use Rattle.std.specs.Prelude.{ℕ, ◌*◌, ◌≡◌, refl, Bool, true, false, not}
use Rattle.std.proofs.Common.{arith}
use mir.Val.{bool_byte}
use Rattle.value.specs.Test.{pick}
use Rattle.value.specs.Value.{value, blank, truth, truth_mark, is_blank, is_truth, is_true}
use Rattle.value.specs.Primitive.{on_truth, choose, instead, table, row_of, primitive}
use Rattle.value.specs.Formula.{one_minus, mixed, NotFormula, ChooseFormula, FormulaFits}
use Rattle.value.specs.declared.Value.{Value}

opposite :
    (known t : Bool) →
    pick known (truth (not t)) blank ≡ value (bool_byte known * truth_mark) (bool_byte known * one_minus t)
unfolding pick
opposite true true = refl
opposite true false = refl
opposite false true = refl
opposite false false = refl

pub not_formula : NotFormula
unfolding primitive row_of table on_truth
not_formula a b c = opposite (is_truth a) (is_true a)

word : (known t : Bool) (a b : ℕ) → mixed known t a b ≡ pick known (pick t a b) 0
unfolding pick
word true true a b = omega arith
word true false a b = omega arith
word false t a b = omega arith

-- a choice of values is one of their words
by_words :
    (known t : Bool) (a b : Value) →
    pick known (pick t a b) blank
    ≡ value (pick known (pick t a.mark b.mark) 0) (pick known (pick t a.content b.content) 0)
unfolding pick
by_words true true a b = refl
by_words true false a b = refl
by_words false t a b = refl

pub choose_formula : ChooseFormula
unfolding primitive row_of table choose
choose_formula t a b =
    let mix = word (is_truth t) (is_true t) in
    rw (mix a.mark b.mark, mix a.content b.content) (by_words (is_truth t) (is_true t) a b)

pub instead_formula :
    (a b : Value) →
    let mix = mixed true (is_blank a) in
    instead a b ≡ value (mix b.mark a.mark) (mix b.content a.content)
unfolding instead pick
instead_formula a b =
    let mix = word true (is_blank a) in
    rw (mix b.mark a.mark, mix b.content a.content) (by_words true (is_blank a) b a)

pub formula_fits : FormulaFits
formula_fits true true a b f g = record { minus = omega arith; weights = omega arith; sum = omega arith }
formula_fits true false a b f g = record { minus = omega arith; weights = omega arith; sum = omega arith }
formula_fits false true a b f g = record { minus = omega arith; weights = omega arith; sum = omega arith }
formula_fits false false a b f g = record { minus = omega arith; weights = omega arith; sum = omega arith }
