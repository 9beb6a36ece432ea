-- 1.25 Primitives 7 and 11 by sums and products, as the code works them out, and that this is what they mean.
-- `bool_byte t` is the word of the truth t, 0 or 1.
use Rattle.std.specs.Prelude.{ℕ, ◌+◌, ◌-◌, ◌*◌, ◌^◌, ◌≤◌, ◌<◌, ◌≡◌, Bool}
use mir.Val.{bool_byte}
use Rattle.value.specs.Value.{value, truth_mark, is_truth, is_true}
use Rattle.value.specs.Primitive.{primitive}
use Rattle.value.specs.declared.Value.{Value}

abbrev pub one_minus : Bool → ℕ
one_minus t = 1 - bool_byte t

-- a or b by the truth t; neither, and so 0, where t is not known
abbrev pub mixed : Bool → Bool → ℕ → ℕ → ℕ
mixed known t a b = bool_byte known * bool_byte t * a + bool_byte known * one_minus t * b

-- ---- what is proved of them, in proofs/Formulas.antt

-- for every a: a truth, a blank, and what no accepted program passes
abbrev pub NotFormula : Type 0
NotFormula =
    (a b c : Value) →
    let known = bool_byte (is_truth a) in
    primitive 7 a b c ≡ value (known * truth_mark) (known * one_minus (is_true a))

-- for every t as above, and any words in a and b
abbrev pub ChooseFormula : Type 0
ChooseFormula =
    (t a b : Value) →
    let mix = mixed (is_truth t) (is_true t) in
    primitive 11 t a b ≡ value (mix a.mark b.mark) (mix a.content b.content)

-- No step leaves 32 bits: the difference is not below 0, the weights of a and b are together 1 at most, and the sum is
-- a word, and so is each product in it.
pub record StaysWord (known t : Bool) (a b : ℕ) : Type 0 where
  pub minus : bool_byte t ≤ 1
  pub weights : bool_byte known * bool_byte t + bool_byte known * one_minus t ≤ 1
  pub sum : mixed known t a b < 2 ^ 32

abbrev pub FormulaFits : Type 0
FormulaFits = (known t : Bool) (a b : ℕ) → a < 2 ^ 32 → b < 2 ^ 32 → StaysWord known t a b
