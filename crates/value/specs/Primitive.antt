-- 1.10 The primitives: ONE table, a row for each number from 0 on, with what it takes, what it gives and what it means.
-- Laws.antt says the meanings in other words.
use Rattle.std.specs.Prelude.{ℕ, ◌+◌, ◌-◌, ◌%◌, ◌^◌, ◌<◌, ◌≢◌, Bool, true, false, not, ◌&&◌, List, [], ◌∷◌, ◌==◌, int_div, int_lt}
use Rattle.std.specs.Prelude.{length, get_or}
use Rattle.std.specs.Bool.{beq}
use Rattle.std.specs.Prelude.{ℤ, pos, negsuc, ◌+ℤ◌, ◌-ℤ◌, ◌*ℤ◌}
use Rattle.std.specs.Int.{w32}
use Rattle.std.proofs.Common.{to_z, of_z}
use Rattle.value.specs.Test.{pick, ◌<?◌, ◌=?◌, ◌and◌, ◌or◌}
use Rattle.value.specs.Value.{blank, number, truth, is_blank, is_number, is_truth, is_true, int_of, number_kind}
use Rattle.value.specs.Value.{truth_kind}
use Rattle.value.specs.declared.Value.{Value}
use Rattle.value.specs.declared.Takes.{Takes}
use Rattle.value.specs.declared.Takes.TheVariants.{TwoNumbers, OneTruth, TwoTruths, OneOfAny, TruthThenTwo}
use Rattle.value.specs.declared.Takes.TheVariants.{TwoAlike}
use Rattle.value.specs.declared.Gives.{Gives}
use Rattle.value.specs.declared.Gives.TheVariants.{ANumber, ATruth, TheirKind}
use Rattle.value.specs.declared.Operation.{Operation}
use Rattle.value.specs.declared.Operation.TheVariants.{Add, Subtract, Times, Divide, Less, Equal, TickDifference}

-- ---- integers

-- 1.9 Whether a result fits 32 bits; if not, it is blank.
abbrev pub in32 : ℤ → Bool
in32 z = not (int_lt z (negsuc 2147483647)) && not (int_lt (pos 2147483647) z)

unfoldable pub within : ℤ → Value
within z = pick (in32 z) (number z) blank

abbrev pub is_zero : ℤ → Bool
is_zero (pos n) = n == 0
is_zero (negsuc n) = false

abbrev pub same_int : ℤ → ℤ → Bool
same_int (pos m) (pos n) = m == n
same_int (pos m) (negsuc n) = false
same_int (negsuc m) (pos n) = false
same_int (negsuc m) (negsuc n) = m == n

-- blank by 0, else cut toward zero: the kit's `int_div`, which is the quotient of Division.antt
unfoldable pub quotient : ℤ → ℤ → Value
quotient x y = pick (is_zero y) blank (within (int_div x y))

-- 1.24 The words of x and y subtracted modulo 2^32, and read as an integer again: the difference of Ticks.antt.
unfoldable pub goes_round : ℤ → ℤ → ℤ
goes_round x y = to_z w32 ((of_z w32 x + (2 ^ 32 - of_z w32 y)) % 2 ^ 32)

-- the primitives on two numbers, in their order: 0 to 3, 5, 6 and 13
unfoldable pub operation : Operation → ℤ → ℤ → Value
operation Add x y = within (x +ℤ y)
operation Subtract x y = within (x -ℤ y)
operation Times x y = within (x *ℤ y)
operation Divide x y = quotient x y
operation Less x y = truth (int_lt x y)
operation Equal x y = truth (same_int x y)
operation TickDifference x y = number (goes_round x y)

-- ---- values. 1.10 A blank operand of 0 to 7, and of 13, makes the result blank. To these, and to 8 and 9, an operand
-- of another kind, which no accepted program passes (1.26), is as a blank one.

unfoldable pub on_numbers : (ℤ → ℤ → Value) → Value → Value → Value
on_numbers f a b = pick (is_number a and is_number b) (f (int_of a) (int_of b)) blank

unfoldable pub on_truth : (Bool → Bool) → Value → Value
on_truth f a = pick (is_truth a) (truth (f (is_true a))) blank

-- whether v is the truth t
unfoldable pub settles : Bool → Value → Bool
settles t v = is_truth v and beq (is_true v) t

-- 1.19, 1.20 And, or: t where an operand is the truth t, whatever the other is; of two that are the other truth, that
-- one; else blank.
unfoldable pub settled_by : Bool → Value → Value → Value
settled_by t a b = pick (settles t a or settles t b) (truth t) (pick (is_truth a and is_truth b) (truth (not t)) blank)

-- 1.21 Known: whether the operand is not blank.
unfoldable pub known : Value → Value
known a = truth (not (is_blank a))

-- 1.22 Choose: a where t is true, b where it is false, blank where it is blank.
unfoldable pub choose : Value → Value → Value → Value
choose t a b = pick (is_truth t) (pick (is_true t) a b) blank

-- 1.23 Instead: b where a is blank, else a.
unfoldable pub instead : Value → Value → Value
instead a b = pick (is_blank a) b a

-- ---- the table

pub record Row : Type 0 where
  pub takes : Takes
  pub gives : Gives
  pub means : Value → Value → Value → Value

abbrev pub row : Takes → Gives → (Value → Value → Value → Value) → Row
row t g f = record { takes = t; gives = g; means = f }

abbrev pub numeric : Operation → Gives → Row
numeric f g = row TwoNumbers g (λ a b c. on_numbers (operation f) a b)

-- 1.15 The remainder, 4, is withdrawn. Its row stays, so that 3 asks of its bytes what it asked before; 25 then keeps
-- it out of every accepted program, and so what it would mean is free.
abbrev pub remainder : ℕ
remainder = 4

abbrev pub withdrawn : Row
withdrawn = row TwoNumbers ANumber (λ a b c. blank)

unfoldable pub table : List Row
table =
    numeric Add ANumber  -- 0
    ∷ numeric Subtract ANumber  -- 1
    ∷ numeric Times ANumber  -- 2
    ∷ numeric Divide ANumber  -- 3
    ∷ withdrawn  -- 4, the remainder
    ∷ numeric Less ATruth  -- 5
    ∷ numeric Equal ATruth  -- 6
    ∷ row OneTruth ATruth (λ a b c. on_truth not a)  -- 7 not
    ∷ row TwoTruths ATruth (λ a b c. settled_by false a b)  -- 8 and
    ∷ row TwoTruths ATruth (λ a b c. settled_by true a b)  -- 9 or
    ∷ row OneOfAny ATruth (λ a b c. known a)  -- 10
    ∷ row TruthThenTwo TheirKind choose  -- 11
    ∷ row TwoAlike TheirKind (λ a b c. instead a b)  -- 12
    ∷ numeric TickDifference ANumber  -- 13
    ∷ []

-- the row of a number that is no primitive's
abbrev pub none : Row
none = row OneOfAny ANumber (λ a b c. blank)

unfoldable pub row_of : ℕ → Row
row_of x = get_or table x none

-- 1.10 x is the number of a primitive.
unfoldable pub is_primitive : ℕ → Bool
is_primitive x = x <? length table

-- whether 25 refuses it
unfoldable pub is_withdrawn : ℕ → Bool
is_withdrawn x = x =? remainder

-- x is the number of a primitive that a program may have
abbrev pub Offered : ℕ → Type 0
Offered x = (x < length table) × (x ≢ remainder)

-- what primitive x gives for the operands a, b, c; one that it does not take is not read
unfoldable pub primitive : ℕ → Value → Value → Value → Value
primitive x = (row_of x).means

-- ---- operands and kinds

unfoldable pub count_of : Takes → ℕ
count_of TwoNumbers = 2
count_of OneTruth = 1
count_of TwoTruths = 2
count_of OneOfAny = 1
count_of TruthThenTwo = 3
count_of TwoAlike = 2

unfoldable pub operands : ℕ → ℕ
operands x = count_of (row_of x).takes

-- whether operands of the kinds j, k, l will do
unfoldable pub kinds_fit : Takes → ℕ → ℕ → ℕ → Bool
kinds_fit TwoNumbers j k l = (j =? number_kind) and (k =? number_kind)
kinds_fit OneTruth j k l = j =? truth_kind
kinds_fit TwoTruths j k l = (j =? truth_kind) and (k =? truth_kind)
kinds_fit OneOfAny j k l = true
kinds_fit TruthThenTwo j k l = (j =? truth_kind) and (k =? l)
kinds_fit TwoAlike j k l = j =? k

-- 1.10, 2.21 The result's kind, k being the second operand's.
unfoldable pub kind_given : Gives → ℕ → ℕ
kind_given ANumber k = number_kind
kind_given ATruth k = truth_kind
kind_given TheirKind k = k
