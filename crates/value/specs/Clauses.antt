-- What the contracts of the code speak of beside the definitions: the numbers that programs have for kinds and
-- primitives; and what becomes of a result.
use Rattle.std.specs.Prelude.{ℕ, ◌≤◌, ◌≡◌, Option, Result, MatchResult, length, ℤ}
use Rattle.std.specs.declared.option.Option.TheVariants.{Some, None}
use Rattle.value.specs.Value.{number_kind, truth_kind, reactor_kind, number, blank}
use Rattle.value.specs.declared.Value.{Value}
use Rattle.value.specs.Primitive.{table}
use Rattle.value.specs.declared.kinds.Kind.{Kind}
use Rattle.value.specs.declared.kinds.Kind.TheVariants.{Number, Truth, Reactor}
use Rattle.value.specs.declared.table.Primitive.{Primitive}
use Rattle.value.specs.declared.table.Primitive.TheVariants.{Add, Subtract, Times, Divide, Remainder, Less, Equal}
use Rattle.value.specs.declared.table.Primitive.TheVariants.{Not, And}
use Rattle.value.specs.declared.table.Primitive.TheVariants.{Or, Known, Choose, Instead, TickDifference}
use Rattle.value.specs.declared.table.UnknownPrimitive.{UnknownPrimitive}

-- a kind's byte
abbrev pub byte_of : Kind → ℕ
byte_of Number = number_kind
byte_of Truth = truth_kind
byte_of (Reactor s) = reactor_kind s

-- a primitive's place in the table
abbrev pub number_of : Primitive → ℕ
number_of Add = 0
number_of Subtract = 1
number_of Times = 2
number_of Divide = 3
number_of Remainder = 4
number_of Less = 5
number_of Equal = 6
number_of Not = 7
number_of And = 8
number_of Or = 9
number_of Known = 10
number_of Choose = 11
number_of Instead = 12
number_of TickDifference = 13

-- the result is the primitive of this number, or it is no primitive's
abbrev pub Coded : ℕ → Result Primitive UnknownPrimitive → Type 0
Coded x r = MatchResult r (λ p. number_of p ≡ x) (λ e. length table ≤ x)

-- a result that 32 bits hold, if there is one
abbrev pub number_or_blank : Option ℤ → Value
number_or_blank (Some z) = number z
number_or_blank None = blank
