-- The tree of a text as it is kept: `Grown` relates what the definition knows to the counts, the sizes and the pile.
use Rattle.std.specs.Prelude.{ℕ, ◌+◌, ◌≡◌, List, [], ◌∷◌, length}
use Rattle.haai.specs.declared.Size.{Size}
use Rattle.haai.specs.declared.Application.{Application}
use Rattle.haai.specs.Syntax.{Exprs, count_of}
use Rattle.haai.specs.Names.{Opened, Known}
use Rattle.haai.specs.Emit.{calls, steps_all}
use Rattle.haai.specs.Places.{applied_by}
use Rattle.haai.specs.Tables.{counted, opened_at, Sizes}
use Rattle.haai.specs.declared.Tree.{Tree}

-- the AllocMonos and the R commands of the body b and of the operands of the open applications
unfoldable pub calls_open : Exprs → List Opened → ℕ
calls_open b [] = calls b
calls_open b (o ∷ os) = calls_open b os + calls o.operands

unfoldable pub steps_open : Exprs → List Opened → ℕ
steps_open b [] = steps_all b
steps_open b (o ∷ os) = steps_open b os + steps_all o.operands

-- each open application; the innermost one is the last
abbrev pub PileIs : List Application → List Opened → Type 0
PileIs pl [] = Unit {0}
PileIs pl (o ∷ os) =
    (applied_by (opened_at pl (length os)).operator ≡ o.operator)
    × ((opened_at pl (length os)).at ≡ o.at)
    × ((opened_at pl (length os)).operands ≡ counted (count_of o.operands))
    × PileIs pl os

pub record Grown (k : Known) (u : Tree) (tb : List Size) (pl : List Application) : Type 0 where
  pub definitions : u.definitions ≡ length k.definitions
  pub count : u.count ≡ counted (count_of k.body)
  pub level : u.level ≡ length k.pile
  pub calls : u.calls ≡ counted (calls_open k.body k.pile)
  pub steps : u.steps ≡ counted (steps_open k.body k.pile)
  pub sizes : Sizes tb k.definitions
  pub pile : PileIs pl k.pile
  pub long_table : length tb ≡ 32
  pub long_pile : length pl ≡ 16
