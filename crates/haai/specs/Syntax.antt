-- 8.3, 8.4 A text as a tree, with names resolved: a parameter by its number, a source or the time by its global, a
-- reactor by its number. The last definition is main.
use Rattle.std.specs.Prelude.{ℕ, ◌+◌, List}

-- 8.8 what an application applies
pub data Operator : Type 0 where
  sign : (o : ℕ) → Operator  -- primitive o, from 0 to 3
  reactor : (k : ℕ) → Operator

mutual
  pub data Expr : Type 0 where
    parameter : (i : ℕ) → Expr
    global : (g : ℕ) → Expr  -- 0 is `time`, g the g-th source
    constant : (n : ℕ) → Expr  -- a number in two's complement
    apply : Operator → Exprs → Expr

  -- expressions left to right, the last one outermost
  pub data Exprs : Type 0 where
    none : Exprs
    also : Exprs → Expr → Exprs

unfoldable pub count_of : Exprs → ℕ
count_of none = 0
count_of (also es e) = count_of es + 1

pub record Definition : Type 0 where
  pub parameters : ℕ
  pub body : Exprs

pub record Text : Type 0 where
  pub sources : ℕ
  pub definitions : List Definition
