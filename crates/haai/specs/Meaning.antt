-- 8.9 What a text means, on its tree alone: the values of main's expressions, for the time and the readings.
use Rattle.std.specs.Prelude.{ℕ, List, [], ◌∷◌, ◌++◌, get_or}
use Rattle.value.specs.Value.{number_mark, value, blank}
use Rattle.value.specs.Primitive.{primitive}
use Rattle.value.specs.declared.Value.{Value}
use Rattle.haai.specs.Syntax.{Operator, sign, reactor, Expr, Exprs, parameter, global, constant, apply, none}
use Rattle.haai.specs.Syntax.{also, Definition, Text}

-- what an earlier reactor gives for its parameters' values
abbrev pub Function : Type 0
Function = List Value → Value

abbrev pub no_function : Function
no_function vs = blank

-- gs the globals' values (the time and the sources), fs the earlier reactors
module _ (gs : ℕ → Value) where
  unfoldable pub applying : List Function → Operator → Function
  applying fs (sign o) vs = primitive o (get_or vs 0 blank) (get_or vs 1 blank) blank
  applying fs (reactor k) vs = get_or fs k no_function vs

  -- vs the parameters' values
  unfoldable mutual
    pub meaning : Expr → List Function → List Value → Value
    meaning (parameter i) fs vs = get_or vs i blank
    meaning (global g) fs vs = gs g
    meaning (constant n) fs vs = value number_mark n
    meaning (apply f es) fs vs = applying fs f (meanings es fs vs)

    pub meanings : Exprs → List Function → List Value → List Value
    meanings none fs vs = []
    meanings (also es e) fs vs = meanings es fs vs ++ (meaning e fs vs ∷ [])

  -- a reactor with one sink as a function
  unfoldable pub function_of : List Function → Definition → Function
  function_of fs d vs = get_or (meanings d.body fs vs) 0 blank

  -- the sinks of the last of the definitions
  unfoldable pub last_of : List Function → Definition → List Definition → List Value
  last_of fs d [] = meanings d.body fs []
  last_of fs d (e ∷ ds) = last_of (fs ++ (function_of fs d ∷ [])) e ds

  unfoldable pub sinks_of : List Definition → List Value
  sinks_of [] = []
  sinks_of (d ∷ ds) = last_of [] d ds

  -- 8.2 The last definition is main.
  unfoldable pub meaning_of : Text → List Value
  meaning_of x = sinks_of x.definitions

-- values as pairs of words
unfoldable pub pairs_of : List Value → List ℕ
pairs_of [] = []
pairs_of (v ∷ vs) = v.mark ∷ v.content ∷ pairs_of vs
