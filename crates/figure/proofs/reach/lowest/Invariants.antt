use Rattle.std.specs.Prelude.{ℕ, ◌-◌, ◌≡◌, not, Bool, List}
use Rattle.value.specs.Test.{sweep}
use Rattle.program.specs.Bytes.{reactors, main_of}
use Rattle.figure.specs.Steps.{found, reached, circular}
use Rattle.figure.specs.Figure.{lowest_circular}
use Rattle.figure.specs.Clauses.{Table}
use Rattle.figure.proofs.reach.lowest.Given as goal

-- the test that the sweep asks of reactor r
abbrev pub straight : List ℕ → ℕ → Bool
straight p r = not (circular p (reached p) r)

abbrev pub invariant-loop-r : goal.invariant-loop-r
invariant-loop-r l =
    (p : List ℕ) → l.n ≡ reactors p → l.main ≡ main_of p → Table l.table l.n (found (reached p))
    → sweep (straight p) l.r (l.n - l.r) ≡ lowest_circular p (reached p)
