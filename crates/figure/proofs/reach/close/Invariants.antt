use Rattle.std.specs.Prelude.{ℕ, ◌≡◌, List, length}
use Rattle.program.specs.Bytes.{reactors}
use Rattle.figure.specs.Steps.{leads, found, reached_below}
use Rattle.figure.specs.Clauses.{Table}
use Rattle.figure.proofs.reach.close.Given as goal

abbrev pub invariant-loop-k : goal.invariant-loop-k
invariant-loop-k l =
    (length l.table ≡ 64)
    × ((p : List ℕ) → l.n ≡ reactors p → Table l.initial.table l.n (leads p) → Table l.table l.n (found (reached_below l.k p)))
