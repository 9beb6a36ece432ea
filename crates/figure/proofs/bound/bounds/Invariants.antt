use Rattle.std.specs.Prelude.{get_or}
use Rattle.figure.specs.Bound.{bounds_after}
use Rattle.figure.specs.Clauses.{Capped}
use Rattle.figure.proofs.bound.bounds.Given as goal

abbrev pub invariant-loop-k : goal.invariant-loop-k
invariant-loop-k l = Capped l.t (λ q. get_or (bounds_after l._k l.program) q 0)
