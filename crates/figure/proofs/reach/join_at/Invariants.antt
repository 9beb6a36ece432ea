use Rattle.std.specs.Prelude.{ℕ, ◌≡◌, Bool, length}
use Rattle.value.specs.Test.{pick, ◌<?◌}
use Rattle.figure.specs.Clauses.{Table, through_at}
use Rattle.figure.proofs.reach.join_at.Given as goal

abbrev pub invariant-loop-r : goal.invariant-loop-r
invariant-loop-r l =
    (length l.table ≡ 64)
    × ((f : ℕ → ℕ → Bool) → Table l.initial.table l.n f → Table l.table l.n (λ a b. pick (a <? l.r) (through_at l.k f a b) (f a b)))
