use Rattle.std.specs.Prelude.{ℕ, ◌<◌, ◌≡◌, length}
use Rattle.figure.specs.Steps.{leads, found}
use Rattle.figure.proofs.steps.fill_steps.Given as goal

abbrev pub invariant-loop-r : goal.invariant-loop-r
invariant-loop-r l =
    (length l.table ≡ 64) × ((a q : ℕ) → a < l.r → q < l.n → found l.table a q ≡ leads l.program a q)
