use Rattle.std.specs.Prelude.{ℕ, ◌<◌, ◌≡◌, false, length, get_or}
use Rattle.program.specs.Clauses.{Tells}
use Rattle.figure.specs.Steps.{leads}
use Rattle.figure.proofs.steps.row_of.Given as goal

abbrev pub invariant-loop-q : goal.invariant-loop-q
invariant-loop-q l =
    (length l.row ≡ 64)
    × ((r : ℕ) → Tells l.program r l.k.word → (b : ℕ) → b < l.q → get_or l.row b false ≡ leads l.program r b)
