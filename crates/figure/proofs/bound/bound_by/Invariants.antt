use Rattle.std.specs.Prelude.{ℕ, ◌+◌, ◌≡◌, List}
use Rattle.program.specs.Bytes.{commands_at}
use Rattle.program.specs.Command.{made_by, cmd_of}
use Rattle.figure.specs.Bound.{sum_below, shape_sum, share}
use Rattle.figure.specs.Clauses.{capped, Capped}
use Rattle.figure.proofs.bound.bound_by.Given as goal

-- what D command i of reactor r adds
abbrev pub adds : List ℕ → (ℕ → ℕ) → ℕ → ℕ → ℕ
adds p b r i = share p b (made_by (cmd_of p r i))

abbrev pub invariant-loop-j : goal.invariant-loop-j
invariant-loop-j l =
    (r : ℕ) (b : ℕ → ℕ) → l.at ≡ commands_at l.program r → Capped l.bounds b → Capped l.sums (shape_sum l.program b)
    → l.sum ≡ capped (l.initial.sum + sum_below (adds l.program b r) l.j)
