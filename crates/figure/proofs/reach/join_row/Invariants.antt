use Rattle.std.specs.Prelude.{ℕ, ◌≤◌, ◌<◌, ◌≡◌, false, length, get_or}
use Rattle.value.specs.Test.{◌or◌}
use Rattle.figure.proofs.reach.join_row.Given as goal

abbrev pub invariant-loop-q : goal.invariant-loop-q
invariant-loop-q l =
    (length l.to ≡ length l.initial.to)
    × ((b : ℕ) → b < l.q → get_or l.to b false ≡ (get_or l.initial.to b false or get_or l.from b false))
    × ((b : ℕ) → l.q ≤ b → get_or l.to b false ≡ get_or l.initial.to b false)
