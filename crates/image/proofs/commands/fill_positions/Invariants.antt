use Rattle.std.specs.Prelude.{ℕ, ◌+◌, ◌*◌, ◌≤◌, ◌<◌, ◌≡◌, get_or}
use Rattle.program.specs.Bytes.{commands_at}
use Rattle.image.proofs.commands.fill_positions.Given as goal

abbrev pub invariant-loop-r : goal.invariant-loop-r
invariant-loop-r l =
    (l.at ≡ commands_at l.program l.r) × (l.at ≤ 65536 + 4080 * l.r)
    × ((k : ℕ) → k < l.r → get_or l.places k 0 ≡ commands_at l.program k)
