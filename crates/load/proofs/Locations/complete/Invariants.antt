use Rattle.std.specs.Prelude.{ℕ, ◌*◌, ◌<◌, ◌≡◌, true, get_or}
use Rattle.program.specs.Location.{most_locations}
use Rattle.load.specs.Scan.{settled}
use Rattle.load.proofs.Locations.complete.Given as goal

abbrev pub invariant-loop-k : goal.invariant-loop-k
invariant-loop-k l =
    (l.all ≡ true → (i : ℕ) → i < 16 * l.k → i < most_locations → settled (get_or l.self.standing i 0) ≡ true)
    × (((i : ℕ) → i < most_locations → settled (get_or l.self.standing i 0) ≡ true) → l.all ≡ true)
