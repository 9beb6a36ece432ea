use Rattle.std.specs.Prelude.{◌-◌, ◌≤◌, ◌≡◌}
use Rattle.image.specs.Passes.{fits, lowest}
use Rattle.image.specs.Clauses.{Tiling, starts_on}
use Rattle.image.proofs.tiled.Tiled.all_fit.Given as goal

abbrev pub invariant-loop-a : goal.invariant-loop-a
invariant-loop-a l =
    let p = l.self.program.now in let m = l.self.memory.now in let u = l.self.u in let ok = fits p m l.pass l.table in
    (Tiling p m u l.a) × (2 ≤ l.a) × (lowest ok (starts_on p m u l.a) ≡ lowest ok (starts_on p m u 2))

abbrev pub decreases-loop-a : goal.decreases-loop-a
decreases-loop-a l = l.self.u - l.a
