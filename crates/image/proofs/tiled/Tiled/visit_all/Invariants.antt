use Rattle.std.specs.Prelude.{◌-◌, ◌≡◌}
use Rattle.image.specs.Passes.{over, visit}
use Rattle.image.specs.Clauses.{Tiling, starts_on}
use Rattle.image.proofs.tiled.Tiled.visit_all.Given as goal

abbrev pub invariant-loop-a : goal.invariant-loop-a
invariant-loop-a l =
    let p = l.self.program.now in let m = l.self.memory.now in let u = l.self.u in let f = visit p m l.pass in
    (Tiling p m u l.a) × (over f l.table (starts_on p m u l.a) ≡ over f l.initial.table (starts_on p m u 2))

abbrev pub decreases-loop-a : goal.decreases-loop-a
decreases-loop-a l = l.self.u - l.a
