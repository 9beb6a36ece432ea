use Rattle.load.specs.Scan.{is_value, kind_at, standing_at}
use Rattle.value.proofs.Tests.{same_and3, same_eq, same_or}
use Rattle.std.specs.Prelude.{ℕ, ◌+◌, refl}
use Rattle.std.proofs.Common.{ap}
use Rattle.load.proofs.Locations.one_right.Goals as goal

pub returns : goal.returns
unfolding is_value standing_at kind_at
returns c = let a = c.seen-a.ensures in
    λ n. same_and3 (same_eq (ap (λ (v : ℕ). c.args.c.b + v) c.v.ensures) refl) (same_eq a.standing refl)
    (same_or refl (same_eq a.kind refl))
