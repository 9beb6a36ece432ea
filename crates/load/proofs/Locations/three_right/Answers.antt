use Rattle.load.specs.Scan.{is_value, kind_at, standing_at}
use Rattle.value.proofs.Tests.{same_and, same_and3, same_eq}
use Rattle.std.specs.Prelude.{refl}
use Rattle.load.proofs.Locations.three_right.Goals as goal

pub returns : goal.returns
unfolding is_value standing_at kind_at
returns c = let a = c.seen-a.ensures in
    let b = c.seen-b.ensures in
    let d = c.seen-d.ensures in
    λ n. same_and3 (same_eq c.v.ensures refl) (same_and3 (same_eq a.standing refl) (same_eq b.standing refl) (same_eq d.standing refl))
    (same_and (same_eq a.kind refl) (same_eq b.kind d.kind))
