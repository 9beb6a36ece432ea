use Rattle.load.specs.Scan.{is_cell}
use Rattle.value.proofs.Tests.{same_and, same_le}
use Rattle.std.specs.Prelude.{refl}
use Rattle.load.proofs.Scan.is_cell.Goals as goal

pub returns : goal.returns
unfolding is_cell
returns c = same_and (same_le refl c.standing_at-s.ensures) (same_le c.standing_at-s.ensures refl)
