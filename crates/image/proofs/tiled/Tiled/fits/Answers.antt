use Rattle.image.specs.Passes.{fits}
use Rattle.value.proofs.Tests.{same_eq, same_le}
use Rattle.std.specs.Prelude.{refl}
use Rattle.image.proofs.tiled.Tiled.fits.Goals as goal

pub returns-in-Starts : goal.returns-in-Starts
unfolding fits
returns-in-Starts c = rw c.in-Starts.is c.own_sound.ensures

pub returns-in-Names : goal.returns-in-Names
unfolding fits
returns-in-Names c = rw c.in-Names.is (same_eq c.table_byte-n.ensures refl)

pub returns-in-Depths : goal.returns-in-Depths
unfolding fits
returns-in-Depths c = rw c.in-Depths.is (same_le c.table_byte-n.ensures refl)
