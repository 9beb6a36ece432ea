use Rattle.load.specs.Scan.{stand}
use Rattle.load.proofs.Locations.stand.Goals as goal

pub returns : goal.returns
unfolding stand
returns c = λ n i. record { standing = c.put.ensures i; kind = c.put-2.ensures i; next = n }
