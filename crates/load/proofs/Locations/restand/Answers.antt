use Rattle.load.proofs.Stands.{stands_as}
use Rattle.load.proofs.Locations.restand.Goals as goal

pub returns : goal.returns
returns c = λ n. stands_as c.args.self.now n _ _ c.put.ensures
