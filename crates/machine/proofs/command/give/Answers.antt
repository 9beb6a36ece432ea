use Rattle.std.specs.Prelude.{Ok}
use Rattle.machine.proofs.Acting.{stored_at}
use Rattle.machine.specs.Clauses.{did}
use Rattle.machine.specs.declared.Outcome.TheVariants.{Given}
use Rattle.std.proofs.Common.{ap}
use Rattle.machine.proofs.command.give.Goals as goal

pub returns : goal.returns
returns c = let at_put_pair_within = c.put_pair_within in
    λ p o l e. ap (did (Ok Given)) (stored_at p _ o l _ e _ at_put_pair_within.ensures)
