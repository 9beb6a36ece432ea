use Rattle.machine.proofs.Acting.{stored_at}
use Rattle.machine.specs.Clauses.{ran_as}
use Rattle.remus.specs.Exec.{exec}
use Rattle.remus.specs.Run.{entered, ran}
use Rattle.std.proofs.Common.{ap}
use Rattle.machine.proofs.exec.make_poly.Goals as goal

pub returns : goal.returns
unfolding exec entered ran_as
returns c = let at_put_pair = c.put_pair in
    λ p h o i x at enter rd. ap ran (stored_at p _ o _ _ at _ at_put_pair.ensures)
