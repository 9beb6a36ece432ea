use Rattle.std.proofs.Common.{arith}
use Rattle.figure.proofs.Joining.{first_ways, next_ways, all_ways}
use Rattle.figure.proofs.reach.close.Goals as goal

pub loop-k-init : goal.loop-k-init
loop-k-init c = (omega arith, λ p e t. first_ways p e t)

pub join_at-requires : goal.join_at-requires
join_at-requires c = (omega arith, c.requires)

pub loop-k-preserved : goal.loop-k-preserved
loop-k-preserved c = let loop = c.loop-k in (
  c.join_at.ensures.long,
  λ p e t. next_ways p e loop.k (c.join_at.ensures.joined _ (loop.invariant.1 p e t)),
)

pub returns : goal.returns
returns c = λ p e t. all_ways p e _ (omega arith) (c.loop-k.invariant.1 p e t)
