use Rattle.image.specs.Memory.{slot}
use Rattle.std.proofs.Common.{arith}
use Rattle.machine.proofs.command.sink_index.Goals as goal

pub returns : goal.returns
unfolding slot
returns c = record {
  is = (λ p f h. omega (arith, c.sink_at.ensures.is p _ (c.counts_at.ensures.known p f h)));
  small = omega (arith, c.sink_at.ensures.small, c.sink_at.ensures.least);
}
