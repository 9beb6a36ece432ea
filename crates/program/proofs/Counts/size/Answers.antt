use Rattle.program.specs.Location.{slot_at, sink_loc, size_of, locations}
use Rattle.std.proofs.Common.{◌∙◌, ap}
use Rattle.program.proofs.Counts.size.Goals as goal

pub returns : goal.returns
unfolding size_of locations
returns c = record { is = (λ p r e. c.sink_at.ensures.is p r e ∙ ap (λ x. slot_at p r (sink_loc p r x)) (c.sink_count.ensures p r e)); small = c.sink_at.ensures.small; least = c.sink_at.ensures.least }
