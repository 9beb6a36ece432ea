use Rattle.std.proofs.Common.{arith}
use Rattle.haai.specs.Places.{sources_in}
use Rattle.haai.proofs.Placed.{words_are}
use Rattle.haai.proofs.Tally.source_places.Goals as goal

pub returns : goal.returns
unfolding sources_in
returns c = λ t. let v = c.args.self in words_are t c.args.places.now.sources v.sources 0 (omega arith)
