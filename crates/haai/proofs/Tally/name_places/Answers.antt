use Rattle.std.proofs.Common.{arith}
use Rattle.haai.specs.Places.{names_in}
use Rattle.haai.proofs.Placed.{words_are}
use Rattle.haai.proofs.Tally.name_places.Goals as goal

pub returns : goal.returns
unfolding names_in
returns c = λ t. let v = c.args.self in words_are t c.args.places.now.parameters v.names 0 (omega arith)
