use Rattle.std.proofs.Common.{arith}
use Rattle.haai.specs.Places.{reactors_in}
use Rattle.haai.proofs.Placed.{words_are}
use Rattle.haai.proofs.Tally.reactor_places.Goals as goal

pub returns : goal.returns
unfolding reactors_in
returns c = λ t. let v = c.args.self in words_are t c.args.places.now.reactors v.reactors 0 (omega arith)
