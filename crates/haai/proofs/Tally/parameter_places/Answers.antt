use Rattle.std.proofs.Common.{◌-◌, arith}
use Rattle.haai.specs.Places.{parameters_in}
use Rattle.haai.proofs.Placed.{words_are}
use Rattle.haai.proofs.Tally.parameter_places.Goals as goal

pub returns : goal.returns
unfolding parameters_in
returns c = λ t. let v = c.args.self in words_are t c.args.places.now.parameters (v.names - v.own) v.own (omega arith)
