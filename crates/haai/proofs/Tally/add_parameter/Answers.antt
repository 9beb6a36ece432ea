use Rattle.haai.specs.Places.{parameter_held, blamed}
use Rattle.haai.proofs.Tally.add_parameter.Goals as goal

pub returns : goal.returns
unfolding parameter_held blamed
returns c = rw (c.blame.ensures, c.fresh_parameter-ok.ensures, c.put.ensures)
