use Rattle.haai.specs.Places.{reactor_held, blamed}
use Rattle.haai.proofs.Tally.add_reactor.Goals as goal

pub returns : goal.returns
unfolding reactor_held blamed
returns c = rw (c.blame.ensures, c.fresh_reactor-ok.ensures, c.put.ensures)
