use Rattle.haai.specs.Places.{source_held, blamed}
use Rattle.haai.proofs.Tally.add_source.Goals as goal

pub returns : goal.returns
unfolding source_held blamed
returns c = rw (c.blame.ensures, c.fresh_source-ok.ensures, c.put.ensures)
