use Rattle.std.proofs.Common.{◌∙◌, ap}
use Rattle.image.specs.Clauses.{judged}
use Rattle.image.proofs.Cuts.{pass_run}
use Rattle.image.proofs.tiled.Tiled.run_pass.Goals as goal

pub returns : goal.returns
returns c = c.all_fit.ensures ∙ ap judged (pass_run _ _ _ _ _ _ c.put_table_byte.ensures c.visit_all.ensures)
