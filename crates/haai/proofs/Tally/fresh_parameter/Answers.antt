use Rattle.std.proofs.Common.{sym, ◌∙◌, ap}
use Rattle.std.specs.Prelude.{not}
use Rattle.value.proofs.Tests.{same_or}
use Rattle.haai.specs.Names.{fresh}
use Rattle.haai.proofs.Placed.{among_three}
use Rattle.haai.proofs.Tally.fresh_parameter.Goals as goal

pub returns : goal.returns
unfolding fresh
returns c = ap not
    (same_or c.is_taken.ensures
    (same_or c.is_source.ensures
    (same_or c.is_reactor.ensures c.is_parameter.ensures)
    ∙ sym (among_three _ _ _ _)))
