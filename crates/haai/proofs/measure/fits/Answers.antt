use Rattle.std.proofs.Common.{◌∙◌, rules, tests}
use Rattle.std.proofs.lemmas.Iterator.{YieldsList-from_slice}
use Rattle.std.proofs.lemmas.Iterator.Search.{all_from_yields_List}
use Rattle.haai.specs.Tables.{size_fits}
use Rattle.haai.proofs.Sizes.{all_fit}
use Rattle.haai.proofs.measure.fits.Goals as goal

pub returns : goal.returns
returns c = let zs = c.args.sizes.now in
    all_from_yields_List size_fits _ _ _ c.all.ensures.ran (YieldsList-from_slice zs cc) (λ x b q k. search (rules, tests))
    ∙ all_fit zs
