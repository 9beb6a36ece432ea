use Rattle.std.proofs.Common.{◌∙◌, rules, tests}
use Rattle.std.proofs.lemmas.Iterator.{YieldsList-from_slice}
use Rattle.std.proofs.lemmas.Iterator.Search.{position_from_yields_List}
use Rattle.haai.specs.Word.{same_word}
use Rattle.haai.specs.Places.{word_of}
use Rattle.haai.proofs.Placed.{place_found}
use Rattle.haai.proofs.names.position.Goals as goal

pub returns : goal.returns
returns c = let ps = c.args.names.now in
    let t = c.args.t.now in
    let w = c.args.w.now in
    position_from_yields_List (λ a. same_word (word_of t a) w) _ _ _ c.position.ensures.ran
    (YieldsList-from_slice ps cc) (λ x b q k. search (rules, tests))
    ∙ place_found t w ps
