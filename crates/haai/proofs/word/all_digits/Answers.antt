use Rattle.std.proofs.Common.{◌∙◌, rules, tests}
use Rattle.std.proofs.lemmas.Iterator.{YieldsList-from_slice}
use Rattle.std.proofs.lemmas.Iterator.Search.{all_from_yields_List}
use Rattle.haai.specs.Word.{is_digit}
use Rattle.haai.proofs.Words.{every_is}
use Rattle.haai.proofs.word.all_digits.Goals as goal

pub returns : goal.returns
unfolding is_digit
returns c = let w = c.args.w.now in
    all_from_yields_List is_digit _ _ _ c.all.ensures.ran (YieldsList-from_slice w cc) (λ x b q k. search (rules, tests))
    ∙ every_is is_digit w
