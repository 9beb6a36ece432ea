use Rattle.std.proofs.Common.{sym, ◌∙◌, rules, tests}
use Rattle.std.proofs.lemmas.Iterator.{YieldsList-from_slice}
use Rattle.std.proofs.lemmas.Iterator.Search.{all_from_yields_List}
use Rattle.value.proofs.Tests.{true_and, le! }
use Rattle.program.specs.Bytes.{byte}
use Rattle.haai.specs.Word.{is_name}
use Rattle.haai.specs.Clauses.{is_part}
use Rattle.haai.proofs.Words.{every_is}
use Rattle.haai.proofs.word.is_name.Goals as goal

pub returns-then-w-le16 : goal.returns-then-w-le16
unfolding is_name is_part
returns-then-w-le16 c = let w = c.args.w.now in
    let all = all_from_yields_List is_part _ _ _ c.all.ensures.ran (YieldsList-from_slice w cc)
    (λ x b q k. search (rules, tests)) in
    let first = c.byte.ensures in
    all ∙ every_is is_part w
    ∙ sym (true_and _ (rw first at (sym c.is_letter.ensures ∙ c.if-w-le16.true.0)) ∙ true_and _ (le! c.if-w-le16.true.1))
