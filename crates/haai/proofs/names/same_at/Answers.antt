use Rattle.std.specs.Prelude.{ℕ, refl, List}
use Rattle.std.proofs.Common.{sym, ◌∙◌, ap, arith}
use Rattle.value.proofs.Tests.{same_eq}
use Rattle.haai.specs.Word.{same_word, bytes_of}
use Rattle.haai.specs.Places.{word_of}
use Rattle.haai.proofs.Words.{same_is}
use Rattle.haai.proofs.Ahead.{end_in}
use Rattle.haai.proofs.Placed.{no_word, same_none}
use Rattle.haai.proofs.names.same_at.Goals as goal

pub returns-then-t-a : goal.returns-then-t-a
returns-then-t-a c = let w = c.args.w.now in
    let t = c.args.t.now in
    same_eq refl refl
    ∙ same_none w
    ∙ ap (λ (l : List ℕ). same_word l w) (sym (no_word t c.args.a c.if-t-a.true))

pub returns : goal.returns
unfolding word_of bytes_of
returns c = let t = c.args.t.now in
    let w = c.args.w.now in
    let a = c.args.a in
    c.eq.ensures ∙ same_is _ w ∙ ap (λ (e : ℕ). same_word (bytes_of t a e) w) c.word_end-e.ensures

pub slice_bounds-eq-count : goal.slice_bounds-eq-count
slice_bounds-eq-count c = omega (arith, end_in _ _ c.if-t-a.false _ c.word_end-e.ensures)

pub slice_bounds-eq-start : goal.slice_bounds-eq-start
slice_bounds-eq-start c = omega (arith, end_in _ _ c.if-t-a.false _ c.word_end-e.ensures)

pub slice_bounds-eq-end : goal.slice_bounds-eq-end
slice_bounds-eq-end c = omega (arith, end_in _ _ c.if-t-a.false _ c.word_end-e.ensures)
