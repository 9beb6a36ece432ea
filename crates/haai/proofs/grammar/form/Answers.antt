use Rattle.std.specs.Prelude.{ℕ, ◌≡◌, List, Some, None, Err, refl}
use Rattle.std.proofs.Common.{sym, ◌∙◌, ap, arith, rules}
use Rattle.value.proofs.Tests.{yes, no}
use Rattle.haai.specs.Word.{word_end, word_start, class_of, bytes_of}
use Rattle.haai.specs.Grammar.{Step, step_of}
use Rattle.haai.specs.declared.Reading.{Reading}
use Rattle.haai.proofs.Small.{check_begins, check_ends, check_refused, check_taken, word_in, goes_on}
use Rattle.haai.proofs.Small.{room}
use Rattle.haai.proofs.grammar.form.Goals as goal

pub loop-a-init : goal.loop-a-init
loop-a-init c = let t = c.args.t.now in
    check_begins t _ _ c.begin-s.ensures c.word_start-a.ensures

pub take_word-requires : goal.take_word-requires
take_word-requires c = let t = c.args.t.now in
    let loop = c.loop-a in (
      room _ loop.invariant.small,
      word_in t loop.s _ loop.invariant c.loop-a-test.true _ c.word_end-e.ensures,
    )

-- the word's end and the next word, as the code has them: e, b
next : (t : List ℕ) (a e b : ℕ) → e ≡ word_end t a → b ≡ word_start t e → b ≡ word_start t (word_end t a)
next t a e b f g = g ∙ ap (word_start t) f

took : (t : List ℕ) (s : Reading) (a e : ℕ) {x y : Step} → e ≡ word_end t a
    → x ≡ step_of s (class_of (bytes_of t a e)) → x ≡ y → step_of s (class_of (bytes_of t a (word_end t a))) ≡ y
took t s a e f g h = ap (λ (e : ℕ). step_of s (class_of (bytes_of t a e))) (sym f) ∙ sym g ∙ h

pub loop-a-smaller : goal.loop-a-smaller
loop-a-smaller c = let loop = c.loop-a in
    let start = next _ _ _ _ c.word_end-e.ensures c.word_start-a-in-loop-a.ensures in
    let on = goes_on _ loop.s _ loop.invariant c.loop-a-test.true _ start in
    omega arith

pub word_start-a-requires-in-loop-a : goal.word_start-a-requires-in-loop-a
word_start-a-requires-in-loop-a c = let t = c.args.t.now in
    let loop = c.loop-a in
    (word_in t loop.s _ loop.invariant c.loop-a-test.true _ c.word_end-e.ensures).1

pub loop-a-preserved : goal.loop-a-preserved
loop-a-preserved c = let loop = c.loop-a in
    let end = c.word_end-e.ensures in
    let x = c.in_ok-next in
    let is : c.take_word.result ≡ Some (x.field-0-0, x.next) = search rules in
    check_taken _ loop.s _ loop.invariant c.loop-a-test.true _ _ _
    (next _ _ _ _ end c.word_start-a-in-loop-a.ensures)
    (took _ loop.s _ _ end c.take_word.ensures is)

pub returns-in_err-next : goal.returns-in_err-next
returns-in_err-next c = let t = c.args.t.now in
    let loop = c.loop-a in
    let end = c.word_end-e.ensures in
    let is : c.take_word.result ≡ None = search rules in
    let f : c.from_residual.result ≡ Err loop.a = search rules in
    f ∙ check_refused _ loop.s _ loop.invariant c.loop-a-test.true (word_start t (word_end t loop.a)) refl
    (took _ loop.s _ _ end c.take_word.ensures is)

pub returns-then-whole : goal.returns-then-whole
returns-then-whole c = let t = c.args.t.now in
    let loop = c.loop-a in
    yes _ (sym c.whole.ensures ∙ c.if-whole.true) refl
    ∙ check_ends t loop.s _ loop.invariant c.loop-a-test.false

pub returns-else-whole : goal.returns-else-whole
returns-else-whole c = let t = c.args.t.now in
    let loop = c.loop-a in
    no _ (sym c.whole.ensures ∙ c.if-whole.false) refl
    ∙ check_ends t loop.s _ loop.invariant c.loop-a-test.false
