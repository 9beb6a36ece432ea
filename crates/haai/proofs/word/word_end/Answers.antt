use Rattle.std.specs.Prelude.{ℕ, ◌≡◌, refl, not, length}
use Rattle.std.proofs.Common.{sym, ◌∙◌, ap, arith}
use Rattle.value.proofs.Tests.{goes, stops}
use Rattle.value.proofs.Sweeps.{sweep_done, sweep_found, sweep_next}
use Rattle.program.specs.Bytes.{byte}
use Rattle.haai.specs.Word.{word_end, ends_word}
use Rattle.haai.proofs.word.word_end.Goals as goal

pub returns-then-is_bracket : goal.returns-then-is_bracket
unfolding word_end byte
returns-then-is_bracket c = stops _ (ap not (sym c.is_bracket.ensures ∙ c.if-is_bracket.true)) refl

pub loop-j-init : goal.loop-j-init
unfolding word_end byte
loop-j-init c = sym (goes _ _ (ap not (sym c.is_bracket.ensures ∙ c.if-is_bracket.false)) refl)

pub returns-then-ends_word : goal.returns-then-ends_word
unfolding byte
returns-then-ends_word c = let t = c.args.t.now in
    sweep_found (λ (j : ℕ). not (ends_word (byte t j))) _ _ (omega arith)
    (ap not (sym c.ends_word.ensures ∙ c.if-ends_word.true))
    ∙ sym c.loop-j.invariant

pub loop-j-preserved : goal.loop-j-preserved
unfolding byte
loop-j-preserved c = let t = c.args.t.now in
    c.loop-j.invariant
    ∙ sweep_next (λ (j : ℕ). not (ends_word (byte t j))) _ _ (omega arith)
    (ap not (sym c.ends_word.ensures ∙ c.if-ends_word.false))

pub returns : goal.returns
returns c = let t = c.args.t.now in
    let loop = c.loop-j in
    let last : length t ≡ loop.j = omega arith in
    last ∙ sweep_done (λ (j : ℕ). not (ends_word (byte t j))) _ _ c.loop-j-test.false ∙ sym loop.invariant
