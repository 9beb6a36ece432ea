use Rattle.std.proofs.Common.{not}
use Rattle.std.specs.Prelude.{ℕ, ◌≡◌, refl, length}
use Rattle.std.proofs.Common.{sym, ◌∙◌, ap, arith}
use Rattle.value.proofs.Tests.{passed, refused}
use Rattle.value.proofs.Sweeps.{sweep_done, sweep_found, sweep_next}
use Rattle.program.specs.Bytes.{byte}
use Rattle.haai.specs.Word.{is_space, word_start}
use Rattle.haai.proofs.word.word_start.Goals as goal

pub loop-j-init : goal.loop-j-init
unfolding word_start
loop-j-init c = refl

pub returns-then-not-is_space : goal.returns-then-not-is_space
unfolding byte
returns-then-not-is_space c = let t = c.args.t.now in
    sweep_found (λ (j : ℕ). is_space (byte t j)) _ _ (omega arith)
    (refused c.is_space.ensures (ap not c.if-not-is_space.true))
    ∙ sym c.loop-j.invariant

pub loop-j-preserved : goal.loop-j-preserved
unfolding byte
loop-j-preserved c = let t = c.args.t.now in
    c.loop-j.invariant
    ∙ sweep_next (λ (j : ℕ). is_space (byte t j)) _ _ (omega arith)
    (passed c.is_space.ensures (ap not c.if-not-is_space.false))

pub returns : goal.returns
returns c = let t = c.args.t.now in
    let loop = c.loop-j in
    let last : length t ≡ loop.j = let e = loop.auto.j-end c.requires in omega arith in
    last ∙ sweep_done (λ (j : ℕ). is_space (byte t j)) _ _ c.loop-j-test.false ∙ sym loop.invariant
