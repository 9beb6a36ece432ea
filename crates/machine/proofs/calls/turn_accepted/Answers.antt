use Rattle.std.proofs.Common.{not}
use Rattle.std.proofs.Common.{ap}
use Rattle.answer.proofs.Handed.{handed_on}
use Rattle.image.proofs.Starts.{words_legal_lem}
use Rattle.machine.proofs.Turning.{by_ready, clock_left, ready_fine, sinks_fit}
use Rattle.machine.specs.Clauses.{turned}
use Rattle.remus.specs.Turn.{by_asked, by_check, turn_refused}
use Rattle.value.proofs.Tests.{goes, passed, refused as no-pass, stops}
use Rattle.std.specs.Prelude.{refl}
use Rattle.std.proofs.Common.{sym, ◌∙◌}
use Rattle.machine.proofs.calls.turn_accepted.Goals as goal

pub returns-then-not-words_legal : goal.returns-then-not-words_legal
unfolding by_check turn_refused turned
returns-then-not-words_legal c = stops _ (no-pass c.words_legal.ensures (ap not c.if-not-words_legal.true)) refl

pub ready-requires : goal.ready-requires
ready-requires c = c.requires.loaded.facts

pub run_main-requires : goal.run_main-requires
run_main-requires c = let pre = c.requires in
    let e = sym c.in_ok-ready.ensures in
    let few = ((words_legal_lem _).0 (passed c.words_legal.ensures (ap not c.if-not-words_legal.false))).1 in
    let f = ready_fine _ _ _ _ _ e in
    let s = pre.safe _ _ few f.0 in
    record { safe = s; steady = s.steady _ f.1; memory_bound = clock_left _ _ _ _ f.1; program_in_bounds = sinks_fit _ _ _ _ f.1 }

pub returns : goal.returns
unfolding by_check by_asked
returns c = let e = sym c.in_ok-ready.ensures in
    goes _ _ (passed c.words_legal.ensures (ap not c.if-not-words_legal.false))
    (c.run_main.ensures ∙ sym (by_ready _ _ _ _ _ _ e))

pub returns-in_err-ready : goal.returns-in_err-ready
unfolding by_check by_asked turn_refused turned
returns-in_err-ready c = rw (handed_on _ c.from_residual.ensures.1)
    (goes _ _ (passed c.words_legal.ensures (ap not c.if-not-words_legal.false))
    (sym (by_ready _ _ _ _ _ _ (sym c.in_err-ready.ensures))))
