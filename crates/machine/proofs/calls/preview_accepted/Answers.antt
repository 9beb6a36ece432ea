use Rattle.std.proofs.Common.{not}
use Rattle.std.proofs.Common.{ap}
use Rattle.answer.proofs.Handed.{handed_on}
use Rattle.image.proofs.Starts.{words_legal_lem}
use Rattle.machine.proofs.Previewing.{shown_run, shown_refused}
use Rattle.machine.proofs.Turning.{clock_left, ready_fine, sinks_fit}
use Rattle.machine.specs.Clauses.{previewed}
use Rattle.remus.specs.Preview.{preview_by, preview_refused}
use Rattle.value.proofs.Tests.{eq!, eq×, goes, passed, refused as no-pass, stops}
use Rattle.std.specs.Prelude.{refl}
use Rattle.std.proofs.Common.{sym}
use Rattle.machine.proofs.calls.preview_accepted.Goals as goal

pub returns-then-not-words_legal : goal.returns-then-not-words_legal
unfolding preview_by preview_refused previewed
returns-then-not-words_legal c = stops _ (no-pass c.words_legal.ensures (ap not c.if-not-words_legal.true)) refl

pub returns-then-k-n : goal.returns-then-k-n
unfolding preview_by preview_refused previewed
returns-then-k-n c = goes _ _ (passed c.words_legal.ensures (ap not c.if-not-words_legal.false)) (stops _ (eq× c.if-k-n.true) refl)

pub ready-requires : goal.ready-requires
ready-requires c = c.requires.sure.loaded.facts

pub run_main-requires : goal.run_main-requires
run_main-requires c = let pre = c.requires.sure in
    let e = sym c.in_ok-ready.ensures in
    let few = ((words_legal_lem _).0 (passed c.words_legal.ensures (ap not c.if-not-words_legal.false))).1 in
    let f = ready_fine _ _ _ _ _ e in
    let s = pre.safe _ _ few f.0 in
    rw c.copy_words.ensures
    (record {
      safe = s;
      steady = s.steady _ f.1;
      memory_bound = clock_left _ _ _ _ f.1;
      program_in_bounds = sinks_fit _ _ _ _ f.1;
    })

pub returns : goal.returns
unfolding preview_by
returns c = let pre = c.requires in
    let l = passed c.words_legal.ensures (ap not c.if-not-words_legal.false) in
    let e = sym c.in_ok-ready.ensures in
    let ran = rw c.copy_words.ensures at c.run_main.ensures in
    goes _ _ l (goes _ _ (eq! c.if-k-n.false) (shown_run _ _ _ _ _ pre.accepted l e _ _ _ ran))

pub returns-in_err-ready : goal.returns-in_err-ready
unfolding preview_by
returns-in_err-ready c = let pre = c.requires in
    let l = passed c.words_legal.ensures (ap not c.if-not-words_legal.false) in
    let e = sym c.in_err-ready.ensures in
    rw (handed_on _ c.from_residual.ensures.1) (goes _ _ l (goes _ _ (eq! c.if-k-n.false) (shown_refused _ _ _ _ _ pre.accepted l _ e)))
