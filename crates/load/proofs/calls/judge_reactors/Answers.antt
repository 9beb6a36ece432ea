use Rattle.std.proofs.Common.{not}
use Rattle.std.specs.Prelude.{ℕ, ◌+◌, ◌<◌, ◌≡◌, refl, List, Err}
use Rattle.std.proofs.Common.{sym, ◌∙◌, ap, arith}
use Rattle.answer.proofs.Handed.{handed_on}
use Rattle.load.proofs.Loops.{not_fine, reactor_missing, reactor_refused, reactor_taken, reactors_done}
use Rattle.load.specs.Check.{accepted, checked, reactors_of}
use Rattle.load.specs.Scan.{standing_at}
use Rattle.answer.specs.declared.Refusal.TheVariants.{Missing}
use Rattle.program.proofs.Known.{upto_all, upto_next, upto_none}
use Rattle.program.proofs.Places.{commands_first, commands_next, commands_within, tables_within}
use Rattle.program.specs.Bytes.{commands_in, commands_d, reactors, commands_r}
use Rattle.program.specs.Location.{locations, results, sink_loc, sink_count, source_count}
use Rattle.value.proofs.Tests.{passed, refused}
use Rattle.load.proofs.calls.judge_reactors.Goals as goal

pub loop-r-init : goal.loop-r-init
loop-r-init c = let args = c.args in
    let p = args.program.now in (
      ap (λ (n : ℕ). reactors_of (accepted p) n p 0) (omega arith),
      omega arith,
      c.tables_end-first.ensures ∙ sym (commands_first p),
      upto_none p _ c.requires.zeros,
    )

pub of-known-requires : goal.of-known-requires
of-known-requires c = let r = c.loop-r.r in
    let pre = c.requires in
    let p = c.args.program.now in
    let inside : r < reactors p = omega (arith, c.reactors-count.ensures) in record {
      tables = pre.tables;
      inside = (inside, omega (arith, pre.whole.0, tables_within p));
      here = (c.loop-r.invariant.2, omega (arith, c.loop-r.invariant.2, pre.whole.0, commands_within p r inside), pre.whole.1);
    }

pub returns-in_err-results : goal.returns-in_err-results
unfolding checked
returns-in_err-results c = let p = c.args.program.now in rw (handed_on _ c.from_residual.ensures.1) (record {
  ruling = reactor_refused _ p c.loop-r.r _ (omega (arith, c.reactors-count.ensures))
      c.scan.new.locations c.of-known.ensures c.in_err-results.ensures ∙ sym c.loop-r.invariant.0;
  facts = not_fine;
})

pub overflow_add-first_sink : goal.overflow_add-first_sink
overflow_add-first_sink c = omega (arith, c.first_sink.ensures.small)

pub complete-requires : goal.complete-requires
unfolding locations sink_loc commands_in standing_at
complete-requires c = let f = c.of-known.result in
    let end : c.first_sink.result + f.sinks ≡ locations f.program.now f.reactor = omega
    (arith, c.first_sink.ensures.is, f.its_sources, f.its_declared, f.its_running, f.its_sinks) in record {
      small = omega (arith, c.first_sink.ensures.small);
      within = λ l h. c.in_ok-results.ensures.1 l (omega (arith, end));
    }

pub returns-then-not-complete : goal.returns-then-not-complete
unfolding checked
returns-then-not-complete c = let p = c.args.program.now in record {
  ruling = ap (λ (e : ℕ). Err (Missing e)) c.entry_at.ensures.is
      ∙ reactor_missing _ p c.loop-r.r _ (omega (arith, c.reactors-count.ensures)) _
      c.of-known.ensures _ c.in_ok-results.ensures (refused (c.complete.ensures _) (ap not c.if-not-complete.true))
      ∙ sym c.loop-r.invariant.0;
  facts = not_fine;
}

pub bounds-facts-r : goal.bounds-facts-r
bounds-facts-r c = omega (arith, c.reactors-count.ensures, c.requires.few.1)

pub loop-r-preserved : goal.loop-r-preserved
unfolding commands_in
loop-r-preserved c = let p = c.args.program.now in
    let f = c.of-known.result in
    let r = c.loop-r.r in
    let pre = c.requires in
    let loop = c.loop-r in
    let is : (g : List ℕ → ℕ → ℕ) → g f.program.now f.reactor ≡ g p r =
    (λ g. ap (λ (o : List ℕ). g o f.reactor) c.of-known.ensures.0 ∙ ap (g p) c.of-known.ensures.1) in
    let inside : r < reactors p = omega (arith, c.reactors-count.ensures) in
    let declared = f.its_declared ∙ is commands_d in
    let running = f.its_running ∙ is commands_r in
    let low = commands_within p r inside in
    let told = c.new-k.ensures p r (omega (arith, loop.invariant.2, low, pre.whole.0, pre.whole.1)) loop.invariant.2
    (f.its_sources ∙ is source_count) declared running
    (c.in_ok-results.ensures.2 ∙ is (λ o q. results o q (commands_r o q)))
    (f.its_sinks ∙ is sink_count) in (
      loop.invariant.0
          ∙ reactor_taken _ p r _ (omega (arith, inside)) _ c.of-known.ensures _ c.in_ok-results.ensures
          (passed (c.complete.ensures _) (ap not c.if-not-complete.false))
          ∙ ap (λ (m : ℕ). reactors_of (accepted p) m p (r + 1)) (omega (arith, inside)),
      omega (arith, inside),
      omega (arith, loop.invariant.2, commands_next p r, declared, running),
      upto_next p _ r _ (omega (arith, inside, pre.few.1)) told loop.invariant.3 _ refl,
    )

pub returns : goal.returns
unfolding checked
returns c = let at_loop = c.loop-r in
    let at_reactors = c.reactors-count in
    let p = c.args.program.now in
    let all : at_loop.r ≡ reactors p = omega (arith, at_reactors.ensures, at_loop.invariant.1) in
    record { ruling = reactors_done _ _ _ _ (omega arith) ∙ sym at_loop.invariant.0; facts = λ e. upto_all _ _ _ at_loop.invariant.3 all }
