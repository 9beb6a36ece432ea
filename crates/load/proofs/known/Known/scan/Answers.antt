use Rattle.std.specs.Prelude.{ℕ, ◌+◌, ◌-◌, refl}
use Rattle.std.proofs.Common.{◌∙◌, ap, arith}
use Rattle.load.proofs.Loops.{refused_here, run_done, run_refused, run_start, run_taken}
use Rattle.load.specs.Clauses.{state}
use Rattle.load.specs.Scan.{begin_of, kind_at, standing_at, with_sinks, with_sources}
use Rattle.load.specs.declared.Locations.{Locations}
use Rattle.program.proofs.Slots.{results_few}
use Rattle.program.specs.Bytes.{commands_d, commands_in}
use Rattle.program.specs.Command.{decode, takes_words}
use Rattle.program.specs.Location.{sink_count, source_count}
use Rattle.value.specs.Test.{◌<?◌, pick}
use Rattle.load.proofs.known.Known.scan.Goals as goal

pub loop-i-init : goal.loop-i-init
unfolding begin_of
loop-i-init c = let k = c.args.self.now in
    let p = k.program.now in
    let r = k.reactor in
    let begin = c.with_sinks.ensures ∙ ap (with_sinks (sink_count p r) p r)
    (c.with_sources.ensures ∙ ap (λ (t : Locations). with_sources (source_count p r) p r (state t 0)) c.requires.blank) in
    run_start p r k.legal _ _ begin refl refl

pub take-requires-clause-shaped : goal.take-requires-clause-shaped
unfolding standing_at kind_at
take-requires-clause-shaped c = c.loop-i.invariant.shaped

pub take-requires-clause-here : goal.take-requires-clause-here
take-requires-clause-here c = let k = c.args.self.now in
    let run = c.loop-i.invariant in
    let few = results_few k.program.now k.reactor (c.loop-i.i - commands_d k.program.now k.reactor) in
    (omega (arith, run.here, k.few), omega (arith, run.counted, run.here, few))

pub refusal-requires : goal.refusal-requires
unfolding commands_in
refusal-requires c = let k = c.args.self.now in
    let loop = c.loop-i in record {
      bytes = c.loop-i-test.true;
      refused = refused_here k.program.now k.reactor loop.locations loop.s loop.i loop.invariant
          (omega (arith, c.loop-i-test.true, k.its_declared, k.its_running)) _ c.command-c.ensures _
          c.in_default.ensures.step;
    }

pub returns-in_default : goal.returns-in_default
unfolding commands_in
returns-in_default c = let k = c.args.self.now in
    let loop = c.loop-i in
    run_refused k.program.now k.reactor loop.locations loop.s loop.i loop.invariant
    (omega (arith, c.loop-i-test.true, k.its_declared, k.its_running)) _ c.command-c.ensures _
    c.in_default.ensures.step
    c.refusal.ensures

pub loop-i-preserved : goal.loop-i-preserved
unfolding commands_in
loop-i-preserved c = let k = c.args.self.now in
    let loop = c.loop-i in
    let count = c.in-Some.ensures.counted ∙ ap
    (λ (n : ℕ). loop.s.results + pick (loop.s.next <? n) 0 (pick (takes_words (decode c.command-c.result)) 1 0))
    k.its_declared in
    run_taken k.program.now k.reactor loop.locations loop.s loop.i loop.invariant
    (omega (arith, c.loop-i-test.true, k.its_declared, k.its_running)) _ c.command-c.ensures _ k.legal _
    c.in-Some.ensures.step count

pub overflow_cast-result : goal.overflow_cast-result
overflow_cast-result c = let k = c.args.self.now in
    let few = results_few k.program.now k.reactor (c.loop-i.i - commands_d k.program.now k.reactor) in
    omega (arith, c.loop-i.invariant.counted, k.few, few)

pub returns : goal.returns
unfolding commands_in
returns c = let k = c.args.self.now in
    run_done k.program.now k.reactor _ _ _ c.loop-i.invariant (omega (arith, k.its_declared, k.its_running, k.few))
