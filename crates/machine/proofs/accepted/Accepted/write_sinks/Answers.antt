use Rattle.std.specs.Prelude.{ℕ, ◌-◌, ◌<◌, ◌≡◌, refl}
use Rattle.std.proofs.Common.{sym, ◌∙◌, subst, arith}
use Rattle.machine.proofs.Passing.{sinks_done, sinks_next}
use Rattle.machine.proofs.FactLaws.{told}
use Rattle.program.specs.Bytes.{main_of, reactors}
use Rattle.program.specs.Location.{sink_count}
use Rattle.remus.specs.Clear.{pairs, sunk}
use lib.ListN.{length-set}
use Rattle.machine.proofs.accepted.Accepted.write_sinks.Goals as goal

pub loop-x-init : goal.loop-x-init
unfolding sunk pairs
loop-x-init c = let args = c.args in
    let at_sinks = c.sink_count-n in
    let pre = c.requires in
    let at_main_of = c.main_of in
    let at_fact = c.fact in
    let p = args.self.program.now in
    let n = at_sinks.ensures _ _ (told c.args.self.loaded at_main_of.ensures c.args.self.loaded.main at_fact.ensures.known) in
    let e : at_sinks.result - 0 ≡ sink_count p (main_of p) = omega (arith, n) in
    (refl, rw e)

pub loop-x-preserved : goal.loop-x-preserved
loop-x-preserved c = let args = c.args in
    let at_sinks = c.sink_count-n in
    let pre = c.requires in
    let at_main_of = c.main_of in
    let at_fact = c.fact in
    let at_sink_index = c.sink_index-i in
    let at_put_pair = c.put_pair in
    let at_loop = c.loop-x in
    let at_pair = c.pair-v in
    let at_loop_test = c.loop-x-test in
    let p = args.self.program.now in
    let n = at_sinks.ensures _ _ (told c.args.self.loaded at_main_of.ensures c.args.self.loaded.main at_fact.ensures.known) in
    let main = pre.memory_value in
    let low = subst (λ (r : ℕ). r < reactors p) (sym main) c.args.self.loaded.main in
    let here = at_sink_index.ensures.is p c.args.self.loaded.facts low in
    rw at_put_pair.ensures (
      simp length-set at_loop.invariant.0,
      sinks_next _ _ _ _ _ _ _ main here at_pair.ensures at_loop_test.true
          (omega (arith, pre.program_in_bounds, at_loop.invariant.0, n)) ∙ at_loop.invariant.1,
    )

pub shape_of-space : goal.shape_of-space
shape_of-space c = c.loop-x.invariant.0

pub returns : goal.returns
returns c = sinks_done _ _ _ _ _ c.loop-x-test.false ∙ c.loop-x.invariant.1
