use Rattle.std.specs.Prelude.{ℕ, ◌+◌, ◌≡◌, refl}
use Rattle.std.proofs.Common.{◌∙◌, ap, arith}
use Rattle.load.proofs.Stands.{one_sink}
use Rattle.load.specs.Clauses.{state}
use Rattle.load.specs.Scan.{with_sinks}
use Rattle.program.specs.Bytes.{commands_in}
use Rattle.program.specs.Location.{sink_loc}
use Rattle.load.proofs.known.Known.with_sinks.Goals as goal

pub loop-x-init : goal.loop-x-init
unfolding with_sinks
loop-x-init c = refl

pub loop-x-preserved : goal.loop-x-preserved
unfolding sink_loc commands_in
loop-x-preserved c = let k = c.args.self.now in
    let at : c.first_sink-first.result + c.loop-x.x ≡ sink_loc k.program.now k.reactor c.loop-x.x = omega
    (arith, c.first_sink-first.ensures.is, k.its_sources, k.its_declared, k.its_running) in
    one_sink k.program.now k.reactor (state c.args.locations.now 0) _ _ c.loop-x.invariant at (c.stand.ensures 0)

pub returns : goal.returns
returns c = let k = c.args.self.now in
    c.loop-x.invariant ∙ ap (λ (x : ℕ). with_sinks x k.program.now k.reactor (state c.args.locations.now 0))
    (omega (arith, k.its_sinks))
