use Rattle.std.specs.Prelude.{ℕ, refl}
use Rattle.std.proofs.Common.{◌∙◌, ap, arith}
use Rattle.load.proofs.Stands.{one_source}
use Rattle.load.specs.Clauses.{state}
use Rattle.load.specs.Scan.{with_sources}
use Rattle.program.specs.Bytes.{source_kind}
use Rattle.load.proofs.known.Known.with_sources.Goals as goal

pub loop-x-init : goal.loop-x-init
unfolding with_sources
loop-x-init c = refl

pub loop-x-preserved : goal.loop-x-preserved
loop-x-preserved c = let k = c.args.self.now in
    one_source k.program.now k.reactor (state c.args.locations.now 0) _ _ c.loop-x.invariant
    (c.source_kind-k.ensures ∙ ap (λ (o : ℕ). source_kind k.program.now o c.loop-x.x) k.its_shape) (c.stand.ensures 0)

pub returns : goal.returns
returns c = let k = c.args.self.now in
    c.loop-x.invariant ∙ ap (λ (x : ℕ). with_sources x k.program.now k.reactor (state c.args.locations.now 0))
    (omega (arith, k.its_sources))
