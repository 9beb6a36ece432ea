use Rattle.std.specs.Prelude.{ℕ, ◌+◌, refl}
use Rattle.std.proofs.Common.{◌∙◌, ap}
use Rattle.load.proofs.Conditions.{right_consume}
use Rattle.load.proofs.Stands.{port_sink, port_sinks}
use Rattle.load.specs.Clauses.{state}
use Rattle.load.proofs.Sequence.{same_given}
use Rattle.load.specs.Scan.{kind_at, standing_at}
use Rattle.program.specs.Kind.{give_kind}
use Rattle.value.proofs.Tests.{same_and3, same_eq, same_lt}
use Rattle.load.proofs.known.Known.consume.Goals as goal

pub returns : goal.returns
unfolding give_kind standing_at kind_at
returns c = let k = c.args.self.now in
    let p = k.program.now in
    let seen = c.seen-from.ensures in
    let few = port_sinks p c.port-n.ensures seen.kind in
    let made = same_and3 (same_eq (ap (λ (v : ℕ). c.args.c.a + v) c.v.ensures) refl)
    (same_eq seen.standing refl) (same_lt refl few) in
    λ n. c.then_some.ensures ∙ same_given
    (right_consume p k.reactor (state c.args.locations.now n) c.args.c _ _ made)
    (port_sink p _ c.port-k.ensures seen.kind)
