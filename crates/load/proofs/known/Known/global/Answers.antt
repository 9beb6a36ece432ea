use Rattle.std.specs.Prelude.{ℕ, ◌+◌, refl}
use Rattle.std.proofs.Common.{◌∙◌, ap}
use Rattle.load.proofs.Conditions.{right_global}
use Rattle.load.proofs.Sequence.{same_given}
use Rattle.load.specs.Clauses.{state}
use Rattle.program.specs.Kind.{give_kind}
use Rattle.value.proofs.Tests.{same_and, same_eq, same_le}
use Rattle.load.proofs.known.Known.global.Goals as goal

pub returns : goal.returns
unfolding give_kind
returns c = let k = c.args.self.now in
    let made = same_and (same_eq (ap (λ (v : ℕ). c.args.c.a + c.args.c.b + v) c.v.ensures) refl)
    (same_le refl k.its_globals) in
    λ t n. c.then_some.ensures ∙ same_given (right_global k.program.now k.reactor (state t n) c.args.c _ made)
    c.global_kind-k.ensures
