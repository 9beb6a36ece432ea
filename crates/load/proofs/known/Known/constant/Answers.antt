use Rattle.std.specs.Prelude.{ℕ, ◌+◌, refl}
use Rattle.std.proofs.Common.{◌∙◌, ap}
use Rattle.load.proofs.Conditions.{right_constant}
use Rattle.load.proofs.Sequence.{same_given}
use Rattle.load.specs.Clauses.{state}
use Rattle.load.specs.Scan.{formed}
use Rattle.program.specs.Kind.{content_legal, give_kind}
use Rattle.value.proofs.Tests.{same_and3, same_eq, same_lt}
use Rattle.load.proofs.known.Known.constant.Goals as goal

pub returns : goal.returns
unfolding formed give_kind
returns c = let k = c.args.self.now in
    let v = c.v-v.ensures in
    let made = same_and3 (same_eq refl refl) (same_lt refl (ap (λ (n : ℕ). 2 + n) k.its_shapes))
    (c.content_legal.ensures ∙ ap (content_legal k.program.now c.args.c.x) v) in
    λ t n. c.then_some.ensures ∙ same_given (right_constant k.program.now k.reactor (state t n) c.args.c _ _ made) refl
