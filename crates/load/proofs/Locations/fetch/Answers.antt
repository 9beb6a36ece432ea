use Rattle.std.specs.Prelude.{ℕ, ◌+◌, refl}
use Rattle.std.proofs.Common.{◌∙◌, ap}
use Rattle.load.proofs.Conditions.{right_fetch}
use Rattle.load.proofs.Sequence.{same_given}
use Rattle.load.specs.Clauses.{state}
use Rattle.load.specs.Scan.{is_cell, kind_at, standing_at}
use Rattle.program.specs.Kind.{give_kind}
use Rattle.value.proofs.Tests.{same_and, same_eq, same_le}
use Rattle.load.proofs.Locations.fetch.Goals as goal

pub returns : goal.returns
unfolding give_kind standing_at kind_at is_cell
returns c = let seen = c.seen-from.ensures in
    let args = c.args in
    let made = same_and (same_eq (ap (λ (v : ℕ). args.c.x + args.c.a + v) c.v.ensures) refl)
    (same_and (same_le refl seen.standing) (same_le seen.standing refl)) in
    λ p r n. c.then_some.ensures ∙ same_given (right_fetch p r (state args.self.now n) args.c _ made) seen.kind
