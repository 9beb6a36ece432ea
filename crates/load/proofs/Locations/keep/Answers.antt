use Rattle.std.specs.Prelude.{ℕ, ◌+◌, refl}
use Rattle.std.proofs.Common.{ap}
use Rattle.load.proofs.Conditions.{right_keep}
use Rattle.load.proofs.Sequence.{taking}
use Rattle.load.specs.Clauses.{state}
use Rattle.load.specs.Scan.{in_sequence, is_value, kind_at, standing_after, standing_at}
use Rattle.program.specs.Command.{sequence_of}
use Rattle.value.proofs.Tests.{no, same_and, same_and3, same_eq, yes}
use Rattle.load.proofs.Locations.keep.Goals as goal

pub returns-then-right : goal.returns-then-right
unfolding in_sequence sequence_of standing_after is_value standing_at kind_at
returns-then-right c = let from = c.seen-from.ensures in
    let to = c.seen-to.ensures in
    let args = c.args in
    let made = same_and3 (same_eq (ap (λ (v : ℕ). args.c.x + v) c.v.ensures) refl) (same_eq from.standing refl)
    (same_and (same_eq to.standing refl) (same_eq from.kind to.kind)) in
    λ p r here. taking p r here _ _ args.c _ refl (λ n. right_keep p r (state args.self.now n) args.c _ _ made)
    (λ n. yes _ c.if-right.true (c.restand.ensures n))

pub returns-else-right : goal.returns-else-right
unfolding in_sequence sequence_of standing_after is_value standing_at kind_at
returns-else-right c = let from = c.seen-from.ensures in
    let to = c.seen-to.ensures in
    let args = c.args in
    let made = same_and3 (same_eq (ap (λ (v : ℕ). args.c.x + v) c.v.ensures) refl) (same_eq from.standing refl)
    (same_and (same_eq to.standing refl) (same_eq from.kind to.kind)) in
    λ p r here. taking p r here _ _ args.c _ refl (λ n. right_keep p r (state args.self.now n) args.c _ _ made)
    (λ n. no _ c.if-right.false refl)
