use Rattle.std.specs.Prelude.{ℕ, ◌+◌, refl}
use Rattle.std.proofs.Common.{◌∙◌, ap}
use Rattle.load.proofs.Conditions.{right_react}
use Rattle.load.proofs.Sequence.{taking}
use Rattle.load.proofs.Stands.{port_sources}
use Rattle.load.specs.Clauses.{state}
use Rattle.load.specs.Scan.{in_sequence, kind_at, ready_at, standing_after, standing_at}
use Rattle.program.specs.Command.{sequence_of}
use Rattle.value.proofs.Tests.{no, same_and, same_eq, yes}
use Rattle.value.specs.Test.{◌=?◌}
use Rattle.load.proofs.known.Known.react.Goals as goal

pub returns-then-right : goal.returns-then-right
unfolding in_sequence sequence_of standing_after standing_at kind_at
returns-then-right c = let args = c.args in
    let p = args.self.now.program.now in
    let s = state args.locations.now in
    let to = c.seen-to.ensures in
    let made = same_and (same_eq (ap (λ (v : ℕ). args.c.x + args.c.a + v) c.v.ensures) refl)
    (c.is_ready.ensures ∙ ap (λ (t : ℕ). t =? ready_at c.port-n.result) to.standing
    ∙ ap (λ (n : ℕ). standing_at (s 0) args.c.b =? ready_at n) (port_sources p c.port-n.ensures to.kind)) in
    λ here. taking p args.self.now.reactor here _ _ args.c _ refl
    (λ n. right_react p args.self.now.reactor (s n) args.c _ made)
    (λ n. yes _ c.if-right.true (c.restand.ensures n))

pub returns-else-right : goal.returns-else-right
unfolding in_sequence sequence_of standing_after standing_at kind_at
returns-else-right c = let args = c.args in
    let p = args.self.now.program.now in
    let s = state args.locations.now in
    let to = c.seen-to.ensures in
    let made = same_and (same_eq (ap (λ (v : ℕ). args.c.x + args.c.a + v) c.v.ensures) refl)
    (c.is_ready.ensures ∙ ap (λ (t : ℕ). t =? ready_at c.port-n.result) to.standing
    ∙ ap (λ (n : ℕ). standing_at (s 0) args.c.b =? ready_at n) (port_sources p c.port-n.ensures to.kind)) in
    λ here. taking p args.self.now.reactor here _ _ args.c _ refl
    (λ n. right_react p args.self.now.reactor (s n) args.c _ made) (λ n. no _ c.if-right.false refl)
