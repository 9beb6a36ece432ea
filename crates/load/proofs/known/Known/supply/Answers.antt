use Rattle.std.specs.Prelude.{ℕ, ◌/◌, ◌%◌, ◌^◌, ◌<◌, refl, not, get_or}
use Rattle.std.proofs.Common.{sym, ◌∙◌, ap, arith}
use Rattle.load.proofs.Bits.{bit_low, bit_most, bit_room}
use Rattle.load.proofs.Conditions.{right_supply}
use Rattle.load.proofs.Sequence.{taking}
use Rattle.load.proofs.Shapes.{free_source}
use Rattle.load.proofs.Stands.{port_source, port_sources, stands}
use Rattle.load.specs.Clauses.{state}
use Rattle.load.specs.Scan.{in_sequence, is_supplied, is_value, kind_at, standing_after, standing_at}
use Rattle.program.specs.Command.{sequence_of}
use Rattle.value.proofs.Tests.{no, same_and, same_and3, same_eq, same_le, same_lt, yes}
use Rattle.value.specs.Test.{◌=?◌}
use Rattle.load.proofs.known.Known.supply.Goals as goal

pub overflow_add-t : goal.overflow_add-t
overflow_add-t c = omega (arith, bit_most c.args.c.x)

pub overflow_cast-t-then-right : goal.overflow_cast-t-then-right
unfolding is_value is_supplied standing_at kind_at
overflow_cast-t-then-right c = let args = c.args in
    let k = args.self.now in
    let p = k.program.now in
    let r = k.reactor in
    let s = state args.locations.now in
    let from = c.seen-from.ensures in
    let to = c.seen-to.ensures in
    let made = same_and3 (same_eq c.v-v.ensures refl) (same_eq from.standing refl)
    (same_and (same_le refl to.standing)
    (same_and
    (same_and (same_lt refl (port_sources p c.port-n.ensures to.kind))
    (same_eq from.kind (port_source p _ c.port-k.ensures to.kind)))
    (ap not (c.has_source.ensures ∙ ap (λ (t : ℕ). t / 2 ^ args.c.x % 2 =? 1) to.standing)))) in
    let free = free_source p r (s 0) args.c k.legal c.requires.shaped
    (sym (right_supply p r (s 0) args.c _ _ _ made) ∙ c.if-right.true) in
    let e : get_or args.locations.now.standing args.c.b 0 < 256 = omega (arith, to.standing) in
    omega (arith, to.standing, c.bit.ensures, bit_low _ free.0, bit_room _ e _ free.0 free.1)

pub returns-then-right : goal.returns-then-right
unfolding in_sequence sequence_of standing_after is_value is_supplied standing_at kind_at
returns-then-right c = let args = c.args in
    let k = args.self.now in
    let p = k.program.now in
    let r = k.reactor in
    let s = state args.locations.now in
    let from = c.seen-from.ensures in
    let to = c.seen-to.ensures in
    let made = same_and3 (same_eq c.v-v.ensures refl) (same_eq from.standing refl)
    (same_and (same_le refl to.standing)
    (same_and
    (same_and (same_lt refl (port_sources p c.port-n.ensures to.kind))
    (same_eq from.kind (port_source p _ c.port-k.ensures to.kind)))
    (ap not (c.has_source.ensures ∙ ap (λ (t : ℕ). t / 2 ^ args.c.x % 2 =? 1) to.standing)))) in
    let free = free_source p r (s 0) args.c k.legal c.requires.shaped
    (sym (right_supply p r (s 0) args.c _ _ _ made) ∙ c.if-right.true) in
    λ here. taking p r here _ _ args.c _ refl (λ n. right_supply p r (s n) args.c _ _ _ made)
    (λ n. yes _ c.if-right.true (stands (s n) (c.restand.ensures n) refl
    (omega (arith, to.standing, c.bit.ensures, bit_low _ free.0)) refl))

pub returns-else-right : goal.returns-else-right
unfolding in_sequence sequence_of standing_after is_value is_supplied standing_at kind_at
returns-else-right c = let args = c.args in
    let k = args.self.now in
    let p = k.program.now in
    let r = k.reactor in
    let s = state args.locations.now in
    let from = c.seen-from.ensures in
    let to = c.seen-to.ensures in
    let made = same_and3 (same_eq c.v-v.ensures refl) (same_eq from.standing refl)
    (same_and (same_le refl to.standing)
    (same_and
    (same_and (same_lt refl (port_sources p c.port-n.ensures to.kind))
    (same_eq from.kind (port_source p _ c.port-k.ensures to.kind)))
    (ap not (c.has_source.ensures ∙ ap (λ (t : ℕ). t / 2 ^ args.c.x % 2 =? 1) to.standing)))) in
    λ here. taking p r here _ _ args.c _ refl (λ n. right_supply p r (s n) args.c _ _ _ made)
    (λ n. no _ c.if-right.false refl)
