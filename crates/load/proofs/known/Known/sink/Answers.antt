use Rattle.std.specs.Prelude.{ℕ, ◌+◌, ◌≡◌, refl, get_or}
use Rattle.std.proofs.Common.{◌∙◌, ap, arith}
use Rattle.load.proofs.Conditions.{right_sink}
use Rattle.load.proofs.Sequence.{taking}
use Rattle.load.proofs.Stands.{port_sink, stands}
use Rattle.load.specs.Clauses.{state}
use Rattle.load.specs.Scan.{in_sequence, is_value, kind_at, standing_after, standing_at}
use Rattle.program.specs.Bytes.{byte, commands_in}
use Rattle.program.specs.Command.{sequence_of}
use Rattle.program.specs.Location.{sink_loc}
use Rattle.value.proofs.Tests.{no, same_and, same_and4, same_eq, same_lt, yes}
use Rattle.load.proofs.known.Known.sink.Goals as goal

pub returns-then-right : goal.returns-then-right
unfolding in_sequence sequence_of standing_after is_value standing_at kind_at sink_loc commands_in byte
returns-then-right c = let args = c.args in
    let k = args.self.now in
    let p = k.program.now in
    let s = state args.locations.now in
    let from = c.seen-from.ensures in
    let kind = port_sink p _ c.port-k.ensures k.its_shape in
    let at : c.first_sink.result + args.c.x ≡ sink_loc p k.reactor args.c.x = omega
    (arith, c.first_sink.ensures.is, k.its_sources, k.its_declared, k.its_running) in
    let made = same_and4 (same_eq (ap (λ (v : ℕ). args.c.b + v) c.v.ensures) refl) (same_eq from.standing refl)
    (same_and (same_lt refl k.its_sinks) (same_eq from.kind kind))
    (same_eq (c.byte-free.ensures ∙ ap (λ (l : ℕ). get_or args.locations.now.standing l 0) at) refl) in
    λ here. taking p k.reactor here _ _ args.c _ refl (λ n. right_sink p k.reactor (s n) args.c _ _ made)
    (λ n. yes _ c.if-right.true (stands (s n) (c.stand.ensures n) at refl refl))

pub returns-else-right : goal.returns-else-right
unfolding in_sequence sequence_of standing_after is_value standing_at kind_at sink_loc commands_in byte
returns-else-right c = let args = c.args in
    let k = args.self.now in
    let p = k.program.now in
    let s = state args.locations.now in
    let from = c.seen-from.ensures in
    let kind = port_sink p _ c.port-k.ensures k.its_shape in
    let at : c.first_sink.result + args.c.x ≡ sink_loc p k.reactor args.c.x = omega
    (arith, c.first_sink.ensures.is, k.its_sources, k.its_declared, k.its_running) in
    let made = same_and4 (same_eq (ap (λ (v : ℕ). args.c.b + v) c.v.ensures) refl) (same_eq from.standing refl)
    (same_and (same_lt refl k.its_sinks) (same_eq from.kind kind))
    (same_eq (c.byte-free.ensures ∙ ap (λ (l : ℕ). get_or args.locations.now.standing l 0) at) refl) in
    λ here. taking p k.reactor here _ _ args.c _ refl (λ n. right_sink p k.reactor (s n) args.c _ _ made)
    (λ n. no _ c.if-right.false refl)
