use Rattle.std.proofs.Common.{rules}
use Rattle.std.proofs.Common.{not}
use Rattle.std.specs.Prelude.{◌+◌, ◌≡◌, true, false}
use Rattle.std.proofs.Common.{ap, arith}
use Rattle.machine.proofs.Acting.{stored_at}
use Rattle.machine.proofs.Allocating.{has_room, no_room, slot_placed}
use Rattle.machine.specs.Clauses.{ran_as}
use Rattle.remus.specs.Exec.{allocated, exec}
use Rattle.remus.specs.Run.{entered, ran}
use Rattle.value.proofs.Tests.{le?, lt!, lt×, passed, refused}
use Rattle.value.specs.Test.{◌<?◌}
use Rattle.machine.proofs.allocate.alloc_mono.Goals as goal

pub returns-then-h-ge-MOST_DEPTH : goal.returns-then-h-ge-MOST_DEPTH
unfolding exec allocated entered ran_as
returns-then-h-ge-MOST_DEPTH c = let args = c.args in
    let e : (64 <? args.h + 1) ≡ true = lt! (omega arith) in λ p o i f l s at enter rd. rw e

pub returns-then-not-room : goal.returns-then-not-room
unfolding exec allocated entered ran_as
returns-then-not-room c = let at_size = c.size-size in
    let at_fact = c.fact in
    let args = c.args in
    let e : (64 <? args.h + 1) ≡ false = lt× (omega arith) in
    λ p o i f l s at enter rd.
    let size = at_size.ensures.is p _ (at_fact.ensures.known p f l) in
    rw (e, no_room p _ _ _ size (refused c.room.ensures (ap not c.if-not-room.true)))

pub place_new-requires : goal.place_new-requires
place_new-requires c = let at_if2 = c.if-not-room in
    let at_room = c.room in
    record { memory_len_bound = search rules; size_in_bounds = le? (passed at_room.ensures (ap not c.if-not-room.false)) }

pub returns : goal.returns
unfolding exec allocated entered ran_as
returns c = let at_put_pair = c.put_pair in
    let at_place_new = c.place_new in
    let at_used = c.used-u in
    let at_if2 = c.if-not-room in
    let at_room = c.room in
    let at_size = c.size-size in
    let at_fact = c.fact in
    let args = c.args in
    let e : (64 <? args.h + 1) ≡ false = lt× (omega arith) in
    λ p o i f l s at enter rd.
    let size = at_size.ensures.is p _ (at_fact.ensures.known p f l) in
    let new = at_place_new.ensures p size in
    rw (e, has_room p _ _ _ size (passed at_room.ensures (ap not c.if-not-room.false)), ← new, ← at_used.ensures)
    (ap ran (stored_at p _ o _ _ (slot_placed p _ _ _ _ o _ _ s new at) _ at_put_pair.ensures))
