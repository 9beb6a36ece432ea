use Rattle.std.proofs.Common.{rules}
use Rattle.std.proofs.Common.{not}
use Rattle.std.proofs.Common.{ap}
use Rattle.std.specs.Prelude.{◌+◌, ◌≡◌, true, false}
use Rattle.std.proofs.Common.{arith}
use Rattle.machine.proofs.Allocating.{has_room, no_room}
use Rattle.machine.specs.Clauses.{acted}
use Rattle.remus.specs.Exec.{branched, chosen}
use Rattle.value.proofs.Tests.{le?, lt!, lt×, passed, refused}
use Rattle.value.specs.Test.{◌<?◌}
use Rattle.machine.proofs.allocate.make.Goals as goal

pub returns-then-h-ge-MOST_DEPTH : goal.returns-then-h-ge-MOST_DEPTH
unfolding chosen branched acted
returns-then-h-ge-MOST_DEPTH c = let args = c.args in
    let e : (64 <? args.h + 1) ≡ true = lt! (omega arith) in λ p rd o i j k f l s b at. rw e

pub returns-then-not-room : goal.returns-then-not-room
unfolding chosen branched acted
returns-then-not-room c = let at_size = c.size-size in
    let at_fact = c.fact in
    let args = c.args in
    let e : (64 <? args.h + 1) ≡ false = lt× (omega arith) in
    λ p rd o i j k f l s b at.
    let size = at_size.ensures.is p _ (at_fact.ensures.known p f l) in
    rw (e, no_room p _ _ _ size (refused c.room.ensures (ap not c.if-not-room.true)))

pub branch-memory-requires : goal.branch-memory-requires
branch-memory-requires c = let at_room = c.room in
    record { here_in_bounds = search rules; b_le_here = search rules; memory_len_bound = search rules; size_in_bounds = le? (passed at_room.ensures (ap not c.if-not-room.false)) }

pub returns : goal.returns
unfolding chosen
returns c = let at_branch = c.branch-memory in
    let at_if2 = c.if-not-room in
    let at_room = c.room in
    let at_size = c.size-size in
    let at_fact = c.fact in
    let args = c.args in
    let e : (64 <? args.h + 1) ≡ false = lt× (omega arith) in
    λ p rd o i j k f l s b at.
    let size = at_size.ensures.is p _ (at_fact.ensures.known p f l) in
    rw (e, has_room p _ _ _ size (passed at_room.ensures (ap not c.if-not-room.false)))
    (at_branch.ensures p rd _ o i j k size s b at)
