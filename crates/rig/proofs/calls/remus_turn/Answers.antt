use Rattle.std.specs.Prelude.{◌≡◌}
use Rattle.std.proofs.Common.{rules, sym, ◌∙◌}
use Rattle.machine.specs.Clauses.{turned}
use Rattle.rig.specs.Face.{turn_bytes}
use Rattle.rig.proofs.Facing.{turn_faced_lem, turn_told}
use Rattle.rig.proofs.Unfit.{has_room, turn_unfit}
use Rattle.rig.proofs.calls.remus_turn.Goals as goal
use Rattle.rig.proofs.calls.remus_turn.Goals.{then-words_legal, else-words_legal}

pub call_pairs-a-requires : goal.call_pairs-a-requires
call_pairs-a-requires c = record {
  runs = tt;
  room_enough = has_room (sym c.words_legal.ensures ∙ c.if-words_legal.true);
  level = tt;
}

pub returns : goal.returns
returns c =
    let a = c.args in
    let after = c.if-words_legal in
    let told : turned after.a after.memory after.sinks ≡ turn_bytes a.program.now a.memory.now a.readings.now a.sinks.now = elim c.if-words_legal.branch [
      | then-words_legal w ↦ rw (w.a-is, w.memory-is, w.sinks-is) (w.call_pairs-a.ensures ∙ turn_told _ _ _ _)
      | else-words_legal w ↦ rw (w.a-is, w.memory-is, w.sinks-is) (turn_unfit _ _ (λ i. search rules) _
          (sym c.words_legal.ensures ∙ w.if-words_legal.false) w.unfit-a.ensures _ _ (λ i. search rules))
    ] in
    turn_faced_lem c.pack.ensures _ _ _ _ told c.number.ensures c.place.ensures
