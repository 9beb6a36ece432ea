use Rattle.std.specs.Prelude.{◌≡◌}
use Rattle.std.proofs.Common.{rules, sym, ◌∙◌}
use Rattle.image.specs.Clauses.{started}
use Rattle.rig.specs.Face.{start_bytes}
use Rattle.rig.proofs.Facing.{start_faced, start_told}
use Rattle.rig.proofs.Unfit.{has_room, start_unfit}
use Rattle.rig.proofs.calls.remus_start.Goals as goal
use Rattle.rig.proofs.calls.remus_start.Goals.{then-words_legal, else-words_legal}

pub on_bytes-a-requires : goal.on_bytes-a-requires
on_bytes-a-requires c = record {
  room_enough = has_room (sym c.words_legal.ensures ∙ c.if-words_legal.true);
  level = tt;
}

pub returns : goal.returns
returns c =
    let told : started c.if-words_legal.a c.if-words_legal.memory ≡ start_bytes c.args.program.now c.args.memory.now = elim c.if-words_legal.branch [
      | then-words_legal w ↦ rw (w.a-is, w.memory-is) (start_told _ _ _ _ _ _ _ w.on_bytes-a.ensures)
      | else-words_legal w ↦ rw (w.a-is, w.memory-is) (start_unfit _ _ (λ i. search rules) _
          (sym c.words_legal.ensures ∙ w.if-words_legal.false) w.unfit-a.ensures)
    ] in
    let faced = start_faced c.pack.ensures _ _ _ told c.number.ensures c.place.ensures in
    record { answer = faced.0; memory = faced.1 }
