use Rattle.std.specs.Prelude.{refl}
use Rattle.std.specs.Prelude.{◌≡◌}
use Rattle.std.proofs.Common.{rules, sym, ◌∙◌}
use Rattle.value.proofs.Tests.{same_and, same_eq}
use Rattle.machine.specs.Clauses.{previewed}
use Rattle.rig.specs.Face.{preview_bytes}
use Rattle.rig.proofs.Facing.{preview_faced_lem, preview_told}
use Rattle.rig.proofs.Unfit.{level, preview_unfit}
use Rattle.rig.proofs.calls.remus_preview.Goals as goal
use Rattle.rig.proofs.calls.remus_preview.Goals.{then-k-n, else-k-n}

pub call_pairs-a-requires : goal.call_pairs-a-requires
call_pairs-a-requires c =
    let fit = same_and (same_eq refl refl) c.words_legal.ensures in
    let both = level c.args.memory.now c.args.work.now (sym fit ∙ c.if-k-n.true) in
    record { runs = tt; room_enough = both.0; level = both.1 }

pub returns : goal.returns
returns c =
    let fit = same_and (same_eq refl refl) c.words_legal.ensures in
    let a = c.args in
    let after = c.if-k-n in
    let told : previewed after.a after.work after.sinks
    ≡ preview_bytes a.program.now a.memory.now a.work.now a.readings.now a.sinks.now = elim c.if-k-n.branch [
      | then-k-n w ↦ rw (w.a-is, w.work-is, w.sinks-is) (preview_told _ _ _ _ _ _ _ _ (λ i. search rules)
          (level a.memory.now a.work.now (sym fit ∙ w.if-k-n.true)).1 w.call_pairs-a.ensures)
      | else-k-n w ↦ rw (w.a-is, w.work-is, w.sinks-is) (preview_unfit _ _ _ _ _ (λ i. search rules) (λ i. search rules)
          (sym fit ∙ w.if-k-n.false) _ w.unfit-a.ensures)
    ] in
    preview_faced_lem c.pack.ensures _ _ _ _ told c.number.ensures c.place.ensures
