use Rattle.std.proofs.Common.{not}
use Rattle.std.proofs.Common.{ap}
use Rattle.std.specs.Prelude.{refl}
use Rattle.std.proofs.lemmas.Bool.{false≢true}
use Rattle.std.proofs.Common.{◌∙◌, arith}
use Rattle.image.proofs.MadeByBytes.{made_at}
use Rattle.image.proofs.Merging.{placed_later}
use Rattle.image.proofs.Sweeping.{slot_in_row, slots_swept, slots_further, slots_all}
use Rattle.image.specs.Memory.{reactor}
use Rattle.program.specs.Location.{command_loc}
use Rattle.value.proofs.Tests.{passed}
use Rattle.image.proofs.sweep.sweep_slots.Goals as goal

pub loop-j-init : goal.loop-j-init
loop-j-init c = (
  refl,
  c.requires.placed,
  λ t f. slots_all _ _ _ _ _ _ (c.commands_d-j-end.ensures _ _ c.requires.tells) f,
)

pub sweep_slot-requires : goal.sweep_slot-requires
sweep_slot-requires c = record {
  placed = c.loop-j.invariant.1;
  i_bound = omega
      (arith, c.slots_d.ensures.small, c.slots_d.ensures.least);
}

pub returns-then-not-sweep_slot : goal.returns-then-not-sweep_slot
returns-then-not-sweep_slot c = λ e. absurd (false≢true e)

pub loop-j-preserved : goal.loop-j-preserved
loop-j-preserved c = let p = c.args.program.now in
    let m = c.args.memory.now in
    let r = reactor m c.args.o in
    let j = c.loop-j.j in
    let told = c.requires.tells in
    let D = c.commands_d-j-end.ensures p r told in
    let first = c.slots_d.ensures.is p r told in
    let at = c.at.ensures.is p r told in
    let made = c.makes_at-makes.ensures ∙ made_at p r j _ at in
    let one = c.sweep_slot.ensures (command_loc p r j)
    (slot_in_row p m c.args.o j _ _ (omega arith) first refl) (passed refl (ap not c.if-not-sweep_slot.false)) in (
      cc,
      placed_later _ _ _ _ c.loop-j.invariant.1 one.later,
      λ t f. c.loop-j.invariant.2 t (slots_further p m _ _ j _ _ _ t (omega arith) made one f),
    )

pub returns : goal.returns
returns c = λ e. c.loop-j.invariant.2 _ (slots_swept _ _ _ _ _ _ c.loop-j-test.false (omega arith))

pub shape_of-table-then-not-sweep_slot : goal.shape_of-table-then-not-sweep_slot
shape_of-table-then-not-sweep_slot c = cc

pub shape_of-table : goal.shape_of-table
shape_of-table c = cc
