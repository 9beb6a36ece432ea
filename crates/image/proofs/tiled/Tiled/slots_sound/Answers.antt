use Rattle.std.proofs.Common.{not, sym, ◌∙◌, ap, arith}
use Rattle.image.proofs.Cuts.{by_slot}
use Rattle.image.specs.Passes.{slot_sound}
use Rattle.image.specs.Clauses.{command_sound}
use Rattle.program.specs.Bytes.{commands_d}
use Rattle.value.proofs.Sweeps.{sweep_done, sweep_found, sweep_next}
use Rattle.value.proofs.Tests.{passed, refused, eq!, eq×}
use Rattle.value.specs.Test.{sweep}
use Rattle.image.proofs.tiled.Tiled.slots_sound.Goals as goal

pub loop-j-init : goal.loop-j-init
loop-j-init c = ap (sweep _ _) (omega (arith, c.commands_d-j-end.ensures ∙ ap (commands_d _) c.reactor-r.ensures))

pub returns-then-not-slot_sound : goal.returns-then-not-slot_sound
unfolding command_sound
returns-then-not-slot_sound c = let t = c.args.self.now in
    let n = c.commands_d-j-end.ensures ∙ ap (commands_d _) c.reactor-r.ensures in
    let at = sweep_found _ _ _ c.loop-j-test.true
    (refused
    (c.slot_sound.ensures
    ∙ by_slot (slot_sound t.program.now t.memory.now c.args.table.now c.args.o) _ _ _ _ _ c.d_slot-slot.ensures)
    (ap not c.if-not-slot_sound.true))
    ∙ c.loop-j.invariant in
    sym (eq× (λ e. omega arith))

pub loop-j-preserved : goal.loop-j-preserved
unfolding command_sound
loop-j-preserved c = let t = c.args.self.now in
    sym
    (sweep_next _ _ _ c.loop-j-test.true
    (passed
    (c.slot_sound.ensures
    ∙ by_slot (slot_sound t.program.now t.memory.now c.args.table.now c.args.o) _ _ _ _ _ c.d_slot-slot.ensures)
    (ap not c.if-not-slot_sound.false)))
    ∙ c.loop-j.invariant

pub returns : goal.returns
returns c = let n = c.commands_d-j-end.ensures ∙ ap (commands_d _) c.reactor-r.ensures in
    let at = sweep_done _ _ _ c.loop-j-test.false ∙ c.loop-j.invariant in
    sym (eq! (omega arith))
