use Rattle.std.specs.Prelude.{◌-◌, ◌≡◌, refl}
use Rattle.std.proofs.Common.{◌∙◌, arith}
use Rattle.image.specs.Memory.{reactor}
use Rattle.machine.proofs.Passing.{slots_done, slots_next}
use Rattle.machine.proofs.FactLaws.{code_at, slot_row}
use Rattle.program.specs.Bytes.{commands_d}
use Rattle.program.specs.Command.{bytes_of, cmd_of}
use Rattle.program.specs.Location.{command_loc}
use Rattle.machine.proofs.accepted.Accepted.slots_back.Goals as goal

pub loop-j-init : goal.loop-j-init
loop-j-init c = let pre = c.requires in
    let at_declared = c.commands_d-j-end in
    let args = c.args in
    let known = c.counts_at-counts.ensures.known _ c.args.self.loaded.facts pre.o_bound in
    let e : at_declared.result - 0 ≡ commands_d args.self.program.now (reactor args.memory.now args.o) = omega
    (arith, at_declared.ensures _ _ known) in
    (refl, refl, rw e)

pub loop-j-preserved : goal.loop-j-preserved
unfolding cmd_of
loop-j-preserved c = let pre = c.requires in
    let at_declared = c.commands_d-j-end in
    let at_loop = c.loop-j in
    let args = c.args in
    let at_slots_d = c.slots_d in
    let at_at = c.at-at in
    let at_byte = c.byte-code in
    let at_slot_back = c.slot_back in
    let at_loop_test = c.loop-j-test in
    let known = c.counts_at-counts.ensures.known _ c.args.self.loaded.facts pre.o_bound in
    let n = at_declared.ensures _ _ known in
    let same = at_loop.invariant.1 in
    let r = reactor args.memory.now args.o in
    let p = args.self.program.now in
    let j = at_loop.j in
    let here = slot_row p at_loop.memory args.o r j _ same (omega arith) (at_slots_d.ensures.is _ _ known) in
    let code = code_at p r j _ _ (at_at.ensures.is _ _ known) at_byte.ensures in
    let done = at_slot_back.ensures args.o (command_loc p (reactor at_loop.memory args.o) j)
    (bytes_of p (reactor at_loop.memory args.o) j) (rw same code) here in
    let next = slots_next p args.u _ j at_loop.memory args.o _ _ _ at_loop_test.true n same done
    at_loop.invariant.2 in
    (at_slot_back.auto.memory ∙ at_loop.invariant.0, next.0, next.1)

pub shape_of-memory : goal.shape_of-memory
shape_of-memory c = c.loop-j.invariant.0

pub returns : goal.returns
returns c = slots_done _ _ _ _ _ _ c.loop-j-test.false ∙ c.loop-j.invariant.2
