use Rattle.std.specs.Prelude.{◌+◌, ◌≡◌, refl}
use Rattle.std.proofs.Common.{sym, ◌∙◌, ap, arith}
use Rattle.image.specs.Memory.{reactor}
use Rattle.machine.proofs.CellBytes.{keep_here, keep_not}
use Rattle.machine.proofs.Passing.{keeps_done, keeps_first, keeps_next}
use Rattle.machine.proofs.FactLaws.{bytes_here, slot_after, slot_cell, slot_run}
use Rattle.program.specs.Bytes.{commands_in, commands_d}
use Rattle.program.specs.Command.{bytes_of, cmd_of}
use Rattle.program.specs.Location.{source_count}
use Rattle.program.specs.declared.Command.{Command}
use Rattle.machine.proofs.keeps.keep_each.Goals as goal
use Rattle.machine.proofs.keeps.keep_each.Goals.{then-c-eq-KEEP, else-c-eq-KEEP}

pub loop-j-init : goal.loop-j-init
loop-j-init c = let args = c.args in
    let pre = c.requires in
    let at_slots_r = c.slots_r in
    let at_running = c.commands_r-j-end in
    let p = args.program.now in
    let r = reactor args.memory.now args.o in
    let tells = pre.tells in
    let start = at_slots_r.ensures.is p r tells in
    let first : source_count p r + commands_d p r + 0 ≡ source_count p r + commands_d p r = omega arith in
    (refl, refl, rw first (omega (arith, start)), omega arith, keeps_first p _ _ _ (at_running.ensures p r tells))

pub bytes_within-c-requires : goal.bytes_within-c-requires
unfolding commands_in
bytes_within-c-requires c = let args = c.args in
    let pre = c.requires in
    let at_running = c.commands_r-j-end in
    let at_at = c.at in
    let at_declared = c.commands_d in
    let p = args.program.now in
    let r = reactor args.memory.now args.o in
    let tells = pre.tells in
    let count = at_running.ensures p r tells in
    omega (arith, pre.r_in_bounds, at_at.ensures.is p r tells, at_declared.ensures p r tells, count)

pub fill-requires : goal.fill-requires
fill-requires c = (omega arith, omega arith)

pub loop-j-preserved : goal.loop-j-preserved
unfolding cmd_of commands_in
loop-j-preserved c = let args = c.args in
    let at_loop = c.loop-j in
    let pre = c.requires in
    let p = args.program.now in
    let o = args.o in
    let r = reactor args.memory.now o in
    let j = at_loop.j in
    let tells = pre.tells in
    let count = c.commands_r-j-end.ensures p r tells in
    let same = at_loop.invariant.1 in
    let is = bytes_here p r j _ _ _ (c.at.ensures.is p r tells) (c.commands_d.ensures p r tells)
    c.bytes_within-c.ensures in
    let words = c.result_of.ensures.is (bytes_of p r (commands_d p r + j)) (ap (λ (d : Command). d.code) (sym is)) in
    let after = slot_after p r j _ (omega arith) words in
    elim c.if-c-eq-KEEP.branch [
      | then-c-eq-KEEP w ↦
          let here = slot_run p at_loop.memory o r same _ j at_loop.invariant.2 in
          let cell = slot_cell p at_loop.memory o r same _ _ pre.remembering pre.o_bound (omega arith) is w.if-c-eq-KEEP.true in
          let done = keep_here p at_loop.memory o _ r _ _ is w.if-c-eq-KEEP.true (w.fill.ensures p o _ _ _ here cell) in
          let next = keeps_next p at_loop.memory o _ pre.remembering r j pre.o_bound count same _ _ (omega arith) done
          at_loop.invariant.4 in
          rw w.memory-is
          (w.fill.auto.memory ∙ at_loop.invariant.0, next.0, omega (arith, after, at_loop.invariant.2), omega arith, next.1)
      | else-c-eq-KEEP w ↦
          let done = keep_not p at_loop.memory o _ r _ _ is w.if-c-eq-KEEP.false in
          let next = keeps_next p at_loop.memory o _ pre.remembering r j pre.o_bound count same _ _ (omega arith) done
          at_loop.invariant.4 in
          rw w.memory-is
          (at_loop.invariant.0, next.0, omega (arith, after, at_loop.invariant.2), omega arith, next.1)
    ]

pub shape_of-memory : goal.shape_of-memory
shape_of-memory c = c.loop-j.invariant.0

pub returns : goal.returns
returns c = keeps_done _ _ _ _ _ _ (omega arith) ∙ c.loop-j.invariant.4
