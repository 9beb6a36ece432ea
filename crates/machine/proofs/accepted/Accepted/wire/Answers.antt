use Rattle.std.specs.Prelude.{◌<◌, refl}
use Rattle.answer.proofs.Handed.{handed_on}
use Rattle.std.proofs.Common.{arith}
use Rattle.machine.proofs.Declaring.{bytes_there, declared_off, declared_on}
use Rattle.machine.proofs.Opening.{from_first, left_at}
use Rattle.program.specs.Bytes.{commands_in}
use Rattle.machine.proofs.accepted.Accepted.wire.Goals as goal

pub loop-j-init : goal.loop-j-init
loop-j-init c = let pre = c.requires in
    (refl, omega arith, λ rd f s z. left_at _ _ _ _ _ (omega arith) refl (from_first _ _ _ _ _ _ pre.workable s z))

pub bytes_within-c-requires : goal.bytes_within-c-requires
unfolding commands_in
bytes_within-c-requires c = let pre = c.requires in
    let inside = c.args.self.loaded.inside _ pre.o_bound in
    let at = c.at-at.ensures.is _ _ pre.tells in
    let n = c.commands_d-n.ensures _ _ pre.tells in
    omega arith

pub declare-requires : goal.declare-requires
declare-requires c = let pre = c.requires in
    let small = c.slots_d.ensures.small in
    let few = pre.workable.few in
    record { here_bound = omega arith; memory_len_bound = rw c.loop-j.invariant.0 few }

pub loop-j-preserved : goal.loop-j-preserved
loop-j-preserved c = let pre = c.requires in
    let counts = pre.tells in
    let n = c.commands_d-n.ensures _ _ counts in
    let first = c.slots_d.ensures.is _ _ counts in
    let bytes = bytes_there _ _ _ _ _ c.bytes_within-c.ensures (c.at-at.ensures.is _ _ counts) in
    let low : c.loop-j.j < c.commands_d-n.result = omega arith in (
      cc,
      omega arith,
      λ rd f s z. declared_on _ _ _ _ _ _ _ _ _ _ _ _ (omega arith) (omega arith)
          (c.in_ok-declare.ensures _ _ _ _ c.args.self.loaded.facts bytes (omega arith)) (c.loop-j.invariant.2 rd f s z) refl,
    )

pub returns-in_err-declare : goal.returns-in_err-declare
returns-in_err-declare c = let pre = c.requires in
    let counts = pre.tells in
    let n = c.commands_d-n.ensures _ _ counts in
    let first = c.slots_d.ensures.is _ _ counts in
    let bytes = bytes_there _ _ _ _ _ c.bytes_within-c.ensures (c.at-at.ensures.is _ _ counts) in
    let low : c.loop-j.j < c.commands_d-n.result = omega arith in
    rw (handed_on _ c.from_residual.ensures.1)
    (λ rd f s z. declared_off _ _ _ _ _ _ _ _ _ _ _ _ (omega arith) (omega arith)
    (c.in_err-declare.ensures _ _ _ _ c.args.self.loaded.facts bytes (omega arith)) (c.loop-j.invariant.2 rd f s z)
    _ refl)

pub returns : goal.returns
unfolding commands_in
returns c = let at_loop = c.loop-j in
    let pre = c.requires in
    let n = c.commands_d-n.ensures _ _ pre.tells in
    let upto = at_loop.invariant.1 in
    λ rd f s z. left_at _ _ _ _ _ (omega arith) (omega arith) (at_loop.invariant.2 rd f s z)

pub shape_of-memory-in_err-declare : goal.shape_of-memory-in_err-declare
shape_of-memory-in_err-declare c = cc

pub shape_of-memory : goal.shape_of-memory
shape_of-memory c = cc
