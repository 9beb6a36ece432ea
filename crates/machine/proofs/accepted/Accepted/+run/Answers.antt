use Rattle.std.specs.Prelude.{◌<◌, refl, Ok}
use Rattle.answer.proofs.Handed.{handed_on}
use Rattle.std.proofs.Common.{◌∙◌, ap, arith}
use Rattle.machine.proofs.BeforeCommand.{begun, stopped_there, all_inside, counted, fits, found, goes}
use Rattle.machine.proofs.BeforeCommand.{going_call, going_fail, going_given, going_move}
use Rattle.machine.proofs.BeforeCommand.{begins_at, here_at, lay_at, nested, not_deep, noted_loc, own}
use Rattle.machine.proofs.BeforeCommand.{short, steady_below, stops, whole}
use Rattle.machine.proofs.Opening.{legal}
use Rattle.machine.proofs.FactLaws.{told}
use Rattle.program.specs.Bytes.{commands_in}
use Rattle.machine.proofs.accepted.Accepted.+run.Goals as goal
use Rattle.machine.proofs.accepted.Accepted.+run.Goals.{in-Given, in-Move, in-Call+in_ok-run-in-Call}

pub enter-requires : goal.enter-requires
enter-requires t c = let at_reactor = c.reactor in
    let pre = c.requires in
    let deep = not_deep _ _ _ _ _ pre.steady in
    let low = legal _ _ _ _ _ _ pre.workable (steady_below _ _ _ _ _ deep pre.steady) in
    record { o_bound = low; tells = told c.args.self.loaded at_reactor.ensures low c.fact-counts.ensures.known; workable = pre.workable }

pub returns-in_err-enter : goal.returns-in_err-enter
returns-in_err-enter t c =
    rw (handed_on _ c.from_residual.ensures.1) (stopped_there _ _ _ _ _ _ _ _ c.requires.steady refl c.in_err-enter.ensures)

pub overflow_cast-first : goal.overflow_cast-first
unfolding commands_in
overflow_cast-first t c = let at_enter = c.enter in
    let at_fact = c.fact-counts in
    let at_reactor = c.reactor in
    let pre = c.requires in
    let b = begun _ _ _ _ _ _ _ _ c.args.self.loaded pre.workable pre.steady refl c.in_ok-enter.ensures in
    let tells = told c.args.self.loaded at_reactor.ensures b.legal at_fact.ensures.known in
    let first = c.first-first.ensures.is _ _ tells in
    let most = c.args.self.loaded.short _ b.legal in
    omega arith

pub lay-requires : goal.lay-requires
unfolding commands_in
lay-requires t c = let at_declared = c.commands_d in
    let at_at = c.at in
    let at_first = c.first-first in
    let at_enter = c.enter in
    let at_fact = c.fact-counts in
    let at_reactor = c.reactor in
    let pre = c.requires in
    let b = begun _ _ _ _ _ _ _ _ c.args.self.loaded pre.workable pre.steady refl c.in_ok-enter.ensures in
    let tells = told c.args.self.loaded at_reactor.ensures b.legal at_fact.ensures.known in
    let first = at_first.ensures.is _ _ tells in
    let at = at_at.ensures.is _ _ tells in
    let declared = at_declared.ensures _ _ tells in
    let most = c.args.self.loaded.short _ b.legal in
    let inside = c.args.self.loaded.inside _ b.legal in
    record { n_in_bounds = omega arith; n_bound = omega arith }

pub loop-j-init : goal.loop-j-init
loop-j-init t c = let at_running = c.commands_r-end in
    let at_declared = c.commands_d in
    let at_at = c.at in
    let at_first = c.first-first in
    let at_enter = c.enter in
    let at_fact = c.fact-counts in
    let at_reactor = c.reactor in
    let pre = c.requires in
    let b = begun _ _ _ _ _ _ _ _ c.args.self.loaded pre.workable pre.steady refl c.in_ok-enter.ensures in
    let tells = told c.args.self.loaded at_reactor.ensures b.legal at_fact.ensures.known in
    let first = at_first.ensures.is _ _ tells in
    let at = at_at.ensures.is _ _ tells in
    let declared = at_declared.ensures _ _ tells in
    let end = at_running.ensures _ _ tells in (
      refl,
      b.deep,
      goes _ _ _ _ _ _ _ _ _ _ _ (rw b.same b.legal) (rw b.same first) (rw b.same (omega arith))
          (rw b.same end)
          c.lay.new.self.whole (rw b.same (c.lay.ensures _ (lay_at _ _ _ _ at declared) first (omega arith)))
          b.left b.wired,
    )

pub overflow_add-first : goal.overflow_add-first
overflow_add-first t c = let at_loop = c.loop-j in
    let pre = c.requires in
    let g = at_loop.invariant.2 in
    let most = short _ _ _ _ _ _ _ _ _ c.args.self.loaded _ _ _ _ g in
    let in_loop : c.loop-j.j < c.commands_r-end.result = omega arith in
    omega arith

pub exec-requires : goal.exec-requires
exec-requires t c = let at_after = c.after-here in
    let at_note = c.note in
    let at_loop = c.loop-j in
    let pre = c.requires in
    let g = at_loop.invariant.2 in
    let inside = all_inside _ _ _ _ _ _ _ _ _ c.args.self.loaded _ _ _ _ g in
    let in_loop : c.loop-j.j < c.commands_r-end.result = omega arith in
    let reach = found _ _ _ _ _ _ _ _ _ c.args.self.loaded _ _ _ _ g in_loop _ at_after.ensures.at in
    record { at_in_bounds = omega arith; reaches = rw at_note.ensures reach; workable = g.left.workable }

pub overflow_add-n : goal.overflow_add-n
overflow_add-n t c = let at_loop = c.loop-j in
    let pre = c.requires in
    let g = at_loop.invariant.2 in
    let most = short _ _ _ _ _ _ _ _ _ c.args.self.loaded _ _ _ _ g in
    let few = counted _ _ _ _ _ _ _ _ _ c.args.self.loaded _ _ _ _ g in
    let in_loop : c.loop-j.j < c.commands_r-end.result = omega arith in
    omega arith

pub run-requires : goal.run-requires
run-requires t c = let at_exec = c.exec in
    let at_after = c.after-here in
    let at_note = c.note in
    let at_loop = c.loop-j in
    let pre = c.requires in
    let g = at_loop.invariant.2 in
    let in_loop : c.loop-j.j < c.commands_r-end.result = omega arith in
    let known = c.args.self.loaded in
    let code = c.in_ok-exec.ensures _ _ g.legal (here_at _ _ _ _ _ _ _ _ _ known _ _ _ _ g)
    (omega arith)
    (fits _ _ _ _ _ _ _ _ _ known _ _ _ _ g in_loop) (own _ _ _ _ _ _ _ _ _ known _ _ _ _ g in_loop _
    at_after.ensures.is)
    (rw at_note.ensures (noted_loc _ _ _ _ _ _ _ _ _ known _ _ _ _ g in_loop)) in
    let low = at_loop.invariant.1 in
    let n = nested _ _ _ _ _ _ _ _ _ known _ _ _ _ g in_loop _ _ at_loop.slots.before code _ (ap Ok c.in-Call.is) in
    (omega arith, (n.1, n.0))

pub lay-requires-in-Call : goal.lay-requires-in-Call
lay-requires-in-Call t c = let at_run = c.run in
    let at_loop = c.loop-j in
    let pre = c.requires in
    let g = at_loop.invariant.2 in
    let inside = all_inside _ _ _ _ _ _ _ _ _ c.args.self.loaded _ _ _ _ g in
    let most = short _ _ _ _ _ _ _ _ _ c.args.self.loaded _ _ _ _ g in
    let in_loop : c.loop-j.j < c.commands_r-end.result = omega arith in
    record { n_in_bounds = omega arith; n_bound = omega arith }

pub returns-in_err-run-in-Call : goal.returns-in_err-run-in-Call
returns-in_err-run-in-Call t c = let at_run = c.run in
    let at_exec = c.exec in
    let at_after = c.after-here in
    let at_note = c.note in
    let at_loop = c.loop-j in
    let at_enter = c.enter in
    let pre = c.requires in
    let g = at_loop.invariant.2 in
    let in_loop : c.loop-j.j < c.commands_r-end.result = omega arith in
    let known = c.args.self.loaded in
    let code = c.in_ok-exec.ensures _ _ g.legal (here_at _ _ _ _ _ _ _ _ _ known _ _ _ _ g)
    (omega arith)
    (fits _ _ _ _ _ _ _ _ _ known _ _ _ _ g in_loop) (own _ _ _ _ _ _ _ _ _ known _ _ _ _ g in_loop _
    at_after.ensures.is)
    (rw at_note.ensures (noted_loc _ _ _ _ _ _ _ _ _ known _ _ _ _ g in_loop)) in
    let b = begun _ _ _ _ _ _ _ _ known pre.workable pre.steady refl c.in_ok-enter.ensures in
    rw (handed_on _ c.from_residual-in_err-run-in-Call.ensures.1)
    (b.ends_stopped _ _ (stops _ _ _ _ _ _ _ _ _ known _ _ _ _ g in_loop _ _ at_loop.slots.before code _ (ap Ok c.in-Call.is)
    _ _ c.in_err-run-in-Call.ensures))

pub returns-in_err-exec : goal.returns-in_err-exec
returns-in_err-exec t c = let at_exec = c.exec in
    let at_after = c.after-here in
    let at_note = c.note in
    let at_loop = c.loop-j in
    let at_enter = c.enter in
    let pre = c.requires in
    let g = at_loop.invariant.2 in
    let in_loop : c.loop-j.j < c.commands_r-end.result = omega arith in
    let known = c.args.self.loaded in
    let code = c.in_err-exec.ensures _ _ g.legal (here_at _ _ _ _ _ _ _ _ _ known _ _ _ _ g)
    (omega arith)
    (fits _ _ _ _ _ _ _ _ _ known _ _ _ _ g in_loop) (own _ _ _ _ _ _ _ _ _ known _ _ _ _ g in_loop _
    at_after.ensures.is)
    (rw at_note.ensures (noted_loc _ _ _ _ _ _ _ _ _ known _ _ _ _ g in_loop)) in
    let b = begun _ _ _ _ _ _ _ _ known pre.workable pre.steady refl c.in_ok-enter.ensures in
    rw (handed_on _ c.from_residual-in_err-exec.ensures.1)
    (b.ends_stopped _ _ (going_fail _ _ _ _ _ _ _ _ _ known _ _ _ _ g in_loop _ _ at_loop.slots.before code _ refl))

pub returns : goal.returns
returns t c = let at_enter = c.enter in
    let pre = c.requires in
    let b = begun _ _ _ _ _ _ _ _ c.args.self.loaded pre.workable pre.steady refl c.in_ok-enter.ensures in
    let g = c.loop-j.invariant.2 in
    let upto = g.upto in
    b.ends_whole _ (whole _ _ _ _ _ _ _ _ _ c.args.self.loaded _ _ _ _ g (omega arith))

pub shape_of-memory-in_err-run-in-Call : goal.shape_of-memory-in_err-run-in-Call
shape_of-memory-in_err-run-in-Call t c = let at_run = c.run in
    let at_exec = c.exec in
    let at_loop = c.loop-j in
    let at_enter = c.enter in
    at_run.auto.memory ∙ at_exec.auto.memory ∙ at_loop.invariant.0 ∙ at_enter.auto.memory

pub shape_of-memory-in_err-exec : goal.shape_of-memory-in_err-exec
shape_of-memory-in_err-exec t c = let at_exec = c.exec in
    let at_loop = c.loop-j in
    let at_enter = c.enter in
    at_exec.auto.memory ∙ at_loop.invariant.0 ∙ at_enter.auto.memory

pub shape_of-memory : goal.shape_of-memory
shape_of-memory t c = let at_enter = c.enter in
    c.loop-j.invariant.0 ∙ at_enter.auto.memory

pub shape_of-memory-in_err-enter : goal.shape_of-memory-in_err-enter
shape_of-memory-in_err-enter t c = cc

-- what is run on after a command: the next one, with one result more, or as many, or after a nested run
pub loop-j-preserved : goal.loop-j-preserved
loop-j-preserved t c = let loop = c.loop-j in
    let g = loop.invariant.2 in
    let in_loop : loop.j < c.commands_r-end.result = omega arith in
    let known = c.args.self.loaded in
    let kept = c.exec.auto.memory ∙ loop.invariant.0 in
    let code = c.in_ok-exec.ensures _ _ g.legal (here_at _ _ _ _ _ _ _ _ _ known _ _ _ _ g)
    (omega arith)
    (fits _ _ _ _ _ _ _ _ _ known _ _ _ _ g in_loop) (own _ _ _ _ _ _ _ _ _ known _ _ _ _ g in_loop _
    c.after-here.ensures.is)
    (rw c.note.ensures (noted_loc _ _ _ _ _ _ _ _ _ known _ _ _ _ g in_loop)) in
    elim c.match-branch-3.branch [
      | in-Given w ↦ rw (w.memory-is, w.slots-is, w.n-is) (
        kept,
        loop.invariant.1,
        going_given _ _ _ _ _ _ _ _ _ known _ _ _ _ g in_loop _ _ _ code c.note.ensures (ap Ok w.in-Given.is),
      )
      | in-Move w ↦ rw (w.memory-is, w.slots-is, w.n-is) (
        kept,
        loop.invariant.1,
        going_move _ _ _ _ _ _ _ _ _ known _ _ _ _ g in_loop _ _ _ code c.note.ensures (ap Ok w.in-Move.is),
      )
      | in-Call+in_ok-run-in-Call w ↦ rw (w.memory-is, w.slots-is, w.n-is) (
        w.run.auto.memory ∙ kept,
        loop.invariant.1,
        going_call _ _ _ _ _ _ _ _ _ known _ _ _ _ g in_loop _ _ loop.slots.before code _ (ap Ok w.in-Call.is) _ _
            w.in_ok-run-in-Call.ensures w.lay-in-Call.new.self.whole
            (w.lay-in-Call.ensures _ (begins_at _ _ _ _ _ _ _ _ _ known _ _ _ _ g) g.is_first
            (let e = g.is_end in omega arith)),
      )
    ]
