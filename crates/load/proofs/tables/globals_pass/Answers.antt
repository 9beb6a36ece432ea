use Rattle.std.specs.Prelude.{ℕ, ◌+◌, refl}
use Rattle.std.proofs.Common.{◌∙◌, ap, arith}
use Rattle.load.proofs.Exact.Bytes.{globals_end}
use Rattle.program.specs.Bytes.{byte}
use Rattle.value.proofs.Sweeps.{sweep_more}
use Rattle.value.proofs.Tests.{same_and, same_lt}
use Rattle.value.specs.Test.{◌<?◌, ◌=?◌, sweep}
use Rattle.load.proofs.tables.globals_pass.Goals as goal

pub loop-i-init : goal.loop-i-init
unfolding sweep ◌=?◌
loop-i-init c = refl

pub bounds-program-i : goal.bounds-program-i
bounds-program-i c = let at_globals = c.globals-n in
    let pre = c.requires in
    let args = c.args in
    omega (arith, pre, at_globals.ensures, globals_end (args.program.now))

pub loop-i-preserved : goal.loop-i-preserved
unfolding byte
loop-i-preserved c = let at_loop = c.loop-i in
    let args = c.args in
    let p = args.program.now in
    same_and at_loop.invariant (same_lt refl refl) ∙ sweep_more (λ (i : ℕ). byte p (8 + i) <? 2) _

pub returns : goal.returns
returns c = let at_globals = c.globals-n in
    let args = c.args in
    let p = args.program.now in
    c.loop-i.invariant ∙ ap (λ (n : ℕ). sweep (λ (i : ℕ). byte p (8 + i) <? 2) 0 n =? n)
    (omega (arith, at_globals.ensures))
