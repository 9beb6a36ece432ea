use Rattle.std.specs.Prelude.{ℕ, ◌+◌, refl, get_or}
use Rattle.std.proofs.Common.{◌∙◌, ap, arith}
use Rattle.load.proofs.TableBytes.{port_low, port_past}
use Rattle.load.specs.Tables.{port_legal}
use Rattle.program.specs.Bytes.{byte}
use Rattle.value.proofs.Sweeps.{sweep_more}
use Rattle.value.proofs.Tests.{same_and, same_le}
use Rattle.value.specs.Test.{◌=?◌, sweep}
use lib.Dec.{leb}
use Rattle.std.specs.Prelude.{◌≡◌}
use Rattle.load.proofs.tables.ports_pass.Goals as goal
use Rattle.load.proofs.tables.ports_pass.Goals.{then-x-n, else-x-n}

pub loop-x-init : goal.loop-x-init
unfolding sweep ◌=?◌
loop-x-init c = refl

pub overflow_add-all : goal.overflow_add-all
overflow_add-all c = omega (arith, c.requires)

pub bounds-program-at : goal.bounds-program-at
bounds-program-at c = omega (arith, c.requires)

pub loop-x-preserved : goal.loop-x-preserved
unfolding byte
loop-x-preserved c = let at_loop = c.loop-x in
    let args = c.args in
    let p = args.program.now in
    let x = at_loop.x in
    let k = get_or p (args.at + x) 0 in
    let legal : leb k c.if-x-n.most ≡ port_legal args.s args.n x k =
    elim c.if-x-n.branch [
      | then-x-n w ↦ ap (leb k) w.most-is ∙ same_le refl refl ∙ port_low args.s args.n x k w.if-x-n.true
      | else-x-n w ↦ ap (leb k) w.most-is ∙ same_le refl refl ∙ port_past args.s args.n x k w.if-x-n.false
    ] in
    same_and at_loop.invariant legal ∙ sweep_more (λ (x : ℕ). port_legal args.s args.n x (byte p (args.at + x))) _

pub returns : goal.returns
returns c = let args = c.args in
    let p = args.program.now in
    c.loop-x.invariant ∙ ap (λ (n : ℕ). sweep (λ (x : ℕ). port_legal args.s args.n x (byte p (args.at + x)))
    0 n =? n) (omega arith)
