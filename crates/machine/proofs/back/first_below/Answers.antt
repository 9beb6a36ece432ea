use Rattle.std.specs.Prelude.{◌+◌, ◌-◌, ◌≡◌}
use Rattle.std.proofs.Common.{◌∙◌, arith}
use Rattle.program.specs.Bytes.{reactors}
use Rattle.machine.proofs.Chains.{below_here, below_next, below_out}
use Rattle.machine.proofs.back.first_below.Goals as goal

pub loop-i-init : goal.loop-i-init
loop-i-init c =
    let e : c.reactors.result + 1 - 0 ≡ reactors c.args.program.now + 1 = omega (arith, c.reactors.ensures) in rw e

pub returns-then-c-u : goal.returns-then-c-u
returns-then-c-u c = below_here _ _ _ _ (omega arith) (omega arith) ∙ c.loop-i.invariant

pub loop-i-preserved : goal.loop-i-preserved
loop-i-preserved c =
    rw c.next-c.ensures (below_next _ _ _ _ _ (omega arith) c.if-c-u.false ∙ c.loop-i.invariant)

pub returns : goal.returns
returns c = below_out _ _ _ _ (omega arith) ∙ c.loop-i.invariant
