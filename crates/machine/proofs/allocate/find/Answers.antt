use Rattle.machine.proofs.Chains.{find_end, find_hit, find-next, find_out}
use Rattle.std.specs.Prelude.{◌-◌, ◌≡◌}
use Rattle.std.proofs.Common.{sym, ◌∙◌, arith}
use Rattle.program.specs.Bytes.{reactors}
use Rattle.machine.proofs.allocate.find.Goals as goal

pub loop-i-init : goal.loop-i-init
loop-i-init c =
    let e : c.reactors-i-end.result - 0 ≡ reactors c.args.program.now = omega (arith, c.reactors-i-end.ensures) in rw e

pub returns-then-c-eq0 : goal.returns-then-c-eq0
returns-then-c-eq0 c = sym (find_end _ _ _ _ (omega arith) (omega arith) ∙ c.loop-i.invariant)

pub returns-then-reactor-q : goal.returns-then-reactor-q
returns-then-reactor-q c = (
  omega arith,
  sym (find_hit _ _ _ _ (omega arith) (omega arith) (sym c.reactor.ensures ∙ c.if-reactor-q.true) ∙ c.loop-i.invariant),
)

pub loop-i-preserved : goal.loop-i-preserved
loop-i-preserved c =
    rw c.next-c.ensures (find-next _ _ _ _ _ (omega arith) (omega arith)
    (λ e. c.if-reactor-q.false (c.reactor.ensures ∙ e)) ∙ c.loop-i.invariant)

pub returns : goal.returns
returns c = sym (find_out _ _ _ _ (omega arith) ∙ c.loop-i.invariant)
