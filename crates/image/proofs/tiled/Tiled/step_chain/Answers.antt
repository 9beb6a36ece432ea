use Rattle.std.specs.Prelude.{◌+◌, ◌-◌, ◌≡◌, refl}
use Rattle.std.proofs.Common.{◌∙◌, arith}
use Rattle.program.specs.Bytes.{reactors}
use Rattle.image.proofs.Chains.{members_end, members_next, members_out}
use Rattle.image.proofs.Lists.{over_done, over_next}
use Rattle.image.proofs.tiled.Tiled.step_chain.Goals as goal

pub loop-init : goal.loop-init
loop-init g c = let e : c.reactors-end.result - 0 ≡ reactors c.args.self.now.program.now = omega arith in rw e refl

pub returns-then-c-lt1 : goal.returns-then-c-lt1
returns-then-c-lt1 g c = over_done _ _ _ (members_end _ _ _ _ (omega arith)) ∙ c.loop.invariant

pub loop-preserved : goal.loop-preserved
loop-preserved g c = let l = c.loop in
    over_next _ _ _ _ _ _
    (members_next _ _ _ _ (c.reactors-end.result - (l.counter + 1)) _ (omega arith) (omega arith) c.next-c.ensures)
    (c.requires.1.1 _ _ _ c.step.ensures)
    ∙ l.invariant

pub returns : goal.returns
returns g c = over_done _ _ _ (members_out _ _ _ _ (omega arith)) ∙ c.loop.invariant
