use Rattle.std.proofs.Common.{◌∙◌, ap}
use Rattle.image.proofs.Chains.{children_done, children_next}
use Rattle.image.proofs.Cuts.{by_slot, children_first}
use Rattle.image.specs.Passes.{named_by, over}
use Rattle.image.specs.Clauses.{named_at}
use Rattle.program.specs.Bytes.{commands_d}
use Rattle.image.proofs.tiled.Tiled.step_children.Goals as goal

pub loop-j-init : goal.loop-j-init
loop-j-init g c = children_first _ _ _ _ _ _ (c.commands_d-j-end.ensures ∙ ap (commands_d _) c.reactor-r.ensures)

pub loop-j-preserved : goal.loop-j-preserved
unfolding named_at
loop-j-preserved g c = let t = c.args.self.now in
    children_next _ _ _ _ _ _ _ _ c.loop-j-test.true
    (c.step_slot.ensures
    ∙ ap (over g.does c.loop-j.table) (by_slot (named_by t.program.now t.memory.now c.args.o) _ _ _ _ _ c.d_slot-slot.ensures))
    ∙ c.loop-j.invariant

pub returns : goal.returns
returns g c = children_done _ _ _ _ _ _ _ c.loop-j-test.false ∙ c.loop-j.invariant
