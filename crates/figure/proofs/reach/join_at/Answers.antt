use Rattle.std.proofs.Common.{sym, ◌∙◌, arith}
use lib.ListN.{length-set}
use Rattle.figure.specs.Steps.{found}
use Rattle.figure.proofs.Joining.{none_joined, all_joined, tells, joined, left}
use Rattle.figure.proofs.reach.join_at.Goals as goal
use Rattle.figure.proofs.reach.join_at.Goals.{then-table-r, else-table-r}

pub loop-r-init : goal.loop-r-init
loop-r-init c = (omega arith, λ f t. none_joined _ _ f c.requires.0 c.requires.1 t)

pub loop-r-preserved : goal.loop-r-preserved
unfolding found
loop-r-preserved c = let loop = c.loop-r in
    let low = c.requires in
    elim c.if-table-r.branch [
      | then-table-r g ↦ (
        rw g.table-is (length-set loop.table _ _ ∙ loop.invariant.0),
        λ f t.
            let so = loop.invariant.1 f t in
            rw g.table-is (joined _ _ f low.0 low.1 loop.r (omega arith) so c.args.table.now _ t g.join_row.ensures
            (sym (tells _ _ f low.0 low.1 loop.r (omega arith) so) ∙ g.if-table-r.true)),
      )
      | else-table-r g ↦ (
        rw g.table-is loop.invariant.0,
        λ f t.
            let so = loop.invariant.1 f t in
            rw g.table-is (left _ _ f low.0 low.1 loop.r (omega arith) so
            (sym (tells _ _ f low.0 low.1 loop.r (omega arith) so) ∙ g.if-table-r.false)),
      )
    ]

pub returns : goal.returns
returns c = let low = c.requires in
    record { long = c.loop-r.invariant.0; joined = λ f t. all_joined _ _ f low.0 low.1 (omega arith) (c.loop-r.invariant.1 f t) }
