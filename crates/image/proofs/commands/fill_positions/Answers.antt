use Rattle.std.specs.Prelude.{◌<◌, length, refl}
use Rattle.std.proofs.Common.{sym, ◌∙◌, arith}
use Rattle.image.proofs.Positions.{positions_next}
use Rattle.program.proofs.Places.{commands_first, commands_next}
use borrow.Author.Count.{below_none}
use Rattle.image.proofs.commands.fill_positions.Goals as goal

pub loop-r-init : goal.loop-r-init
loop-r-init c = (c.tables_end-at.ensures ∙ sym (commands_first _), omega arith, below_none _)

pub loop-r-preserved : goal.loop-r-preserved
loop-r-preserved c = let l = c.loop-r in
    let h : l.r < length l.places = omega arith in (
      omega (arith, commands_next c.args.program.now l.r),
      omega arith,
      positions_next c.args.program.now l.places _ l.r l.at h l.invariant.0 l.invariant.2 refl,
    )

pub returns : goal.returns
returns c = λ r h. c.loop-r.invariant.2 r (omega arith)
