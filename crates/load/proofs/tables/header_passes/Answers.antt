use Rattle.std.specs.Prelude.{ℕ, refl}
use Rattle.load.specs.Tables.{header_legal}
use Rattle.value.proofs.Sweeps.{sweep_more}
use Rattle.value.proofs.Tests.{same_and}
use Rattle.value.specs.Test.{◌=?◌, sweep}
use Rattle.std.proofs.Common.{◌∙◌, ap, arith}
use Rattle.load.proofs.tables.header_passes.Goals as goal

pub loop-i-init : goal.loop-i-init
unfolding sweep ◌=?◌
loop-i-init c = refl

pub loop-i-preserved : goal.loop-i-preserved
loop-i-preserved c = same_and c.loop-i.invariant c.header_legal-all.ensures ∙ sweep_more (header_legal c.args.program.now) _

pub returns : goal.returns
returns c = c.loop-i.invariant ∙ ap (λ (n : ℕ). sweep (header_legal c.args.program.now) 0 n =? n) (omega arith)
