use Rattle.std.proofs.Common.{◌∙◌}
use Rattle.image.proofs.Cuts.{own_fault, named_fault, depth_judged}
use Rattle.image.proofs.Lists.{handed_on}
use Rattle.image.proofs.soundness.grown.Goals as goal

pub returns-in_err-run_pass : goal.returns-in_err-run_pass
returns-in_err-run_pass c = handed_on _ c.from_residual.ensures.1 ∙ own_fault _ _ _ _ c.in_err-run_pass.ensures

pub returns-in_err-run_pass-2 : goal.returns-in_err-run_pass-2
returns-in_err-run_pass-2 c = handed_on _ c.from_residual-in_err-run_pass-2.ensures.1
    ∙ named_fault _ _ _ c.in_ok-run_pass.ensures _ c.in_err-run_pass-2.ensures

pub returns : goal.returns
returns c = c.or.ensures
    ∙ depth_judged _ _ _ c.in_ok-run_pass.ensures c.in_ok-run_pass-2.ensures _ c.run_pass-3.ensures
