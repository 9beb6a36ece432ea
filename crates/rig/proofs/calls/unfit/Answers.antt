use Rattle.answer.proofs.Handed.{handed_on}
use Rattle.rig.specs.Clauses.{unfit_of}
use Rattle.value.proofs.Tests.{yes, no}
use Rattle.std.specs.Prelude.{refl}
use Rattle.std.proofs.Common.{sym, ◌∙◌}
use Rattle.rig.proofs.calls.unfit.Goals as goal

pub returns-then-words_legal : goal.returns-then-words_legal
unfolding unfit_of
returns-then-words_legal c = rw (← c.in_ok-check.ensures) (yes _ (sym c.words_legal.ensures ∙ c.if-words_legal.true) refl)

pub returns : goal.returns
unfolding unfit_of
returns c = rw (← c.in_ok-check.ensures) (no _ (sym c.words_legal.ensures ∙ c.if-words_legal.false) refl)

pub returns-in_err-check : goal.returns-in_err-check
unfolding unfit_of
returns-in_err-check c = rw (handed_on _ c.from_residual.ensures.1, ← c.in_err-check.ensures)
