use Rattle.std.proofs.lemmas.Result.{err_from_is_err_and}
use Rattle.load.proofs.Told.{set_twice, told_last, told_no, told_yes, too_late}
use Rattle.load.specs.Scan.{disorder}
use Rattle.std.specs.Prelude.{refl, not}
use Rattle.std.proofs.Common.{ap}
use Rattle.value.proofs.Tests.{same_le}
use Rattle.load.proofs.Scan.supply_disorder.Goals as goal

pub returns-in_err-unless : goal.returns-in_err-unless
unfolding disorder
returns-in_err-unless c = λ q r. let p = err_from_is_err_and c.from_residual.result c.from_residual.ensures.1 in rw (p.1, p.2)
    (told_no (too_late c.args.at) _ _ (same_le refl c.standing_at.ensures) _
    c.in_err-unless.ensures)

pub returns : goal.returns
unfolding disorder
returns c = λ p r. told_yes (too_late c.args.at) _ _ (same_le refl c.standing_at.ensures) _ c.in_ok-unless.ensures
    (told_last (set_twice c.args.at) _ _ (ap not c.is_supplied.ensures) c.unless-2.ensures)
