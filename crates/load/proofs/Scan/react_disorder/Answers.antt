use Rattle.std.proofs.lemmas.Result.{err_from_is_err_and}
use Rattle.load.proofs.Told.{told_last, told_no, told_yes, too_early, too_late}
use Rattle.load.specs.Scan.{disorder, ready_at, standing_at}
use Rattle.std.specs.Prelude.{ℕ, refl}
use Rattle.std.proofs.Common.{◌∙◌, ap}
use Rattle.program.specs.Bytes.{sources_in}
use Rattle.value.proofs.Tests.{same_le}
use Rattle.value.specs.Test.{◌=?◌}
use Rattle.load.proofs.Scan.react_disorder.Goals as goal

pub returns-in_err-unless : goal.returns-in_err-unless
unfolding disorder
returns-in_err-unless c = λ r. let p = err_from_is_err_and c.from_residual.result c.from_residual.ensures.1 in rw (p.1, p.2)
    (told_no (too_late c.args.at) _ _ (same_le refl c.standing_at-standing.ensures) _
    c.in_err-unless.ensures)

pub returns : goal.returns
unfolding disorder
returns c = let args = c.args in
    let standing = c.standing_at-standing.ensures in
    let count = c.sources_in-n.ensures ∙ ap (sources_in _) c.kind_at.ensures in
    λ r. told_yes (too_late args.at) _ _ (same_le refl standing) _ c.in_ok-unless.ensures
    (told_last (too_early args.at) _ _
    (c.is_ready.ensures
    ∙ ap (λ (t : ℕ). t =? ready_at c.sources_in-n.result) standing
    ∙ ap (λ (n : ℕ). standing_at args.self.now args.c.b =? ready_at n) count) c.unless-2.ensures)
