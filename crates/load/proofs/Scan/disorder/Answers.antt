use Rattle.program.specs.declared.commands.Code.{Code}
use Rattle.program.specs.Clauses.{row_of}
use Rattle.load.proofs.Codes.{by_name}
use Rattle.load.proofs.Told.{not_lower, told_fine, told_last, too_early, too_late}
use Rattle.load.specs.Clauses.{told}
use Rattle.load.specs.Scan.{disorder}
use Rattle.value.proofs.Tests.{same_eq, same_lt}
use Rattle.std.specs.Prelude.{◌≡◌, refl, Ok}
use Rattle.load.proofs.Scan.disorder.Goals as goal

pub returns-in-AllocMono : goal.returns-in-AllocMono
unfolding disorder
returns-in-AllocMono c = let args = c.args in
    rw c.in-AllocMono.is (told_last (not_lower args.at) _ _ (same_lt refl refl) c.unless.ensures)

pub returns-in-Supply : goal.returns-in-Supply
unfolding disorder
returns-in-Supply c = let args = c.args in
    rw c.in-Supply.is (c.supply_disorder.ensures args.program.now args.r)

pub returns-in-React : goal.returns-in-React
unfolding disorder
returns-in-React c = let args = c.args in
    rw c.in-React.is (c.react_disorder.ensures args.r)

pub returns-in-Consume : goal.returns-in-Consume
unfolding disorder
returns-in-Consume c = let args = c.args in
    rw c.in-Consume.is (told_last (too_early args.at) _ _ (same_eq c.standing_at.ensures refl) c.unless-in-Consume.ensures)

pub returns-in-Sink : goal.returns-in-Sink
unfolding disorder
returns-in-Sink c = let args = c.args in
    rw c.in-Sink.is (c.sink_disorder.ensures)

pub returns-in-AllocPoly : goal.returns-in-AllocPoly
unfolding disorder
returns-in-AllocPoly c = let args = c.args in
    rw c.in-AllocPoly.is (told_last (too_late args.at) _ _ (same_eq c.standing_at-in-AllocPoly.ensures refl) c.unless-in-AllocPoly.ensures)

pub returns-in-Keep : goal.returns-in-Keep
unfolding disorder
returns-in-Keep c = let args = c.args in
    rw c.in-Keep.is (told_last (too_late args.at) _ _ (same_eq c.standing_at-in-Keep.ensures refl) c.unless-in-Keep.ensures)

pub returns-in_default : goal.returns-in_default
unfolding disorder
returns-in_default c = let args = c.args in
    by_name (λ (k : Code). Ok tt ≡ told (disorder args.program.now args.r args.self.now (row_of k args.c)) args.at) args.code
    (λ e. absurd (c.in_default.not-AllocMono e)) (λ e. told_fine _) (λ e. told_fine _) (λ e. told_fine _)
    (λ e. absurd (c.in_default.not-Supply e)) (λ e. absurd (c.in_default.not-React e))
    (λ e. absurd (c.in_default.not-Consume e)) (λ e. absurd (c.in_default.not-Sink e))
    (λ e. absurd (c.in_default.not-AllocPoly e)) (λ e. told_fine _) (λ e. told_fine _) (λ e. told_fine _)
    (λ e. absurd (c.in_default.not-Keep e))
