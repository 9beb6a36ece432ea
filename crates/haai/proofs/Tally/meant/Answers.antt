use Rattle.std.specs.Prelude.{ℕ, not}
use Rattle.std.proofs.Common.{◌∙◌, ap}
use Rattle.value.proofs.Tests.{goes, stops}
use Rattle.haai.specs.Places.{meant_in, parameters_in}
use Rattle.haai.specs.Clauses.{place_in}
use Rattle.haai.specs.declared.Meant.TheVariants.{Parameter}
use Rattle.haai.proofs.Placed.{found_at, found_none}
use Rattle.haai.proofs.Tally.meant.Goals as goal

pub returns-in-Some : goal.returns-in-Some
unfolding meant_in
returns-in-Some c = let w = c.args.w.now in
    let names = c.parameter_places.ensures c.args.t.now in
    let found = found_at _ w _ (c.in-Some.ensures ∙ ap (λ ns. place_in ns w) names) in
    stops _ (ap not found.0) (ap (λ (n : ℕ). Parameter n) found.1)

pub returns-in-None : goal.returns-in-None
unfolding meant_in
returns-in-None c = let w = c.args.w.now in
    let names = c.parameter_places.ensures c.args.t.now in
    goes _ _ (ap not (found_none _ w (c.in-None.ensures ∙ ap (λ ns. place_in ns w) names))) c.source_of.ensures
