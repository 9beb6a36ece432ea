use Rattle.std.specs.Prelude.{ℕ, ◌+◌, ◌≤◌, refl, not}
use Rattle.std.proofs.Common.{sym, ◌∙◌, ap, arith, rules}
use Rattle.value.proofs.Tests.{goes, stops}
use Rattle.haai.specs.Places.{global_in, sources_in}
use Rattle.haai.specs.Clauses.{place_in}
use Rattle.haai.specs.declared.Meant.TheVariants.{Global}
use Rattle.haai.proofs.Placed.{found_at, found_none, position_le, length_names}
use Rattle.haai.proofs.Tally.source_of.Goals as goal

pub overflow_add-result : goal.overflow_add-result
unfolding sources_in
overflow_add-result c = let w = c.args.w.now in
    let t = c.args.t.now in
    let v = c.args.self in
    let ps = c.args.places.now in
    let names = c.source_places.ensures t in
    let found = found_at (sources_in t ps v) w _ (c.in-Some.ensures ∙ ap (λ ns. place_in ns w) names) in
    let most = position_le (sources_in t ps v) w in
    let long = length_names t ps.sources v.sources 0 in
    let few : c.in-Some.source ≤ 31 = omega (arith, found.1) in
    search rules

pub returns-in-Some : goal.returns-in-Some
unfolding global_in
returns-in-Some c = let w = c.args.w.now in
    let t = c.args.t.now in
    let names = c.source_places.ensures t in
    let found = found_at (sources_in t c.args.places.now c.args.self) w _
    (c.in-Some.ensures ∙ ap (λ ns. place_in ns w) names) in
    stops _ (ap not found.0) (ap (λ (n : ℕ). Global (n + 1)) found.1)

pub returns-in-None : goal.returns-in-None
unfolding global_in
returns-in-None c = let w = c.args.w.now in
    let names = c.source_places.ensures c.args.t.now in
    goes _ _ (ap not (found_none _ w (c.in-None.ensures ∙ ap (λ ns. place_in ns w) names))) refl
