use Rattle.std.specs.Prelude.{ℕ, ◌≡◌, refl, not, None, length}
use Rattle.std.proofs.Common.{sym, ◌∙◌, ap, rules}
use Rattle.value.proofs.Tests.{goes, stops}
use Rattle.std.specs.Option.{unwrap_or}
use Rattle.haai.specs.Places.{operator_in, reactors_in}
use Rattle.haai.specs.Clauses.{place_in}
use Rattle.haai.specs.declared.Operator.TheVariants.{Sign, Reactor}
use Rattle.haai.proofs.Placed.{found_or, length_names}
use Rattle.haai.proofs.Words.{sign_found, sign_none}
use Rattle.haai.proofs.Tally.operator_of.Goals as goal

pub returns-in-Some : goal.returns-in-Some
unfolding operator_in
returns-in-Some c = let w = c.args.w.now in
    let f = sign_found w _ c.in-Some.ensures in stops _ (ap not f.0) (ap (λ s. Sign s) f.1)

pub returns : goal.returns
unfolding operator_in reactors_in
returns c = let w = c.args.w.now in
    let t = c.args.t.now in
    let v = c.args.self in
    let ps = c.args.places.now in
    let none : c.sign_of.result ≡ None = search rules in
    let names = c.reactor_places.ensures t in
    let found = found_or (reactors_in t ps v) w v.reactors (sym (length_names t ps.reactors v.reactors 0)) in
    goes _ _ (ap not (sign_none w (sym none ∙ c.sign_of.ensures)))
    (ap (λ (n : ℕ). Reactor n)
    (c.unwrap_or.ensures ∙ ap (λ o. unwrap_or o v.reactors) (c.position-reactor.ensures ∙ ap (λ ns. place_in ns w) names)
    ∙ found))
