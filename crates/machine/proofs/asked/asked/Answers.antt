use Rattle.std.specs.Prelude.{ℕ, ◌*◌, ◌≡◌, refl, Option, None, Some, MatchOption, Err}
use Rattle.std.proofs.Common.{sym, ◌∙◌, ap, arith}
use Rattle.answer.specs.declared.Refusal.TheVariants.{Reading, SinkSpace}
use Rattle.program.specs.Location.{sink_count}
use Rattle.remus.specs.Turn.{asked_of}
use Rattle.value.proofs.Tests.{eq!, eq×, goes, le!, le×, lt!, lt×, stops}
use Rattle.machine.proofs.asked.asked.Goals as goal

-- no reading is the first that is not legal
all_legal : (r : Option ℕ) (P : Type 0) (Q : ℕ → Type 0) → MatchOption r P Q → ((k : ℕ) → r ≡ Some k → ⊥) → P
all_legal None P Q h n = h
all_legal (Some k) P Q h n = absurd (n k refl)

pub returns-then-readings-g : goal.returns-then-readings-g
unfolding asked_of
returns-then-readings-g c = stops _ (eq× (λ e. c.if-readings-g.true (omega (arith, c.globals-g.ensures)))) refl

pub returns-in-Some : goal.returns-in-Some
unfolding asked_of
returns-in-Some c = let bad = c.in-Some.ensures in
    goes _ _ (eq! (omega (arith, c.globals-g.ensures)))
    (stops _ (eq× (λ e. omega (arith, bad))) (ap (λ (k : ℕ). Err (Reading k)) (sym bad.0)))

pub returns-then-space-need : goal.returns-then-space-need
unfolding asked_of
returns-then-space-need c = let at_sinks = c.sink_count in
    let at_main_of = c.main_of in
    let at_globals = c.globals-g in
    let args = c.args in
    let q = ap (sink_count args.program.now) at_main_of.ensures in
    goes _ _ (eq! (omega (arith, at_globals.ensures)))
    (goes _ _ (eq! (all_legal _ _ _ c.bad_reading.ensures c.in_default.not-Some))
    (stops _ (le× (omega (arith, at_sinks.ensures, q)))
    (ap (λ (k : ℕ). Err (SinkSpace (2 * k))) (at_sinks.ensures ∙ q))))

pub returns-then-turns-ge-MOST_TURNS : goal.returns-then-turns-ge-MOST_TURNS
unfolding asked_of
returns-then-turns-ge-MOST_TURNS c = let at_sinks = c.sink_count in
    let at_main_of = c.main_of in
    let at_globals = c.globals-g in
    let args = c.args in
    let q = ap (sink_count args.program.now) at_main_of.ensures in
    goes _ _ (eq! (omega (arith, at_globals.ensures)))
    (goes _ _ (eq! (all_legal _ _ _ c.bad_reading.ensures c.in_default.not-Some))
    (goes _ _ (le! (omega (arith, at_sinks.ensures, q)))
    (stops _ (lt× (omega (arith, c.turns.ensures))) refl)))

pub returns : goal.returns
unfolding asked_of
returns c = let at_sinks = c.sink_count in
    let at_main_of = c.main_of in
    let at_globals = c.globals-g in
    let args = c.args in
    let q = ap (sink_count args.program.now) at_main_of.ensures in
    goes _ _ (eq! (omega (arith, at_globals.ensures)))
    (goes _ _ (eq! (all_legal _ _ _ c.bad_reading.ensures c.in_default.not-Some))
    (goes _ _ (le! (omega (arith, at_sinks.ensures, q)))
    (goes _ _ (lt! (omega (arith, c.turns.ensures))) refl)))
