use Rattle.std.specs.Prelude.{ℕ, ◌+◌, ◌≤◌, ◌<◌, ◌≡◌, refl, List, get_or, Option, None, Some, Ok, Err}
use Rattle.std.proofs.Common.{sym, ◌∙◌, ap, arith}
use Rattle.value.proofs.Tests.{eq!, eq×, le!, le×, goes, stops}
use Rattle.program.specs.Bytes.{reactors, main_of}
use Rattle.answer.specs.declared.Refusal.TheVariants.{Circular, FigureTooLarge}
use Rattle.image.specs.Memory.{most_words, main_at}
use Rattle.figure.specs.Steps.{reached}
use Rattle.figure.specs.Bound.{bound_of}
use Rattle.figure.specs.Figure.{lowest_circular, words_needed, figured}
use Rattle.figure.specs.Clauses.{capped, Capped, Lowest}
use Rattle.figure.proofs.Capping.{capped_is, capped_least, capped-most}
use Rattle.figure.proofs.calls.figured.Goals as goal

pub returns-in-Some : goal.returns-in-Some
unfolding figured
returns-in-Some c = let found = c.in-Some.ensures in
    stops _ (eq× (λ e. omega (arith, found))) (ap (λ r. Err (Circular r)) (sym found.0))

none_on : (p : List ℕ) (r : Option ℕ) → Lowest p r → ((q : ℕ) → r ≡ Some q → ⊥)
    → lowest_circular p (reached p) ≡ reactors p
none_on p None h n = h
none_on p (Some q) h n = absurd (n q refl)

-- where no reactor is circular: t are the bounds, cut, and m is main
module _ (p t : List ℕ) {m : ℕ} (straight : lowest_circular p (reached p) ≡ reactors p)
    (bounds : Capped t (bound_of p)) (low : m < 256) (main : m ≡ main_of p) where
  bound : get_or t m 0 ≡ capped (bound_of p (main_of p))
  bound = bounds m low ∙ ap (λ r. capped (bound_of p r)) main

  given : main_at + get_or t m 0 ≤ most_words → Ok (main_at + get_or t m 0) ≡ figured p
  unfolding figured words_needed
  given h =
      let e : get_or t m 0 ≡ bound_of p (main_of p) = capped_is bound (omega arith) in
      goes _ _ (eq! straight) (goes _ _ (le! (omega arith)) (ap (λ k. Ok (main_at + k)) e))

  too_large : most_words < main_at + get_or t m 0 → Err FigureTooLarge ≡ figured p
  unfolding figured words_needed
  too_large h = goes _ _ (eq! straight) (stops _ (le× (omega (arith, h, capped_least bound))) refl)

pub returns-then-words-le-MOST_WORDS : goal.returns-then-words-le-MOST_WORDS
returns-then-words-le-MOST_WORDS c = given _ c.bounds-bound.result
    (none_on _ _ c.lowest_circular.ensures c.in_default.not-Some) c.bounds-bound.ensures
    (omega arith) c.main_of.ensures (omega arith)

pub returns-else-words-le-MOST_WORDS : goal.returns-else-words-le-MOST_WORDS
returns-else-words-le-MOST_WORDS c = too_large _ c.bounds-bound.result
    (none_on _ _ c.lowest_circular.ensures c.in_default.not-Some) c.bounds-bound.ensures
    (omega arith) c.main_of.ensures (omega arith)

pub lowest_circular-requires : goal.lowest_circular-requires
lowest_circular-requires c = let start = c.requires in
    let count = c.reactors-n.ensures in
    record { count = count; some = omega (arith, count, start.some); facts = start.facts }

pub bounds-bound-requires : goal.bounds-bound-requires
bounds-bound-requires c = record { count = c.reactors-n.ensures; facts = c.requires.facts }

pub overflow_add-words : goal.overflow_add-words
overflow_add-words c = let m = c.main_of.result in
    let e = c.bounds-bound.ensures m (omega arith) in
    omega (arith, e, capped-most (bound_of c.args.program.now m))
