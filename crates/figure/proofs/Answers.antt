-- What figure answers, and when: 23, 24, the figure, or the refusal of the check; and the bounds that it goes by.
use Rattle.std.specs.Prelude.{ℕ, ◌+◌, ◌≤◌, ◌<◌, ◌≡◌, refl, ◌↔◌, List, Ok, Err}
use Rattle.std.proofs.Common.{sym, ◌∙◌, ap, subst, inl, inr, arith}
use Rattle.value.proofs.Tests.{says_le, says_guard}
use Rattle.program.specs.Bytes.{main_of}
use Rattle.answer.specs.Answer.{number_of, place_of}
use Rattle.answer.specs.Answer.{Answer}
use Rattle.answer.specs.declared.Refusal.TheVariants.{Circular, FigureTooLarge}
use Rattle.answer.proofs.Refusals.{refusal_counts}
use Rattle.load.specs.Check.{check_of, IsAccepted}
use Rattle.load.specs.Fault.{CheckNumber, Lowest}
use Rattle.load.proofs.Exact.{exact}
use Rattle.load.proofs.Exact.Faults.{check_numbers}
use Rattle.image.specs.Memory.{most_words, main_at}
use Rattle.figure.specs.Steps.{OnCircle, Straight}
use Rattle.figure.specs.Bound.{bound_of}
use Rattle.figure.specs.Figure.{words_needed, figured, figured_by, figure_of}
use Rattle.figure.specs.Claim.{CircularFault, TooLargeFault, FigureGiven, ProgramFault, BoundEquation}
use Rattle.figure.specs.Claim.{BoundUnique}
use Rattle.figure.proofs.Bounds.{bound_equation, bound_unique}
use Rattle.figure.proofs.Circles.{low, main, straight_says, lowest_found, lowest_is}

pub bounds_exact : BoundEquation
bounds_exact p a = let rules = (exact p).0 a in bound_equation p (low p rules) (main p rules)

pub bounds_only : BoundUnique
bounds_only p a = let rules = (exact p).0 a in bound_unique p (low p rules) (main p rules)

pub program_fault : ProgramFault
unfolding figure_of figured_by
program_fault p w e = ap (figured_by p) e

abbrev words : List ℕ → ℕ
words p = main_at + bound_of p (main_of p)

module _ (p : List ℕ) (a : Answer) where
  -- how an accepted program comes to the answer a
  data Outcome : Type 0 where
    on_circle : {r : ℕ} → Lowest (OnCircle p) r → Err (Circular r) ≡ a → Outcome
    too_large : Straight p → most_words < words p → Err FigureTooLarge ≡ a → Outcome
    given : Straight p → words p ≤ most_words → Ok (words p) ≡ a → Outcome

  outcome : IsAccepted p → (figured p ≡ a) ↔ Outcome
  unfolding figured words_needed
  outcome accepted =
      let rules = (exact p).0 accepted in
      let Is : Answer → Type 0 = λ b. b ≡ a in
      let first = says_guard Is (straight_says p rules) _ _ in
      let second = says_guard Is says_le _ _ in (
        (λ e.
            elim (first.0 e) [
              | inl x ↦ on_circle (lowest_found p rules x.0) x.1
              | inr x ↦ elim (second.0 x.1) [
                | inl y ↦ too_large x.0 (omega (arith, y.0)) y.1
                | inr y ↦ given x.0 y.0 y.1
              ]
            ]),
        (λ o.
            elim o [
              | on_circle {r} l e ↦
                  first.1 (inl (λ s. s r l.0, ap (λ q. Err (Circular q)) (lowest_is p rules r l) ∙ e))
              | too_large s l e ↦ first.1 (inr (s, second.1 (inl (λ h. omega arith, e))))
              | given s l e ↦ first.1 (inr (s, second.1 (inr (l, e))))
            ]),
      )

  -- an answer whose number is no refusal's of the check
  module _ (own : CheckNumber (number_of a) → number_of a ≡ 0) where
    by_check_lem : (c : Answer) → check_of p ≡ c → (figured_by p c ≡ a) ↔ (IsAccepted p × Outcome)
    unfolding figured_by
    by_check_lem (Ok size) e =
        let accepted : IsAccepted p = ap number_of e in
        ((λ f. (accepted, (outcome accepted).0 f)), λ h. (outcome accepted).1 h.1)
    by_check_lem (Err w) e = (
      (λ f.
          let none = own (subst CheckNumber (ap number_of (e ∙ f)) (check_numbers p)) in
          absurd (omega (arith, refusal_counts w, ap number_of f))),
      λ h. absurd (omega (arith, refusal_counts w, ap number_of e, h.0)),
    )

    answered : (figure_of p ≡ a) ↔ (IsAccepted p × Outcome)
    unfolding figure_of
    answered = by_check_lem (check_of p) refl

-- 23 and 24 are none of the check's numbers
beyond : {n : ℕ} → 22 ≤ n → n ≤ 24 → CheckNumber n → n ≡ 0
beyond l m (inl h) = absurd (omega arith)
beyond l m (inr (inl h)) = absurd (omega (arith, h.1))
beyond l m (inr (inr h)) = absurd (omega arith)

pub circular_fault : CircularFault
circular_fault p r =
    let is = answered p (Err (Circular r)) (beyond (omega arith) (omega arith)) in
    ((λ e. let h = is.0 e in (h.0, by h.1)), λ h. is.1 (h.0, on_circle h.1 refl))
  where
    by : Outcome p (Err (Circular r)) → Lowest (OnCircle p) r
    by (on_circle l e) = subst (Lowest (OnCircle p)) (ap place_of e) l
    by (too_large s l e) = absurd (omega (arith, ap number_of e))
    by (given s l e) = absurd (omega (arith, ap number_of e))

pub too_large_fault : TooLargeFault
too_large_fault p =
    let is = answered p (Err FigureTooLarge) (beyond (omega arith) (omega arith)) in
    ((λ e. let h = is.0 e in by h.0 h.1), λ h. is.1 (h.0, too_large h.1 h.2 refl))
  where
    by : IsAccepted p → Outcome p (Err FigureTooLarge) → IsAccepted p × Straight p × (most_words < words p)
    by a (on_circle l e) = absurd (omega (arith, ap number_of e))
    by a (too_large s l e) = (a, s, l)
    by a (given s l e) = absurd (omega (arith, ap number_of e))

pub figure_given : FigureGiven
figure_given p n =
    let is = answered p (Ok n) (λ c. refl) in (
      (λ e. let h = is.0 e in by h.0 h.1),
      λ h. is.1 (h.0, given h.1 (omega (arith, h.2, h.3)) (ap Ok (sym h.2))),
    )
  where
    by : IsAccepted p → Outcome p (Ok n) → IsAccepted p × Straight p × (n ≡ words p) × (n ≤ most_words)
    by a (on_circle l e) = absurd (omega (arith, ap number_of e))
    by a (too_large s l e) = absurd (omega (arith, ap number_of e))
    by a (given s l e) = let z = ap place_of e in (a, s, sym z, omega arith)
