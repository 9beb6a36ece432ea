-- A ladder of tests as the code asks them, each with its refusal, and by numbers. Assumes nothing.
use Rattle.std.specs.Prelude.{ℕ, ◌≡◌, ◌≢◌, refl, Bool, true, false, Result, Ok, Err}
use Rattle.std.proofs.Common.{sym, ◌∙◌, ap, arith}
use Rattle.value.specs.Test.{◌=?◌, ◌and◌, need, pick}
use Rattle.value.proofs.Tests.{eq!, eq×, no, yes}
use Rattle.answer.specs.declared.Refusal.{Refusal}
use Rattle.answer.specs.declared.Refusal.TheVariants.{Command, Operand, PortOrKind, SetTwice, TooEarly, TooLate}
use Rattle.answer.specs.declared.Refusal.TheVariants.{NotLower, Withdrawn}
use Rattle.load.specs.Clauses.{told}
use Rattle.load.specs.Refusal.{at_command}

-- ---- the refusals of a command

-- w is the refusal of the number n
pub record Numbered (w : Refusal) (n q : ℕ) : Type 0 where
  pub some : n ≢ 0
  pub is : w ≡ at_command n q

module _ (q : ℕ) where
  pub command : Numbered (Command q) 3 q
  unfolding at_command pick ◌=?◌
  command = record { some = λ e. absurd (omega arith); is = refl }

  pub operand : Numbered (Operand q) 4 q
  unfolding at_command pick ◌=?◌
  operand = record { some = λ e. absurd (omega arith); is = refl }

  pub port_or_kind : Numbered (PortOrKind q) 5 q
  unfolding at_command pick ◌=?◌
  port_or_kind = record { some = λ e. absurd (omega arith); is = refl }

  pub set_twice : Numbered (SetTwice q) 6 q
  unfolding at_command pick ◌=?◌
  set_twice = record { some = λ e. absurd (omega arith); is = refl }

  pub too_early : Numbered (TooEarly q) 19 q
  unfolding at_command pick ◌=?◌
  too_early = record { some = λ e. absurd (omega arith); is = refl }

  pub too_late : Numbered (TooLate q) 20 q
  unfolding at_command pick ◌=?◌
  too_late = record { some = λ e. absurd (omega arith); is = refl }

  pub not_lower : Numbered (NotLower q) 21 q
  unfolding at_command pick ◌=?◌
  not_lower = record { some = λ e. absurd (omega arith); is = refl }

  pub withdrawn : Numbered (Withdrawn q) 25 q
  unfolding at_command pick ◌=?◌
  withdrawn = record { some = λ e. absurd (omega arith); is = refl }

-- ---- one test

abbrev Asked : Bool → Refusal → Result (Unit {0}) Refusal
Asked t w = pick t (Ok tt) (Err w)

pub told_fine : (q : ℕ) → Ok tt ≡ told 0 q
unfolding told
told_fine q = yes _ (eq! refl) refl

abbrev because : Refusal → Result (Unit {0}) Refusal
because w = Err w

module _ {w : Refusal} {n q : ℕ} (is : Numbered w n q) where
  told_number : because w ≡ told n q
  unfolding told
  told_number = no _ (eq× is.some) (ap because is.is)

  failed : (s : Bool) (rest : ℕ) {v : Refusal} → because v ≡ Asked s w → because v ≡ told (need s n rest) q
  unfolding pick
  failed true rest e = cc
  failed false rest e = e ∙ told_number

  passed : (s : Bool) (rest : ℕ) {u : Unit {0}} {o : Result (Unit {0}) Refusal} → Ok u ≡ Asked s w →
      o ≡ told rest q → o ≡ told (need s n rest) q
  unfolding pick
  passed true rest e g = g
  passed false rest e g = cc

  last : (s : Bool) {o : Result (Unit {0}) Refusal} → o ≡ Asked s w → o ≡ told (need s n 0) q
  unfolding pick
  last true e = e ∙ told_fine q
  last false e = e ∙ told_number

  -- the code's test is s, the definition's t
  module _ (s t : Bool) (f : s ≡ t) where
    -- it fails
    pub told_no : (rest : ℕ) {v : Refusal} → because v ≡ Asked s w → because v ≡ told (need t n rest) q
    told_no rest e = rw (← f) (failed s rest e)

    -- it passes
    pub told_yes : (rest : ℕ) {u : Unit {0}} {o : Result (Unit {0}) Refusal} → Ok u ≡ Asked s w →
        o ≡ told rest q → o ≡ told (need t n rest) q
    told_yes rest e g = rw (← f) (passed s rest e g)

    -- it is the last
    pub told_last : {o : Result (Unit {0}) Refusal} → o ≡ Asked s w → o ≡ told (need t n 0) q
    told_last e = rw (← f) (last s e)

-- a refusal is told
module _ (n q : ℕ) (h : n ≢ 0) where
  told_some : told n q ≡ because (at_command n q)
  unfolding told
  told_some = sym (no _ (eq× h) refl)

  pub told_never : {u : Unit {0}} → Ok u ≡ told n q → ⊥
  told_never e = let f = e ∙ told_some in cc

  pub told_is : {w : Refusal} → because w ≡ told n q → w ≡ at_command n q
  told_is e = let f = e ∙ told_some in cc

-- two tests of one number
pub need_both : (s t : Bool) (n rest : ℕ) → need (s and t) n rest ≡ need s n (need t n rest)
unfolding pick ◌and◌
need_both true t n rest = refl
need_both false t n rest = refl
