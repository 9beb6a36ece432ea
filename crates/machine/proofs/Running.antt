-- How a run goes on, by what the present command comes to.
-- Assumes nothing.
use Rattle.std.specs.Prelude.{ℕ, suc, ◌+◌, ◌≡◌, refl, ◌≢◌, Bool, true, false, List, Ok, Err}
use Rattle.std.proofs.Common.{sym, ◌∙◌, ap, arith}
use lib.Seq.{get_or-set_other}
use Rattle.value.specs.Test.{pick}
use Rattle.value.proofs.Tests.{yes, no, eq!, eq×}
use Rattle.program.specs.Bytes.{commands_d}
use Rattle.program.specs.Command.{Cmd, cmd_of, takes_words}
use Rattle.answer.specs.declared.Refusal.{Refusal}
use Rattle.image.specs.Memory.{word, reactor, with_wired}
use Rattle.remus.specs.Exec.{Eff, move, call, fail, exec, ready, eff}
use Rattle.remus.specs.Run.{Ran, ran, stopped, and_then, entered, commands, step_of, run_of}
use Rattle.remus.specs.Steady.{Through}
use Rattle.machine.specs.declared.Outcome.TheVariants.{Given, Move, Call}
use Rattle.machine.specs.Clauses.{did, acted, ran_as, stepping, Knowing, Left}
use Rattle.machine.proofs.WordsFit.{workable_after}

-- ---- a command's effect, by its outcome

module _ (m m₁ : List ℕ) where
  given_by : (t : Bool) (m' : List ℕ) → did (Ok Given) m₁ ≡ did (Ok (pick t Given Move)) m' → (t ≡ true) × (m' ≡ m₁)
  unfolding pick
  given_by true m' h = (refl, cc)
  given_by false m' h = let z : ◌≡◌ {A = ℕ} 0 1 = cc in absurd (omega arith)

  moved_by : (t : Bool) (m' : List ℕ) → did (Ok Move) m₁ ≡ did (Ok (pick t Given Move)) m' → (t ≡ false) × (m' ≡ m₁)
  unfolding pick
  moved_by true m' h = let z : ◌≡◌ {A = ℕ} 0 1 = cc in absurd (omega arith)
  moved_by false m' h = (refl, cc)

  not_called : (t : Bool) (d : ℕ) (m' : List ℕ) → did (Ok (Call d)) m₁ ≡ did (Ok (pick t Given Move)) m' → ⊥
  unfolding pick
  not_called true d m' h = let z : ◌≡◌ {A = ℕ} 0 1 = cc in absurd (omega arith)
  not_called false d m' h = let z : ◌≡◌ {A = ℕ} 0 1 = cc in absurd (omega arith)

  not_failed : (t : Bool) (v : Refusal) (m' : List ℕ) → did (Err v) m₁ ≡ did (Ok (pick t Given Move)) m' → ⊥
  unfolding pick
  not_failed true v m' h = let z : ◌≡◌ {A = ℕ} 0 1 = cc in absurd (omega arith)
  not_failed false v m' h = let z : ◌≡◌ {A = ℕ} 0 1 = cc in absurd (omega arith)

  module _ (c : Cmd) where
    pub gave : (e : Eff) → did (Ok Given) m₁ ≡ acted m c e → (takes_words c ≡ true) × (e ≡ move m₁)
    unfolding acted
    gave (move m') h = let g = given_by (takes_words c) m' h in (g.0, ap move g.1)
    gave (call m' d) h = let z : ◌≡◌ {A = ℕ} 0 1 = cc in absurd (omega arith)
    gave (fail v) h = let z : ◌≡◌ {A = ℕ} 0 1 = cc in absurd (omega arith)

    pub moved : (e : Eff) → did (Ok Move) m₁ ≡ acted m c e → (takes_words c ≡ false) × (e ≡ move m₁)
    unfolding acted
    moved (move m') h = let g = moved_by (takes_words c) m' h in (g.0, ap move g.1)
    moved (call m' d) h = let z : ◌≡◌ {A = ℕ} 0 1 = cc in absurd (omega arith)
    moved (fail v) h = let z : ◌≡◌ {A = ℕ} 0 1 = cc in absurd (omega arith)

    pub called : (d : ℕ) (e : Eff) → did (Ok (Call d)) m₁ ≡ acted m c e → e ≡ call m₁ d
    unfolding acted
    called d (move m') h = absurd (not_called (takes_words c) d m' h)
    called d (call m' d') h = cc
    called d (fail v) h = let z : ◌≡◌ {A = ℕ} 0 1 = cc in absurd (omega arith)

    pub failed : (v : Refusal) (e : Eff) → did (Err v) m₁ ≡ acted m c e → (e ≡ fail v) × (m ≡ m₁)
    unfolding acted
    failed v (move m') h = absurd (not_failed (takes_words c) v m' h)
    failed v (call m' d) h = let z : ◌≡◌ {A = ℕ} 0 1 = cc in absurd (omega arith)
    failed v (fail v') h = (cc, cc)

-- ---- wiring

pub wired_reactor : (m : List ℕ) (o : ℕ) → reactor (with_wired m o 1) o ≡ reactor m o
unfolding reactor with_wired word
wired_reactor m o = get_or-set_other m (o + 1) o 1 0 (omega arith)

module _ (p m : List ℕ) (o r : ℕ) (same : reactor m o ≡ r) where
  -- the words are ready: before D's end, past it, and at it once the deployment is wired
  pub ready_apart : (i : ℕ) → i ≢ commands_d p r → ready p m o i ≡ m
  unfolding ready
  ready_apart i n = sym (no (with_wired m o 1) (eq× {a = i} {b = commands_d p (reactor m o)}
      (λ e. n (e ∙ ap (commands_d p) same))) refl)

  pub ready_there : ready p m o (commands_d p r) ≡ with_wired m o 1
  unfolding ready
  ready_there = sym (yes m (eq! {a = commands_d p r} {b = commands_d p (reactor m o)} (ap (commands_d p) (sym same))) refl)

-- ---- what is left of a run

module _ (p rd : List ℕ) (f h o : ℕ) (x : Ran) (r n i : ℕ) (m : List ℕ) (l : Left p rd f h o x r (suc n) i m) where
  pub knows : Knowing p rd f h o r i m
  unfolding Through
  knows = l.steady.0

  pub goes_on : (m₁ : List ℕ) → stepping p rd f h o i m ≡ ran m₁ → Left p rd f h o x r n (i + 1) m₁
  unfolding Through commands and_then ran_as
  goes_on m₁ e =
      record {
        run = l.run ∙ ap (and_then (commands (stepping p rd f h o) n (i + 1))) e;
        steady = l.steady.1 m₁ e;
        workable = workable_after p rd f (h + 1) h o i m m₁ l.workable (sym e);
      }

  pub breaks_off : (w : Refusal) (m₁ : List ℕ) → stepping p rd f h o i m ≡ stopped w m₁ → x ≡ stopped w m₁
  unfolding commands and_then
  breaks_off w m₁ e = l.run ∙ ap (and_then (commands (stepping p rd f h o) n (i + 1))) e

pub ends : (p rd : List ℕ) (f h o : ℕ) (x : Ran) (r i : ℕ) (m : List ℕ) → Left p rd f h o x r 0 i m → x ≡ ran m
unfolding commands
ends p rd f h o x r i m l = l.run

-- ---- a step, where the words are ready

module _ (p rd : List ℕ) (f h o i r : ℕ) (m : List ℕ) (same : reactor m o ≡ r) (set : ready p m o i ≡ m) where
  pub effect : eff p rd h m o i ≡ exec p rd h m o i (cmd_of p r i)
  unfolding eff
  effect = rw (set, same)

  pub steps : (e : Eff) → exec p rd h m o i (cmd_of p r i) ≡ e → stepping p rd f h o i m ≡ entered
      (run_of f p rd (h + 1)) m e
  unfolding step_of
  steps e q = rw (set, effect, q)
