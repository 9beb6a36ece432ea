-- The turn's own steps: how main's run ended, and what the questions say of what is brought.
-- Assumes nothing.
use Rattle.std.specs.Prelude.{ℕ, ◌*◌, ◌≤◌, ◌<◌, ◌≡◌, refl, List, length, Ok, Err, MatchResult, IsErrAnd}
use Rattle.std.proofs.Common.{sym, ap, subst, arith}
use Rattle.program.specs.Bytes.{main_of}
use Rattle.program.specs.Location.{sink_count}
use Rattle.answer.specs.declared.Refusal.{Refusal}
use Rattle.answer.specs.declared.Refusal.TheVariants.{UnsoundImage}
use Rattle.image.specs.Memory.{most_turns, main_at, used, turns}
use Rattle.remus.specs.Run.{ran, stopped, run_of, main_run}
use Rattle.image.specs.Passes.{Judged}
use Rattle.remus.specs.Turn.{asked_of, by_asked, by_sound}
use Rattle.answer.specs.Answer.{Ruling}
use Rattle.remus.specs.Claim.{Fit}
use Rattle.remus.proofs.Fits.{fits}
use Rattle.remus.specs.Undo.{undo_of}
use Rattle.answer.specs.Answer.{Answer}
use Rattle.machine.specs.Clauses.{Workable, ran_as, turned, ready_of, Safe}
use Rattle.machine.proofs.WordsFit.{run_keeps, Worked}

-- ---- main's run

pub workable : {p rd m : List ℕ} → Safe p rd m → turns m < most_turns → Workable m
workable s h = record { few = s.few; past = s.past; clock = omega arith }

module _ (p rd m m' : List ℕ) where
  pub run_whole : ran_as (Ok tt) m' ≡ run_of 64 p rd 1 m main_at → main_run p rd m ≡ ran m'
  unfolding ran_as main_run
  run_whole e = sym e

  pub run_stopped : (w : Refusal) → ran_as (Err w) m' ≡ run_of 64 p rd 1 m main_at → main_run p rd m ≡ stopped w m'
  unfolding ran_as main_run
  run_stopped w e = sym e

  pub clock_after : Workable m → ran_as (Ok tt) m' ≡ run_of 64 p rd 1 m main_at → turns m' < 4294967295
  unfolding ran_as
  clock_after w e = (subst Worked (sym e) (run_keeps p rd 64 1 m main_at w)).clock

pub same_turned : {r s : Answer} {a b : List ℕ} (sk : List ℕ) → r ≡ s → a ≡ b → turned r a sk ≡ turned s b sk
same_turned sk e f = simp (e, f)

pub undone : (p m m' : List ℕ) (u : ℕ) → u ≡ used m → undo_of p (used m) m' ≡ m → undo_of p u m' ≡ m
undone p m m' u e h = rw e h

-- ---- what is brought

module _ (p m rd sk : List ℕ) (e : asked_of p m rd sk ≡ Ok tt) where
  fit : Fit p m (record { readings = rd; sink_space = sk })
  fit = (fits p m _).1 e

  pub sinks_fit : 2 * sink_count p (main_of p) ≤ length sk
  sinks_fit = fit.room

  pub clock_left : turns m < most_turns
  clock_left = fit.clock

-- ---- 9, and 10 to 13

module _ (p m rd sk : List ℕ) where
  pub ready_fine : (j : Judged) → ready_of p m rd sk j ≡ Ok tt → (j ≡ Ok tt) × (asked_of p m rd sk ≡ Ok tt)
  unfolding ready_of
  ready_fine (Ok tt) e = (refl, e)
  ready_fine (Err q) e = let z : ◌≡◌ {A = ℕ} 0 1 = cc in absurd (omega arith)

  -- where soundness passes its refusal on as 9 nothing is left but what is asked
  pub ready_on : (j : Judged)
      → MatchResult j (λ (x : Unit {0}). ◌≡◌ {A = Ruling} (Ok tt) (Ok x))
      (λ (q : ℕ). IsErrAnd {T = Unit {0}} (Ok tt) (λ w. w ≡ UnsoundImage q))
      → asked_of p m rd sk ≡ ready_of p m rd sk j
  unfolding ready_of
  ready_on (Ok tt) h = refl
  ready_on (Err q) h = absurd h

  pub ready_off : (j : Judged) (v : Refusal)
      → MatchResult j (λ (x : Unit {0}). ◌≡◌ {A = Ruling} (Err v) (Ok x))
      (λ (q : ℕ). IsErrAnd {T = Unit {0}} (Err v) (λ w. w ≡ UnsoundImage q))
      → Err v ≡ ready_of p m rd sk j
  unfolding ready_of
  ready_off (Ok tt) v h = let z : ◌≡◌ {A = ℕ} 0 1 = cc in absurd (omega arith)
  ready_off (Err q) v h = ap Err h

  pub by_ready : (j : Judged) (r : Ruling) → ready_of p m rd sk j ≡ r → by_sound p m rd sk j ≡ by_asked p m rd sk r
  unfolding ready_of by_sound by_asked
  by_ready (Ok tt) r e = ap (by_asked p m rd sk) e
  by_ready (Err q) r e = ap (by_asked p m rd sk) e
