-- No word of memory or sink space is changed by a refused turn, whatever it is handed: `refused_keeps`.
-- Assumes nothing.
use Rattle.std.specs.Prelude.{ℕ, ◌≡◌, refl, ◌≢◌, List, length, Ok, Err}
use Rattle.std.proofs.Common.{subst}
use Rattle.value.proofs.Tests.{cases, goes, stops}
use Rattle.load.specs.Check.{check_of}
use Rattle.answer.specs.Answer.{Answer}
use Rattle.answer.specs.declared.Refusal.{Refusal}
use Rattle.image.specs.Passes.{sound_of}
use Rattle.image.specs.Passes.{Judged}
use Rattle.image.specs.Start.{words_legal}
use Rattle.remus.specs.Run.{Ran, ran, stopped, main_run}
use Rattle.remus.specs.Turn.{Turn, asked_of, turn_refused, by_run, by_asked, by_sound, by_check, turn_of}
use Rattle.answer.specs.Answer.{number_of}
use Rattle.answer.specs.Answer.{Ruling}
use Rattle.remus.specs.Claim.{RefusedKeeps}

module _ (p m rd sk : List ℕ) where
  abbrev Keeps : Turn → Type 0
  Keeps t = number_of t.answer ≢ 0 → (t.memory ≡ m) × (t.sink_space ≡ sk)

  kept : (w : Refusal) → Keeps (turn_refused p m rd sk w)
  unfolding turn_refused
  kept w n = (refl, refl)

  by_run_lem : (r : Ran) → Keeps (by_run p m rd sk r)
  unfolding by_run
  by_run_lem (ran m') = λ n. absurd (n refl)
  by_run_lem (stopped w m') = kept w

  by_asked_lem : (a : Ruling) → Keeps (by_asked p m rd sk a)
  unfolding by_asked
  by_asked_lem (Ok tt) = by_run_lem (main_run p rd m)
  by_asked_lem (Err w) = kept w

  by_sound_lem : (j : Judged) → Keeps (by_sound p m rd sk j)
  unfolding by_sound
  by_sound_lem (Ok tt) = by_asked_lem (asked_of p m rd sk)
  by_sound_lem (Err q) = kept _

  by_check_lem : (c : Answer) → Keeps (by_check p m rd sk c)
  unfolding by_check
  by_check_lem (Ok size) =
      cases (words_legal (length m)) (λ e. subst Keeps (goes _ _ e refl) (by_sound_lem (sound_of p m)))
      (λ e. subst Keeps (stops _ e refl) (kept _))
  by_check_lem (Err w) = kept w

pub refused_keeps : RefusedKeeps
unfolding turn_of
refused_keeps p m rd sk = by_check_lem p m rd sk (check_of p)
