-- What a preview of an accepted program comes to, once 8 and 22 have let it pass: what the turn does, which runs on a
-- copy where `ready` finds nothing against it. Assumes nothing.
use Rattle.std.specs.Prelude.{◌≡◌, refl, true, false, List, ℕ, length, Ok, Err}
use Rattle.std.proofs.Common.{sym, ◌∙◌, ap, subst}
use Rattle.value.specs.Test.{◌=?◌, ◌or◌}
use Rattle.value.proofs.Tests.{goes, yes}
use Rattle.answer.specs.Answer.{number_of, refusal_number}
use Rattle.answer.specs.Answer.{Answer}
use Rattle.answer.specs.declared.Refusal.{Refusal}
use Rattle.answer.specs.declared.Refusal.TheVariants.{UnsoundImage}
use Rattle.answer.specs.Answer.{Ruling}
use Rattle.load.specs.Check.{IsAccepted}
use Rattle.load.proofs.Exact.{exact}
use Rattle.load.proofs.Exact.Ladder.{accepted_size}
use Rattle.image.specs.Passes.{sound_of}
use Rattle.image.specs.Passes.{Judged}
use Rattle.image.specs.Start.{words_legal}
use Rattle.image.proofs.Exact.{rules_soundness}
use Rattle.image.proofs.Starts.{words_legal_lem}
use Rattle.remus.specs.Run.{main_run}
use Rattle.remus.specs.Turn.{Turn, by_run, by_asked, by_check, turn_of}
use Rattle.remus.specs.Preview.{from_run, tried, preview_refused}
use Rattle.remus.proofs.Previews.{run_number, asked_number, tried_kept}
use Rattle.machine.specs.Clauses.{turned, previewed, ready_of}
use Rattle.machine.proofs.Turning.{by_ready, ready_fine}

module _ (p m work rd sk : List ℕ) where
  -- ---- a turn that was tried, by its number

  tried_whole : (t : Turn) → from_run (number_of t.answer) ≡ true
      → previewed t.answer t.memory t.sink_space ≡ tried work t
  unfolding previewed tried
  tried_whole t n = ap (λ (w : List ℕ). previewed t.answer w t.sink_space) (yes work n refl)

  ready_number : (j : Judged) (w : Refusal) → ready_of p m rd sk j ≡ Err w → from_run (refusal_number w) ≡ false
  unfolding ready_of from_run ◌=?◌ ◌or◌
  ready_number (Ok tt) w e = asked_number p m rd sk w e
  ready_number (Err q) w e = let z : w ≡ UnsoundImage q = cc in rw z refl

  module _ (a : IsAccepted p) (l : words_legal (length m) ≡ true) where
    turn_ready : (r : Ruling) → ready_of p m rd sk (sound_of p m) ≡ r → turn_of p m rd sk ≡ by_asked p m rd sk r
    unfolding turn_of by_check
    turn_ready r e = rw (accepted_size p a) (sym (goes _ _ l (sym (by_ready p m rd sk (sound_of p m) r e))))

    pub shown_run : ready_of p m rd sk (sound_of p m) ≡ Ok tt → (r : Answer) (w s : List ℕ)
        → turned r w s ≡ by_run p m rd sk (main_run p rd m) → previewed r w s ≡ tried work (turn_of p m rd sk)
    unfolding by_asked turned
    shown_run e r w s h =
        let few = ((words_legal_lem _).0 l).1 in
        let f = ready_fine p m rd sk (sound_of p m) e in
        let n = run_number p m rd sk a few ((rules_soundness p ((exact p).0 a) m few).0 f.0) f.1 in
        let q : turned r w s ≡ turn_of p m rd sk = h ∙ sym (turn_ready (Ok tt) e) in
        subst (λ (t : Turn). from_run (number_of t.answer) ≡ true → previewed r w s ≡ tried work t) q
        (tried_whole (turned r w s)) n

    pub shown_refused : (w : Refusal) → ready_of p m rd sk (sound_of p m) ≡ Err w
        → previewed (Err w) work sk ≡ tried work (turn_of p m rd sk)
    unfolding by_asked previewed preview_refused
    shown_refused w e =
        tried_kept p m work rd sk w (ready_number (sound_of p m) w e) ∙ ap (tried work) (sym (turn_ready (Err w) e))
