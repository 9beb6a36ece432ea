-- One turn: from what holds inside it to its claim, and to what the list of turns needs of it.
use Rattle.std.specs.Prelude.{ℕ, ◌+◌, ◌≤◌, ◌≡◌, refl, ◌↔◌, ◌≢◌, true, List, length, Ok, Err}
use Rattle.std.proofs.Common.{sym, ◌∙◌, ap, subst, arith}
use Rattle.value.proofs.Tests.{goes}
use Rattle.load.specs.Check.{IsAccepted}
use Rattle.answer.specs.declared.Refusal.{Refusal}
use Rattle.answer.specs.declared.Refusal.TheVariants.{NoRoom, TooDeep}
use Rattle.answer.specs.Answer.{refusal_number}
use Rattle.load.proofs.Exact.Ladder.{accepted_size}
use Rattle.image.specs.Memory.{most_words, used}
use Rattle.image.specs.Sound.{SoundImage}
use Rattle.image.specs.Passes.{sound_of}
use Rattle.image.specs.Start.{words_legal}
use Rattle.image.proofs.Memory.Each.{in_below}
use Rattle.image.proofs.Starts.{words_legal_lem}
use Rattle.remus.specs.Turn.{Turn, asked_of, turn_of, by_check, by_sound, by_asked, by_run, turn_refused as refused_turn}
use Rattle.answer.specs.Answer.{Ruling}
use Rattle.remus.specs.Walk.{State, Input, Walked, refused, stopped, left}
use Rattle.remus.specs.Claim.{During, AllocatesAt, TooDeepAt, NoRoomAt, Leaves, Fit, Ends, completed, out_of_depth}
use Rattle.remus.specs.Claim.{no_room, TurnClaim, Completed}
use Rattle.remus.proofs.Once.{walked_once}
use Rattle.remus.proofs.Fits.{asking, asking_number, fits}
use Rattle.remus.proofs.Sinks.{sinks_written}
use Rattle.remus.proofs.Walk.Top.{Onward, onward_self, onward_on}
use Rattle.remus.proofs.Lists.{TurnHolds}
use Rattle.remus.proofs.Inside.{Ending, leaves, stops, Stop, deep, full, Inside}

-- ---- the turn's own ladder, on a sound image of an accepted program

module _ (p w : List ℕ) (t : Input) (yes_program : IsAccepted p) (few : length w ≤ most_words) (image : SoundImage p w)
    (judged : sound_of p w ≡ Ok tt) where
  abbrev rd : List ℕ
  rd = t.readings

  abbrev sk : List ℕ
  sk = t.sink_space

  pub turn_is : turn_of p w rd sk ≡ by_asked p w rd sk (asked_of p w rd sk)
  unfolding turn_of by_check by_sound
  turn_is =
      let legal : words_legal (length w) ≡ true =
      (words_legal_lem _).1 (omega (arith, image.fits, in_below p image.main), few)
      in
      rw (accepted_size p yes_program) (sym (goes _ _ legal (rw judged refl)))

  module _ (inside : Inside p w t) where
    by_ending : asked_of p w rd sk ≡ Ok tt → Ending p w t → Walked p w t (by_asked p w rd sk (Ok tt))
    unfolding by_asked by_run refused_turn
    by_ending e (leaves s l q) = rw q (left s e l.during.comes l.empty)
    by_ending e (stops s v m d k q) = rw q (stopped s e d.comes k)

    by_asked_lem : (a : Ruling) → asked_of p w rd sk ≡ a → Walked p w t (by_asked p w rd sk a)
    unfolding by_asked refused_turn
    by_asked_lem (Ok tt) e = by_ending e (inside.walk_ends e)
    by_asked_lem (Err v) e = refused e

    -- the walk's result is the machine's
    result : Walked p w t (turn_of p w rd sk)
    result = rw turn_is (by_asked_lem (asked_of p w rd sk) refl)

    -- where the walk stops, and where main leaves, the result is known
    stop_answer : (r : Turn) (s : State) (v : Refusal) → Walked p w t r → Stop p w t s v →
        During p w t s → r.answer ≡ Err v
    stop_answer r s v q k d = ap (λ (x : Turn). x.answer)
        (walked_once p w t r _ q (stopped s d.allowed d.comes (inside.stopped_by s v k)))

    leave_answer : (r : Turn) (s : State) → Walked p w t r → Leaves p w t s → r.answer ≡ Ok (used s.words)
    leave_answer r s q l = ap (λ (x : Turn). x.answer)
        (walked_once p w t r _ q (left s l.during.allowed l.during.comes l.empty))

    ends : (r : Turn) → Fit p w t → Walked p w t r → Ends p w t r
    ends r f (refused e) = absurd (let a = (fits p w t).0 f in let z : ◌≡◌ {A = ℕ} 0 1 = cc in omega arith)
    ends r f (stopped {w = v} s e q k) = by (inside.stopping s v (record { allowed = e; comes = q }) k)
      where
        by : {v : Refusal} → Stop p w t s v → Ends p w t (record { answer = Err v; memory = w; sink_space = sk })
        by (deep {q} m o c a b d) = out_of_depth q refl
        by (full {q} m o c a b d g) = no_room q refl
    ends r f (left s e q k) =
        let d : During p w t s = record { allowed = e; comes = q } in
        let l : Leaves p w t s = record { during = d; empty = k } in
        completed s l refl (sinks_written p w t s f.room (inside.written s l))
        (inside.finish s l).after

    -- a turn that 10 to 13 refuse ends neither with 14 nor with 15
    asked_low : (v : Refusal) → 14 ≤ refusal_number v → asked_of p w rd sk ≡ Err v → ⊥
    asked_low v h e = omega (arith, asking_number ((asking p w rd sk v).0 e))

    -- what a stop with v says of v
    abbrev Said : Refusal → Type 0
    Said v = ((q : ℕ) → v ≡ TooDeep q → TooDeepAt p w t q) × ((q : ℕ) → v ≡ NoRoom q → NoRoomAt p w t q)

    said : (s : State) (v : Refusal) → Stop p w t s v → Said v
    said s v (deep {q} m o c a b d) = (
      λ k e.
          let z : q ≡ k = cc in
          let at : AllocatesAt p w t q (length s.pile) m =
          record { state = s; owner = o; command = c; point = a; is = b; height = refl }
          in
          subst (TooDeepAt p w t) z (length s.pile, m, at, d),
      λ k e. let z : ◌≡◌ {A = ℕ} 0 1 = cc in absurd (omega arith),
    )
    said s v (full {q} m o c a b d g) = (
      λ k e. let z : ◌≡◌ {A = ℕ} 0 1 = cc in absurd (omega arith),
      λ k e.
          let z : q ≡ k = cc in
          let at : AllocatesAt p w t q (length s.pile) m =
          record { state = s; owner = o; command = c; point = a; is = b; height = refl }
          in
          subst (NoRoomAt p w t) z (length s.pile, m, at, omega (arith, (inside.topmost s m o c a).2, d), g),
    )

    -- what a result with the answer v says of v
    says : (r : Turn) → Walked p w t r → (v : Refusal) → 14 ≤ refusal_number v → r.answer ≡ Err v → Said v
    says r (refused {w = x} e) v h q = let z : v ≡ x = cc in absurd (asked_low v h (rw z e))
    says r (stopped {w = x} s e q k) v h a =
        let z : x ≡ v = cc in
        subst Said z (said s x (inside.stopping s x (record { allowed = e; comes = q }) k))
    says r (left s e q k) v h a = let z : ◌≡◌ {A = ℕ} 0 1 = cc in absurd (omega arith)

    deep_ends : (r : Turn) (q : ℕ) → Walked p w t r → (r.answer ≡ Err (TooDeep q)) ↔ TooDeepAt p w t q
    deep_ends r q k = (
      λ e. (says r k (TooDeep q) (omega arith) e).0 q refl,
      λ h.
          let a = h.2 in
          stop_answer r a.state (TooDeep q) k
          (deep h.1 a.owner a.command a.point a.is (rw a.height h.3)) a.point.during,
    )

    full_ends : (r : Turn) (q : ℕ) → Walked p w t r → (r.answer ≡ Err (NoRoom q)) ↔ NoRoomAt p w t q
    full_ends r q k = (
      λ e. (says r k (NoRoom q) (omega arith) e).1 q refl,
      λ h.
          let a = h.2 in
          let low : length a.state.pile + 1 ≢ 65 = λ z. omega (arith, h.3, a.height, z) in
          stop_answer r a.state (NoRoom q) k (full h.1 a.owner a.command a.point a.is low h.4)
          a.point.during,
    )

    left_with : (r : Turn) (u : ℕ) → Walked p w t r → r.answer ≡ Ok u →
        (s : State) × Leaves p w t s × (used s.words ≡ u)
    left_with r u (refused e) a = let z : ◌≡◌ {A = ℕ} 0 1 = cc in absurd (omega arith)
    left_with r u (stopped s e q k) a = let z : ◌≡◌ {A = ℕ} 0 1 = cc in absurd (omega arith)
    left_with r u (left s e q k) a = (s, record { during = record { allowed = e; comes = q }; empty = k }, cc)

    as_at_entry : (r : Turn) (v : Refusal) → Walked p w t r → r.answer ≡ Err v →
        (r.memory ≡ w) × (r.sink_space ≡ sk)
    as_at_entry r v (refused e) a = (refl, refl)
    as_at_entry r v (stopped s e q k) a = (refl, refl)
    as_at_entry r v (left s e q k) a = let z : ◌≡◌ {A = ℕ} 0 1 = cc in absurd (omega arith)

    pub turn_claim : TurnClaim p w t
    turn_claim =
        record {
          result = result;
          tiled = inside.tiled;
          topmost = inside.topmost;
          carried = inside.carried;
          values = inside.values;
          fetched = inside.fetched;
          ends = ends;
          deep = deep_ends;
          full = full_ends;
          complete = λ r u k. (left_with r u k, λ h. leave_answer r h.0 k h.1 ∙ ap Ok h.2);
          refused = as_at_entry;
        }

    -- ---- what the turn leaves

    -- what a result leaves: a sound image as long as before, with u grown by what was allocated if the turn completes
    pub record Left (r : Turn) : Type 0 where
      pub sound_image : SoundImage p r.memory
      pub same_length : length r.memory ≡ length w
      pub grows : (u : ℕ) → r.answer ≡ Ok u → (k : ℕ) × Completed p w t k × (used r.memory ≡ used w + k)

    leaves_sound : (r : Turn) → Walked p w t r → Left r
    leaves_sound r (refused e) = record {
      sound_image = image;
      same_length = refl;
      grows = λ u a. let z : ◌≡◌ {A = ℕ} 0 1 = cc in absurd (omega arith);
    }
    leaves_sound r (stopped s e q k) = record {
      sound_image = image;
      same_length = refl;
      grows = λ u a. let z : ◌≡◌ {A = ℕ} 0 1 = cc in absurd (omega arith);
    }
    leaves_sound r (left s e q k) =
        let d : During p w t s = record { allowed = e; comes = q } in
        let l : Leaves p w t s = record { during = d; empty = k } in
        let h = inside.finish s l in
        let g = inside.made s d in
        record {
          sound_image = h.sound_image (omega (arith, inside.same_turns s d, ((fits p w t).1 e).clock));
          same_length = h.after.same_length;
          grows = λ u a. (g.0, record { state = s; leaves = l; made = g.1 }, h.after.same_used ∙ g.2);
        }

    -- deployments stay, however it ends
    outer : (r : Turn) → Walked p w t r → Onward p w r.memory
    outer r (refused e) = onward_self
    outer r (stopped s e q k) = onward_self
    outer r (left s e q k) =
        let d : During p w t s = record { allowed = e; comes = q } in
        onward_on (inside.onward s d) (inside.finish s (record { during = d; empty = k })).to

    pub turn_holds : TurnHolds p w t
    turn_holds =
        let l = leaves_sound (turn_of p w rd sk) result in
        record {
          lasting = record {
            claim = turn_claim;
            sound = l.sound_image;
            same_length = l.same_length;
            inner = inside.inner;
            outer = outer (turn_of p w rd sk) result;
            finish = inside.finish;
          };
          grows = l.grows;
        }
