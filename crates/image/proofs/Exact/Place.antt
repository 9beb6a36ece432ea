-- Exact place: the ladder of soundness stops where the image is at fault.
use Rattle.std.specs.Prelude.{ℕ, ◌+◌, ◌≤◌, ◌<◌, ◌≡◌, refl, ◌⊎◌, ◌↔◌, ◌≢◌, Bool, true, Ok, Err}
use Rattle.std.proofs.Common.{sym, ◌∙◌, ap, subst, inl, inr}
use Rattle.std.specs.Prelude.{false, List, length}
use Rattle.std.proofs.Common.{true≢false, arith}
use Rattle.std.proofs.lemmas.Bool.{false≢true}
use Rattle.value.specs.Test.{guard, ◌=?◌}
use Rattle.value.proofs.Tests.{cases, eq!, eq×, eq?, eq×?, says×}
use Rattle.program.specs.Bytes.{reactors, most_reactors, main_of}
use Rattle.program.specs.Location.{size_of}
use Rattle.image.specs.Memory.{most_words, main_at, used, turns, reactor, next, size_at}
use Rattle.image.specs.Sound.{Tiles, done, more, In, here, there, Deployed}
use Rattle.image.specs.Passes.{fresh_sound, grown_sound, by_turns, sound_of}
use Rattle.image.specs.Passes.{Judged}
use Rattle.image.specs.Fault.{Framed, Own, Lowest, FreshFault, main, second, GrownFault, own, named, depth}
use Rattle.image.specs.Fault.{FaultAt, frame, fresh, grown, ExactPlace}
use Rattle.image.proofs.Memory.Tiles.{in_ge, in_to}
use Rattle.image.proofs.Exact.Tiling.{Laid, starts}
use Rattle.image.proofs.Exact.Rungs.{unsound_not, framed_says, framed_laid, main_says, lowest_one, own_says}
use Rattle.image.proofs.Exact.Rungs.{own_stops, named_says, named_stops, depth_says}

-- a ladder stops at a rung, with the rung's place, or goes on
rung : (t : Bool) (n q : ℕ) (go_on : Unit {0} → Judged) →
    (guard t (Err n) go_on ≡ Err q) ↔ (((t ≡ false) × (n ≡ q)) ⊎ ((t ≡ true) × (go_on tt ≡ Err q)))
unfolding guard
rung true n q go_on = (λ e. inr (refl, e), λ h. elim h [ inl k ↦ absurd (true≢false k.0) | inr k ↦ k.1 ])
rung false n q go_on =
    (λ e. inl (refl, cc), λ h. elim h [ inl k ↦ ap Err k.1 | inr k ↦ absurd (false≢true k.0) ])

-- the last rung
last_rung : (t : Bool) (n q : ℕ) → ◌≡◌ {A = Judged} (guard t (Err n) (λ _. Ok tt)) (Err q) ↔ ((t ≡ false) × (n ≡ q))
last_rung t n q =
    let w = rung t n q (λ _. Ok tt) in
    (λ e. elim (w.0 e) [ inl k ↦ k | inr k ↦ absurd (unsound_not q (sym k.1)) ], λ h. w.1 (inl h))

module _ (p m : List ℕ) where
  -- ---- turns above 0

  module _ (laid : Laid p m) (z : next m main_at ≡ 0) where
    grown_fault : (q : ℕ) → grown_sound p m (starts p m) ≡ Err q → GrownFault p m q
    unfolding grown_sound
    grown_fault q e =
        elim ((rung _ _ q _).0 e) [
          | inl h ↦ own ((own_stops p m laid z q).0 h)
          | inr h ↦
              let o = (own_says p m laid z).0 h.0 in
              elim ((rung _ _ q _).0 h.1) [
                | inl k ↦ named o ((named_stops p m laid o q).0 k)
                | inr k ↦
                    let n = (named_says p m laid o).0 k.0 in
                    let l = (last_rung _ _ q).0 k.1 in
                    subst (GrownFault p m) l.1 (depth o n ((says× (depth_says p m laid o n)).0 l.0))
              ]
        ]

    grown_stops : {q : ℕ} → GrownFault p m q → grown_sound p m (starts p m) ≡ Err q
    unfolding grown_sound
    grown_stops {q} (own l) = (rung _ _ q _).1 (inl ((own_stops p m laid z q).1 l))
    grown_stops {q} (named o l) =
        (rung _ _ q _).1 (inr ((own_says p m laid z).1 o, (rung _ _ q _).1 (inl ((named_stops p m laid o q).1 l))))
    grown_stops (depth o n d) =
        let deep = (last_rung _ 0 0).1 ((says× (depth_says p m laid o n)).1 d, refl) in
        (rung _ _ 0 _).1 (inr ((own_says p m laid z).1 o, (rung _ _ 0 _).1 (inr ((named_says p m laid o).1 n, deep))))

  -- ---- turns 0

  -- where main ends below u, a second deployment begins
  second_in : {a : ℕ} (u : ℕ) → Tiles p m u a → a < u → a + size_at p m a ≢ u → In p m u a (a + size_at p m a)
  second_in u done l n = absurd (omega arith)
  second_in u (more l r done) k n = absurd (n refl)
  second_in u (more l r (more l' r' t)) k n = there l (here l')

  second_at : Framed p m → used m ≢ main_at + size_of p (main_of p) → Deployed p m (main_at + size_of p (main_of p))
  unfolding size_at
  second_at f n =
      let size : main_at + size_of p (reactor m main_at) ≡ main_at + size_of p (main_of p) =
      ap (λ (r : ℕ). main_at + size_of p r) f.first in
      subst (Deployed p m) size (second_in (used m) f.tiles (in_to p f.main) (λ z. n (sym z ∙ size)))

  module _ (f : Framed p m) (z : next m main_at ≡ 0) where
    fresh_fault : (q : ℕ) → fresh_sound p m ≡ Err q → FreshFault p m q
    unfolding fresh_sound
    fresh_fault q e =
        let says = main_says p m f.first z in
        elim ((rung _ _ q _).0 e) [
          | inl h ↦ subst (FreshFault p m) h.1 (main ((says× says).0 h.0))
          | inr h ↦
              let l = (last_rung _ _ q).0 h.1 in
              subst (FreshFault p m) l.1 (second (says.0 h.0) (second_at f (eq×? l.0)))
        ]

    fresh_stops : {q : ℕ} → FreshFault p m q → fresh_sound p m ≡ Err q
    unfolding fresh_sound
    fresh_stops (main n) = (rung _ _ main_at _).1 (inl ((says× (main_says p m f.first z)).1 n, refl))
    fresh_stops {q} (second g d) =
        let longer : (used m =? main_at + size_of p (main_of p)) ≡ false = eq× (λ e. omega (arith, in_to p d)) in
        (rung _ _ q _).1 (inr ((main_says p m f.first z).1 g, (last_rung _ _ q).1 (longer, refl)))

  -- ---- main's next, which is asked before the rest

  main_lowest : Framed p m → next m main_at ≢ 0 → Lowest p m (Own p m) main_at
  main_lowest f n =
      record {
        deployed = f.main;
        wrong = λ o. n (o.last refl);
        lower = λ d i k. absurd (omega (arith, in_ge p i));
      }

  next_fault : Framed p m → next m main_at ≢ 0 → FaultAt p m main_at
  next_fault f n =
      cases (turns m =? 0)
      (λ e. fresh f (eq? e) (main (λ g. n g.last)))
      (λ e. grown f (eq×? e) (own (main_lowest f n)))

  next_fresh : {q : ℕ} → next m main_at ≢ 0 → FreshFault p m q → main_at ≡ q
  next_fresh n (main w) = refl
  next_fresh n (second g d) = absurd (n g.last)

  next_grown : {q : ℕ} → Framed p m → next m main_at ≢ 0 → GrownFault p m q → main_at ≡ q
  next_grown f n (own l) = lowest_one p m (main_lowest f n) l
  next_grown f n (named o l) = absurd (n ((o main_at f.main).last refl))
  next_grown f n (depth o k d) = absurd (n ((o main_at f.main).last refl))

  -- ---- the ladder

  module _ (few : reactors p ≤ most_reactors) (small : length m ≤ most_words) where
    turns_fault : (q : ℕ) → Framed p m → next m main_at ≡ 0 → (t : Bool) → (turns m =? 0) ≡ t →
        by_turns p m t ≡ Err q → FaultAt p m q
    unfolding by_turns
    turns_fault q f z true w e = fresh f (eq? w) (fresh_fault f z q e)
    turns_fault q f z false w e = grown f (eq×? w) (grown_fault (framed_laid p m few small f) z q e)

    fault_at : (q : ℕ) → sound_of p m ≡ Err q → FaultAt p m q
    unfolding sound_of
    fault_at q e =
        elim ((rung _ _ q _).0 e) [
          | inl h ↦ subst (FaultAt p m) h.1 (frame ((says× (framed_says p m)).0 h.0))
          | inr h ↦
              let f = (framed_says p m).0 h.0 in
              elim ((rung _ _ q _).0 h.1) [
                | inl k ↦ subst (FaultAt p m) k.1 (next_fault f (eq×? k.0))
                | inr k ↦ turns_fault q f (eq? k.0) (turns m =? 0) refl k.1
              ]
        ]

    -- past the frame, where main's next is the fault and where it is not
    stops_at : (q : ℕ) → Framed p m → (next m main_at ≢ 0 → main_at ≡ q) →
        (next m main_at ≡ 0 → by_turns p m (turns m =? 0) ≡ Err q) → sound_of p m ≡ Err q
    unfolding sound_of
    stops_at q f at_main past =
        (rung _ _ q _).1 (inr (
          (framed_says p m).1 f,
          (rung _ _ q _).1 (cases (next m main_at =? 0) (λ e. inr (e, past (eq? e))) (λ e. inl (e, at_main (eq×? e)))),
        ))

    fault_stops : {q : ℕ} → FaultAt p m q → sound_of p m ≡ Err q
    unfolding sound_of by_turns
    fault_stops (frame n) = (rung _ _ 0 _).1 (inl ((says× (framed_says p m)).1 n, refl))
    fault_stops {q} (fresh f t g) =
        stops_at q f (λ n. next_fresh n g) (λ z. ap (by_turns p m) (eq! t) ∙ fresh_stops f z g)
    fault_stops {q} (grown f t g) =
        let laid = framed_laid p m few small f in
        stops_at q f (λ n. next_grown f n g) (λ z. ap (by_turns p m) (eq× t) ∙ grown_stops laid z g)

pub exact_place : (p : List ℕ) → ExactPlace p
exact_place p few m small q = (fault_at p m few small q, fault_stops p m few small)
