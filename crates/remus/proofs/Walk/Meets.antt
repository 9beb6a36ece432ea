-- The walk from a state whose topmost deployment opens comes to that one's leaving with the words of the
-- recursive run, or to a step that stops as the run does. The bound on the pile's height is what keeps the
-- run from having no level left.
use Rattle.std.specs.Prelude.{ℕ, zero, suc, ◌+◌, ◌-◌, ◌≤◌, ◌<◌, ◌≡◌, refl, Bool, List, ◌∷◌, ◌++◌, length}
use Rattle.std.proofs.Common.{◌∙◌, ap}
use Rattle.std.proofs.Common.{arith}
use Rattle.value.proofs.Tests.{eq!, eq×}
use Rattle.program.specs.Bytes.{commands_in}
use Rattle.program.specs.Command.{cmd_of}
use Rattle.image.specs.Memory.{reactor}
use Rattle.image.specs.Sound.{Deployed}
use Rattle.remus.specs.Exec.{Eff, move, call, fail, eff, opening, ready}
use Rattle.remus.specs.Run.{Ran, ran, stopped, and_then, entered, commands, step_of, run_of}
use Rattle.remus.specs.Walk.{Note, run, Frame, State, go, stop, notes_of, onto, step_at, step_on, step, Reach, stay}
use Rattle.remus.specs.Walk.{on}
use Rattle.remus.proofs.Walk.Facts.{Facts}
use Rattle.remus.proofs.Walk.Pile.{frame, state, Inv, height_bound}
use Rattle.remus.proofs.Walk.Top.{Onward, onward_self, onward_on, top_frame}
use Rattle.remus.proofs.Walk.Walking.{Legal, Comes, step_outcome}

module _ (p rd : List ℕ) where
  pub reach_on : {s t u : State} → Reach p rd s t → Reach p rd t u → Reach p rd s u
  reach_on a stay = a
  reach_on a (on b e) = on (reach_on a b) e

  -- what a run's end says of the walk from s: it comes to the pile fs with the run's words, or to a
  -- step that stops as the run does
  abbrev pub Meets : State → List Frame → Ran → Type 0
  Meets s fs (ran m) = (ns : List Note) × Reach p rd s (state m fs ns)
  Meets s fs (stopped v m) = (t : State) × Reach p rd s t × (step p rd t ≡ stop v)

  meets_on : {s t : State} (fs : List Frame) (r : Ran) → Reach p rd s t → Meets t fs r → Meets s fs r
  meets_on fs (ran m) a b = (b.0, reach_on a b.1)
  meets_on fs (stopped v m) a b = (b.0, reach_on a b.1, b.2)

  -- the step at the end of o's commands, and before
  pub leaving : (m : List ℕ) (o i : ℕ) (fs : List Frame) (ns : List Note) → i ≡ commands_in p (reactor m o) →
      step p rd (state m (frame o i ∷ fs) ns) ≡ go (state m fs (run o ∷ ns))
  unfolding step step_on step_at
  leaving m o i fs ns e = ap (λ (t : Bool). step_at p rd t m o i fs ns) (eq! e)

  pub acting : (m : List ℕ) (o i : ℕ) (fs : List Frame) (ns : List Note) → i < commands_in p (reactor m o)
      → (x : Eff) → eff p rd (suc (length fs)) m o i ≡ x
      → step p rd (state m (frame o i ∷ fs) ns) ≡ onto p o i fs
      (notes_of p (ready p m o i) o i (cmd_of p (reactor m o) i) ++ ns) x
  unfolding step step_on step_at
  acting m o i fs ns h x q =
      ap (λ (t : Bool). step_at p rd t m o i fs ns) (eq× (omega arith))
      ∙ ap (onto p o i fs (notes_of p (ready p m o i) o i (cmd_of p (reactor m o) i) ++ ns)) q

  module _ (u : Facts p) (legal : Legal p rd) {w : List ℕ} where
    pub kept : {s t : State} → Inv p w s → step p rd s ≡ go t → Inv p w t × Onward p s.words t.words
    kept {s} {t} v e = let c : Comes p w s (go t) = rw e at (step_outcome p u rd legal s v) in (c.inv, c.onward)

    pub reached : {s t : State} → Inv p w s → Reach p rd s t → Inv p w t × Onward p s.words t.words
    reached v stay = (v, onward_self)
    reached v (on a e) =
        let f = reached v a in
        let g = kept f.0 e in
        (g.0, onward_on f.1 g.1)

    module _ (enter : List ℕ → ℕ → Ran) (o : ℕ) (fs : List Frame)
        (nested : (m : List ℕ) (d i : ℕ) (ns : List Note) → Inv p w
        (state m (frame d (opening p m d) ∷ frame o i ∷ fs) ns) →
        Meets (state m (frame d (opening p m d) ∷ frame o i ∷ fs) ns) (frame o i ∷ fs) (enter m d)) where
      abbrev after : ℕ → ℕ → List ℕ → Ran
      after n i m = commands (step_of enter p rd (suc (length fs)) o) n i m

      -- one command, and then the others
      module _ (n i : ℕ) (m : List ℕ) (ns : List Note) (v : Inv p w (state m (frame o i ∷ fs) ns))
          (e : i + suc n ≡ commands_in p (reactor m o))
          (again : (m' : List ℕ) (ns' : List Note) → Inv p w (state m' (frame o (i + 1) ∷ fs) ns') → i + 1 + n ≡
          commands_in p (reactor m' o) →
          Meets (state m' (frame o (i + 1) ∷ fs) ns') fs (after n (i + 1) m')) where
        abbrev here : State
        here = state m (frame o i ∷ fs) ns

        abbrev notes : List Note
        notes = notes_of p (ready p m o i) o i (cmd_of p (reactor m o) i) ++ ns

        t₀ : Deployed p m o
        t₀ = (top_frame p v).deployed

        stepped : (x : Eff) → eff p rd (suc (length fs)) m o i ≡ x → step p rd here ≡ onto p o i fs notes x
        stepped = acting m o i fs ns (omega arith)

        by_run_lem : {s : State} → step p rd here ≡ go s → (r : Ran) → Meets s (frame o (i + 1) ∷ fs) r → Meets here fs
            (and_then (after n (i + 1)) r)
        unfolding and_then
        by_run_lem z (ran m') f =
            let k = kept v z in
            let l = reached k.0 f.1 in
            let r : reactor m' o ≡ reactor m o = l.1.reactors o (k.1.kept o t₀) ∙ k.1.reactors o t₀ in
            meets_on fs (after n (i + 1) m') (reach_on (on stay z) f.1) (again m' f.0 l.0 (rw r (omega arith)))
        by_run_lem z (stopped y m') f = (f.0, reach_on (on stay z) f.1, f.2)

        by_effect : (x : Eff) → eff p rd (suc (length fs)) m o i ≡ x → Meets here fs
            (and_then (after n (i + 1)) (entered enter (ready p m o i) x))
        unfolding and_then entered onto
        by_effect (move m') q =
            let z = stepped (move m') q in
            let k = kept v z in
            meets_on fs (after n (i + 1) m') (on stay z)
            (again m' notes k.0 (rw (k.1.reactors o t₀) (omega arith)))
        by_effect (call m' d) q = let z = stepped (call m' d) q in by_run_lem z (enter m' d)
            (nested m' d (i + 1) notes (kept v z).0)
        by_effect (fail y) q = (here, stay, stepped (fail y) q)

      commands_meet : (n i : ℕ) (m : List ℕ) (ns : List Note) → Inv p w (state m (frame o i ∷ fs) ns) → i + n ≡
          commands_in p (reactor m o) →
          Meets (state m (frame o i ∷ fs) ns) fs (after n i m)
      unfolding commands step_of
      commands_meet zero i m ns v e = (run o ∷ ns, on stay (leaving m o i fs ns (omega arith)))
      commands_meet (suc n) i m ns v e = by_effect n i m ns v e (λ m' ns' v' e'. commands_meet n (i + 1) m' ns' v' e')
          (eff p rd (suc (length fs)) m o i) refl

    pub run_meets : (f h : ℕ) (m : List ℕ) (o : ℕ) (fs : List Frame) (ns : List Note) → Inv p w
        (state m (frame o (opening p m o) ∷ fs) ns) →
        suc (length fs) ≡ h → 65 ≤ f + h →
        Meets (state m (frame o (opening p m o) ∷ fs) ns) fs (run_of f p rd h m o)
    unfolding run_of
    run_meets zero h m o fs ns v e l = absurd (let k : suc (length fs) ≤ 64 = height_bound p v in omega arith)
    run_meets (suc f) h m o fs ns v e l =
        rw (← e)
        (commands_meet (run_of f p rd (suc (length fs) + 1)) o fs
        (λ m' d i ns' v'. run_meets f (suc (length fs) + 1) m' d (frame o i ∷ fs) ns' v' (omega arith) (omega arith))
        (commands_in p (reactor m o) - opening p m o) (opening p m o) m ns v
        (let b = (top_frame p v).bound in omega arith))
