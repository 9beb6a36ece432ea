-- The equations through a turn: at every state of it, and so where main leaves, each command that is behind has its
-- equation (`equations_hold`).
use Rattle.std.specs.Prelude.{ℕ, suc, ◌+◌, ◌≤◌, ◌<◌, ◌≡◌, refl, List, [], ◌∷◌, ◌++◌}
use Rattle.std.proofs.Common.{sym, ◌∙◌, subst, inl, inr}
use Rattle.std.specs.Prelude.{length}
use Rattle.std.proofs.Common.{arith}
use Rattle.value.specs.Test.{◌=?◌}
use Rattle.value.proofs.Tests.{cases, yes, no, same?}
use Rattle.program.specs.Bytes.{commands_d, commands_in}
use Rattle.program.specs.Command.{cmd_of}
use Rattle.load.specs.Rules.{Rules}
use Rattle.image.specs.Memory.{most_words, main_at, reactor, with_wired}
use Rattle.image.specs.Sound.{SoundImage}
use Rattle.image.proofs.Memory.Tiles.{in_reactor}
use Rattle.image.proofs.Memory.Changes.{Change, No-slot, Nothing, unchanged, wiring}
use Rattle.remus.specs.Exec.{Eff, move, call, fail, eff, opening, ready}
use Rattle.remus.specs.Walk.{Note, run, Frame, State, go, notes_of, onto, begun, step, Reach, stay, on, Input}
use Rattle.remus.specs.Point.{later}
use Rattle.remus.specs.Claim.{During}
use Rattle.remus.proofs.Once.{empty_over}
use Rattle.remus.proofs.Walk.Core as Core
use Rattle.remus.proofs.Walk.Facts.{Facts}
use Rattle.remus.proofs.Walk.MidTurn.{own, cmd}
use Rattle.remus.proofs.Walk.Pile.{frame, state, Open, first as top, later as under, none_open, no_note, Behind}
use Rattle.remus.proofs.Walk.Pile.{Inv}
use Rattle.remus.proofs.Walk.Top.{top_frame, behind_on, behind_off, leave_forth, leave_back}
use Rattle.remus.proofs.Walk.StepsKeep.{ready_kept}
use Rattle.remus.proofs.Walk.Meets.{leaving, acting}
use Rattle.remus.proofs.Solved.Equations.{Equation, Equations, equation_on}
use Rattle.remus.proofs.Solved.Commands.{After}
use Rattle.remus.proofs.Solved.Steps.{declares_nothing, skips_d, every_command}

-- p the program, rd the readings, w the words before the turn
abbrev pub StateEquations : List ℕ → List ℕ → List ℕ → State → Type 0
StateEquations p rd w s = Equations p s.words s.notes (Behind p s.words s.pile s.notes) rd w

module _ (p : List ℕ) (u : Facts p) (rd w : List ℕ) where
  module _ {m : List ℕ} {ns : List Note} {o i : ℕ} {fs : List Frame} (v : Inv p w (state m (frame o i ∷ fs) ns))
      (qs : StateEquations p rd w (state m (frame o i ∷ fs) ns)) where
    abbrev here : State
    here = state m (frame o i ∷ fs) ns

    leaves : i ≡ commands_in p (reactor m o) → StateEquations p rd w (state m fs (run o ∷ ns))
    leaves e a j b =
        let z = leave_back p v e a j b in
        equation_on p (unchanged p v.mid.good) (λ d l f k. k) (λ n k. later k) (leave_forth p v e)
        rd w a (own p m a j) (v.mid.scope a j z).0 (cmd p m a j) (qs a j z)

    -- wiring writes no slot
    wired_on : {L : ℕ → Type 0} {m' : List ℕ} → Change p (No-slot p) (Nothing p) L m m'
        → StateEquations p rd w (state m' (frame o i ∷ fs) ns)
    wired_on c a j b =
        let z = behind_off p c v.piled a j b in
        let t = (v.mid.scope a j z).0 in
        rw (c.reactors a t)
        (equation_on p c (λ d l f k. k) (λ n k. k) (behind_on p c v.piled)
        rd w a (own p m a j) t (cmd p m a j) (qs a j z))

    ready_on : StateEquations p rd w (state (ready p m o i) (frame o i ∷ fs) ns)
    unfolding ready
    ready_on =
        cases (i =? commands_d p (reactor m o))
        (λ e.
        subst (λ (x : List ℕ). StateEquations p rd w (state x (frame o i ∷ fs) ns)) (yes m e refl)
        (wired_on (wiring p m o v.mid.good (top_frame p v).deployed).change))
        (λ e.
        subst (λ (x : List ℕ). StateEquations p rd w (state x (frame o i ∷ fs) ns)) (no (with_wired m o 1) e refl) qs)

    by_effect : (notes : List Note) (x : Eff) → After p rd w o i fs notes x → {z : State}
        → onto p o i fs notes x ≡ go z → StateEquations p rd w z
    unfolding onto
    by_effect notes (move m') q {z} e = let k : z ≡ state m' (frame o (i + 1) ∷ fs) notes = cc in rw k q
    by_effect notes (call m' d) q {z} e =
        let k : z ≡ state m' (frame d (opening p m' d) ∷ frame o (i + 1) ∷ fs) notes = cc in rw k q
    by_effect notes (fail y) q e = let k : ◌≡◌ {A = ℕ} 0 1 = cc in absurd (omega arith)

    acts : i < commands_in p (reactor m o) → {z : State} → step p rd here ≡ go z → StateEquations p rd w z
    unfolding eff
    acts l s =
        let r = ready_kept p u v l in
        let c = cmd_of p (reactor m o) i in
        by_effect (notes_of p (ready p m o i) o i c ++ ns) (eff p rd (suc (length fs)) m o i)
        (every_command p u rd r.inv (rw r.same l) ready_on r.wired_then c (rw r.same refl))
        (sym (acting p rd m o i fs ns l _ refl) ∙ s)

    onward : {z : State} → step p rd here ≡ go z → StateEquations p rd w z
    onward {z} s =
        elim (same? i (commands_in p (reactor m o))) [
          | inl e ↦
              let f = leaving p rd m o i fs ns e in
              let q : z ≡ state m fs (run o ∷ ns) = cc in
              rw q (leaves e)
          | inr e ↦ acts (omega (arith, (top_frame p v).bound)) s
        ]

  by_pile : {m : List ℕ} {ns : List Note} (fs : List Frame) {z : State} → Inv p w (state m fs ns)
      → StateEquations p rd w (state m fs ns) → step p rd (state m fs ns) ≡ go z → StateEquations p rd w z
  by_pile {m} {ns} [] v qs s =
      let e = empty_over p rd (state m [] ns) refl in let q : ◌≡◌ {A = ℕ} 0 1 = cc in absurd (omega arith)
  by_pile (f ∷ fs) v qs s = onward v qs s

  -- a turn begins: what is behind is D
  begun_equations : Inv p w (begun p w) → StateEquations p rd w (begun p w)
  unfolding begun
  begun_equations v o j (inr b) = absurd (no_note b.0)
  begun_equations v o j (inl b) = by b.1 b.2
    where
      B₀ : ℕ → ℕ → Type 0
      B₀ = Behind p w (frame main_at (opening p w main_at) ∷ []) []

      by : {k : ℕ} → Open o k (frame main_at (opening p w main_at) ∷ []) → j < k
          → Equation p w [] B₀ rd w o (own p w o j) (cmd p w o j)
      by (under z) l = absurd (none_open z)
      by (top e q) l =
          let t = v.mid.main in
          let st = (u.static (reactor w main_at) (in_reactor p v.mid.good.tiles t)).0 in
          let low = skips_d p w main_at j (omega arith) (v.mid.two main_at t) in
          rw (← e) (declares_nothing p w [] B₀ rd w main_at (own p w main_at j) (cmd p w main_at j) (st.in_d j low))

module _ (p : List ℕ) (rules : Rules p) (w : List ℕ) (few : length w ≤ most_words) (image : SoundImage p w)
    (t : Input) where
  abbrev u : Facts p
  u = Core.known p rules w few image t

  pub equations_hold : {s : State} → During p w t s → StateEquations p t.readings w s
  equations_hold d = by d.comes
    where
      by : {s : State} → Reach p t.readings (begun p w) s → StateEquations p t.readings w s
      by stay = begun_equations p u t.readings w (Core.begun_holds p rules w few image t)
      by (on {t = y} r e) =
          by_pile p u t.readings w y.pile
          (Core.holds p rules w few image t (record { allowed = d.allowed; comes = r })) (by r) e
