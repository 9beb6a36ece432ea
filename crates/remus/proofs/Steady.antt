-- A turn of an accepted program on a sound image is steady: `steady`. The walk's invariant holds before each command of
-- the recursive run, since the walk comes there with the run's words. Assumes nothing.
use Rattle.std.specs.Prelude.{ℕ, zero, suc, ◌+◌, ◌-◌, ◌≤◌, ◌<◌, ◌≡◌, refl, ◌⊎◌, List, [], ◌∷◌, ◌++◌}
use Rattle.std.proofs.Common.{◌∙◌, inl, inr}
use Rattle.std.specs.Prelude.{length}
use Rattle.std.proofs.Common.{arith}
use Rattle.program.specs.Bytes.{reactors, commands_in}
use Rattle.program.specs.Command.{Cmd, cmd_of, bytes_of, supply, consume, gives}
use Rattle.program.specs.Location.{command_loc, size_of}
use Rattle.program.proofs.Decode.{by_code}
use Rattle.load.specs.Rules.{ZeroBytes, Rules}
use Rattle.load.proofs.Exact.Static.{ValueBefore, source, made, DeploymentBefore, mono, poly, CellBefore, Static}
use Rattle.image.specs.Memory.{most_depth, main_at, reactor, size_at}
use Rattle.image.specs.Sound.{Deployed, SoundImage}
use Rattle.image.proofs.Memory.Changes.{Good}
use Rattle.image.proofs.Memory.Tiles.{in_ge, in_to, in_fits, in_reactor}
use Rattle.remus.specs.Exec.{Eff, move, call, fail, eff, opening, ready}
use Rattle.remus.specs.Run.{ran, entered, step_of, run_of}
use Rattle.remus.specs.Turn.{asked_of}
use Rattle.std.specs.Prelude.{Ok}
use Rattle.remus.specs.Walk.{Note, Frame, notes_of, onto, begun}
use Rattle.remus.specs.Steady.{ReadsUpTo, Fits, Through, Orderly, Steady}
use Rattle.remus.proofs.Walk.Facts.{Facts, facts}
use Rattle.remus.proofs.Walk.Pile.{frame, state, Inv, height_bound}
use Rattle.remus.proofs.Walk.Top.{Onward, onward_on, top_frame}
use Rattle.remus.proofs.Walk.StepsKeep.{ready_kept}
use Rattle.remus.proofs.Walk.Walking.{Legal}
use Rattle.remus.proofs.Walk.Readings.{globals_legal}
use Rattle.remus.proofs.Walk.Begin.{begun_holds}
use Rattle.remus.proofs.Walk.Choosing.{operator_named}
use Rattle.remus.proofs.Walk.Points.{can_here}
use Rattle.remus.proofs.Walk.Meets.{Meets, acting, kept, reached, run_meets}

-- ---- what a command reads

module _ (p : List ℕ) (r : ℕ) (s : Static p r) (i : ℕ) (h : i < commands_in p r) where
  abbrev Low : ℕ → Type 0
  Low a = a ≤ command_loc p r i

  earlier : {a : ℕ} (j : ℕ) → j < i → a ≡ command_loc p r j → Low a
  unfolding command_loc
  earlier j l e = omega arith

  value : {a : ℕ} → ValueBefore p r i a → Low a
  value (source l) = unfold command_loc in omega arith
  value (made j l e g) = earlier j l e

  deployment : {k b : ℕ} → DeploymentBefore p r i k b → Low b
  deployment (mono j x l e q z) = earlier j l e
  deployment (poly j a y l e q z) = earlier j l e

  a_cell : {k b : ℕ} → CellBefore p r i k b → Low b
  a_cell c = earlier c.index c.before c.place

  -- an operand that a primitive may take
  taken : {k n a : ℕ} → (k < n) ⊎ ValueBefore p r i a → (k < n → a ≡ 0) → Low a
  taken (inl l) z = let e = z l in omega arith
  taken (inr v) z = value v

  reads_up_to : ZeroBytes (bytes_of p r i) (cmd_of p r i) → ReadsUpTo (command_loc p r i) (cmd_of p r i)
  unfolding cmd_of
  reads_up_to =
      let bs = bytes_of p r i in
      by_code (λ (c : Cmd). cmd_of p r i ≡ c → ZeroBytes bs c → ReadsUpTo (command_loc p r i) c) bs
      (λ _ e z. tt) (λ _ e z. tt) (λ _ e z. tt) (λ _ e z. tt)
      (λ _ e z. let f = s.supplies i _ _ _ h e in (value f.0, deployment f.1.1))
      (λ _ e z. deployment (s.reacts i _ h e).1)
      (λ _ e z. deployment (s.consumes i _ _ h e).1)
      (λ _ e z. value (s.sinks_of_lem i _ _ h e).0)
      (λ _ e z. let f = s.polys i _ _ h e in let b = f.1.1 in (value f.0, earlier b.0 b.1 b.3))
      (λ _ e z. let f = s.primitives i _ _ _ _ h e in (value f.1, taken f.2 z.3, taken f.3 z.4))
      (λ _ e z. tt)
      (λ _ e z. a_cell (s.fetches i _ h e).0)
      (λ _ e z. let f = s.keeps i _ _ h e in (value f.0, a_cell f.1))
      (λ _ e z. tt) refl

-- ---- the run

module _ (p : List ℕ) (rules : Rules p) where
  known : Facts p
  known = facts p rules

  low : {w m : List ℕ} {o i : ℕ} {fs : List Frame} {ns : List Note} → Inv p w (state m (frame o i ∷ fs) ns)
      → reactor m o < reactors p
  low v = in_reactor p v.mid.good.tiles (top_frame p v).deployed

  -- a deployment of r has its words
  has_words_lem : {m : List ℕ} {o r : ℕ} → Good p m → Deployed p m o → reactor m o ≡ r → o + size_of p r ≤ length m
  unfolding size_at
  has_words_lem g d e = rw (← e) (let a = in_fits p g.tiles d in let b = g.fits in omega arith)

  -- the topmost's next command
  module _ {w m : List ℕ} {o i : ℕ} {fs : List Frame} {ns : List Note}
      (v : Inv p w (state m (frame o i ∷ fs) ns)) (h : i < commands_in p (reactor m o)) where
    fits : Fits p (reactor m o) (ready p m o i) o i
    fits =
        let k = ready_kept p known v h in
        let l : i < commands_in p (reactor (ready p m o i) o) = rw k.same h in
        let t = (top_frame p k.inv).deployed in
        let s = (known.static (reactor m o) (low v)).0 in
        record {
          same = k.same;
          above = in_ge p t;
          below = in_to p t;
          within = has_words_lem k.inv.mid.good t k.same;
          declares = s.in_d i;
          runs = λ d. s.in_r i d h;
          reads = reads_up_to p (reactor m o) s i h ((rules.every_reactor (reactor m o) (low v)).zero_bytes i h);
          allocates = λ x e. (s.monos i x h e).1;
          operators = λ a b e z. (operator_named p known k.inv l k.wired_then a b (rw k.same e) z).0;
          supplies = λ x a b e z. ((can_here p known k.inv l (supply x a b) (rw k.same e)).1 z).0;
          consumes = λ x b e z.
              let c = can_here p known k.inv l (gives (consume x b)) (rw k.same e) in
              in_reactor p k.inv.mid.good.tiles (k.inv.piled.ran _ (c.1 z).1).0;
        }

    module _ (rd : List ℕ) (legal : Legal p rd) where
      abbrev height : ℕ
      height = suc (length fs)

      abbrev notes : List Note
      notes = notes_of p (ready p m o i) o i (cmd_of p (reactor m o) i) ++ ns

      -- the invariant where it calls a deployment (`called`), and before the next command (`past`)
      called : (m' : List ℕ) (d : ℕ) → eff p rd height m o i ≡ call m' d
          → Inv p w (state m' (frame d (opening p m' d) ∷ frame o (i + 1) ∷ fs) notes) × Onward p m m'
      unfolding onto
      called m' d q = kept p rd known legal v (acting p rd m o i fs ns h (call m' d) q)

      past : (f : ℕ) → 65 ≤ f + height + 1 → (m' : List ℕ) (x : Eff) → eff p rd height m o i ≡ x
          → entered (run_of f p rd (height + 1)) (ready p m o i) x ≡ ran m'
          → (ns' : List Note) × Inv p w (state m' (frame o (i + 1) ∷ fs) ns') × (reactor m' o ≡ reactor m o)
      unfolding entered onto
      past f b m' (move m₂) q e =
          let z : m₂ ≡ m' = cc in
          let k = kept p rd known legal v (acting p rd m o i fs ns h (move m₂) q) in
          rw (← z) (notes, k.0, k.1.reactors o (top_frame p v).deployed)
      past f b m' (call m₂ d) q e =
          let k = called m₂ d q in
          let lower = frame o (i + 1) ∷ fs in
          let g = run_meets p rd known legal f (height + 1) m₂ d lower notes k.0 (omega arith) (omega arith) in
          let g₂ : Meets p rd _ lower (ran m') = rw e at g in
          let l = reached p rd known legal k.0 g₂.1 in
          (g₂.0, l.0, (onward_on k.1 l.1).reactors o (top_frame p v).deployed)
      past f b m' (fail y) q e = let z : ◌≡◌ {A = ℕ} 0 1 = cc in absurd (omega arith)

  module _ (rd : List ℕ) (legal : Legal p rd) {w : List ℕ} where
    -- the commands of o, with f levels left for what they call
    module _ (f o r : ℕ) (fs : List Frame) (b : 65 ≤ f + suc (length fs) + 1)
        (nested : (m : List ℕ) (d i : ℕ) (ns : List Note)
        → Inv p w (state m (frame d (opening p m d) ∷ frame o i ∷ fs) ns)
        → Steady p rd f (suc (length fs) + 1) m d) where
      abbrev above : ℕ
      above = suc (length fs)

      through : (n i : ℕ) (m : List ℕ) (ns : List Note) → Inv p w (state m (frame o i ∷ fs) ns) → reactor m o ≡ r
          → i + n ≡ commands_in p r → Through (step_of (run_of f p rd (above + 1)) p rd above o)
          (Orderly p rd (Steady p rd f (above + 1)) above r o) n i m
      unfolding Through step_of
      through zero i m ns v q e = tt
      through (suc n) i m ns v q e =
          let h : i < commands_in p (reactor m o) = rw q (omega arith) in (
            record {
              same = q;
              fits = rw q at (fits v h);
              calls = λ m₂ d z. nested m₂ d (i + 1) _ (called v h rd legal m₂ d z).0;
            },
            λ m' z.
                let k = past v h rd legal f b m' (eff p rd above m o i) refl z in
                through n (i + 1) m' k.0 k.1 (k.2 ∙ q) (omega arith),
          )

    run_steady : (f h : ℕ) (m : List ℕ) (o : ℕ) (fs : List Frame) (ns : List Note)
        → Inv p w (state m (frame o (opening p m o) ∷ fs) ns) → suc (length fs) ≡ h → 65 ≤ f + h → Steady p rd f h m o
    unfolding Steady
    run_steady zero h m o fs ns v e l = let k : suc (length fs) ≤ 64 = height_bound p v in omega arith
    run_steady (suc f) h m o fs ns v e l =
        rw (← e) (
          low v,
          through f o (reactor m o) fs (omega arith)
              (λ m₂ d i ns₂ v₂. run_steady f _ m₂ d (frame o i ∷ fs) ns₂ v₂ (omega arith) (omega arith))
              (commands_in p (reactor m o) - opening p m o) (opening p m o) m ns v refl
              (let b = (top_frame p v).bound in omega arith),
        )

-- main's run in a turn that 10 to 13 do not refuse
pub steady : (p : List ℕ) → Rules p → (w rd sk : List ℕ) → SoundImage p w → asked_of p w rd sk ≡ Ok tt
    → Steady p rd most_depth 1 w main_at
unfolding begun
steady p rules w rd sk sound asked =
    run_steady p rules rd (globals_legal p w rd sk asked) most_depth 1 w main_at [] []
    (begun_holds p (facts p rules) w sound) refl (omega arith)
