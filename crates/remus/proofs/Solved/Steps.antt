-- Every command of the walk keeps the equations, and adds its own (`every_command`). Here those that open, make or
-- choose a deployment; the others are in Commands.
use Rattle.std.specs.Prelude.{ℕ, zero, suc, ◌+◌, ◌-◌, ◌≤◌, ◌<◌, ◌≡◌, refl, ◌⊎◌, Bool, true}
use Rattle.std.proofs.Common.{sym, ◌∙◌, inl, inr}
use Rattle.std.specs.Prelude.{false, List, ◌∷◌, ◌++◌, length}
use Rattle.std.proofs.Common.{arith}
use Rattle.value.specs.Test.{◌≤?◌}
use Rattle.value.specs.Value.{deployment_mark, point_mark, mark_of, value, blank, is_blank}
use Rattle.value.specs.declared.Value.{Value}
use Rattle.value.proofs.Tests.{clash, eq?}
use Rattle.program.specs.Bytes.{reactors, commands_d, commands_in}
use Rattle.program.specs.Command.{Cmd, takes_words, sequence_of, D, alloc_mono, make_poly, supply, react, sink, alloc_poly}
use Rattle.program.specs.Command.{cell, keep, none, gives}
use Rattle.program.specs.Location.{size_of}
use Rattle.program.proofs.Slots.{slot_d, slot_command, takes_mono, takes_point, takes_poly, takes_cell, takes_keep}
use Rattle.load.proofs.Exact.Static.{PointBefore}
use Rattle.image.specs.Memory.{used, reactor, wired, content, value_at, store, deploy}
use Rattle.image.specs.Sound.{Deployed}
use Rattle.image.proofs.Memory.Tiles.{in_reactor}
use Rattle.image.proofs.Memory.Changes.{Change, This-slot, Stored, stored, stored_value, unchanged, follow}
use Rattle.image.proofs.Memory.Changes.{value_content}
use Rattle.image.proofs.Memory.Slots.{member}
use Rattle.remus.specs.Cells.{pending}
use Rattle.remus.specs.Exec.{there, allocated, branched, chosen, operated, reacted, exec, opening}
use Rattle.remus.specs.Walk.{Note, location, Frame, notes_of}
use Rattle.remus.specs.Point.{later}
use Rattle.remus.proofs.Walk.Facts.{Facts}
use Rattle.remus.proofs.Walk.MidTurn.{own, cmd}
use Rattle.remus.proofs.Walk.Pile.{frame, state, Behind, Inv}
use Rattle.remus.proofs.Walk.Top.{top_frame, call_forth, call_back}
use Rattle.remus.proofs.Walk.StepsKeep.{opening_raw, opening-wired}
use Rattle.remus.proofs.Walk.Operands.{static_here, some_command, target_here}
use Rattle.remus.proofs.Walk.Stores.{run_past}
use Rattle.remus.proofs.Walk.Grown.{grown}
use Rattle.remus.proofs.Walk.Find.{Found, found}
use Rattle.remus.proofs.Walk.CommandsD.{has_room}
use Rattle.remus.proofs.Walk.Branch.{shape, pt, slot}
use Rattle.remus.proofs.Walk.Choosing.{operator_named}
use Rattle.remus.proofs.Walk.Locations.{own_one, own_no_source, own_no_sink, not_poly}
use Rattle.remus.proofs.Solved.Equations.{deployment, Final, by_command, by_source, by_sink, Held, Equation}
use Rattle.remus.proofs.Solved.Equations.{Equations, equation_on}
use Rattle.remus.proofs.Solved.Next.{value_held, own_spared, still, own_held, equations_next}
use Rattle.remus.proofs.Solved.Commands.{Then, After, Says, own_on, give_on, skip_on, supply_on, sink_on}

-- a D command has no equation
pub declares_nothing : (p m : List ℕ) (ns : List Note) (B : ℕ → ℕ → Type 0) (rd w : List ℕ) (o l : ℕ) (c : Cmd)
    → sequence_of c ≡ D → Equation p m ns B rd w o l c
unfolding sequence_of
declares_nothing p m ns B rd w o l (alloc_mono x) e = tt
declares_nothing p m ns B rd w o l (make_poly x) e = tt
declares_nothing p m ns B rd w o l (cell x a) e = tt
declares_nothing p m ns B rd w o l (gives y) e = let z : ◌≡◌ {A = ℕ} 0 1 = cc in absurd (omega arith)
declares_nothing p m ns B rd w o l (supply x a b) e = let z : ◌≡◌ {A = ℕ} 0 1 = cc in absurd (omega arith)
declares_nothing p m ns B rd w o l (react b) e = tt
declares_nothing p m ns B rd w o l (sink x a) e = let z : ◌≡◌ {A = ℕ} 0 1 = cc in absurd (omega arith)
declares_nothing p m ns B rd w o l (alloc_poly a b) e = let z : ◌≡◌ {A = ℕ} 0 1 = cc in absurd (omega arith)
declares_nothing p m ns B rd w o l (keep a b) e = tt
declares_nothing p m ns B rd w o l none e = tt

-- where D is skipped as d is opened, command y is in it
pub skips_d : (p m : List ℕ) (d y : ℕ) → y < opening p m d → (wired m d ≡ 0) ⊎ (wired m d ≡ 1)
    → y < commands_d p (reactor m d)
skips_d p m d y l (inl z) = absurd (omega (arith, opening_raw p m d z))
skips_d p m d y l (inr z) = omega (arith, opening-wired p m d z)

module _ (p : List ℕ) (u : Facts p) (rd : List ℕ) {w m : List ℕ} {ns : List Note} {o i : ℕ} {fs : List Frame}
    (v : Inv p w (state m (frame o i ∷ fs) ns)) (h : i < commands_in p (reactor m o))
    (qs : Equations p m ns (Behind p m (frame o i ∷ fs) ns) rd w) where
  abbrev B₀ : ℕ → ℕ → Type 0
  B₀ = Behind p m (frame o i ∷ fs) ns

  abbrev here : ℕ
  here = own p m o i

  abbrev height : ℕ
  height = suc (length fs)

  t₀ : Deployed p m o
  t₀ = (top_frame p v).deployed

  -- ---- React opens d: D is behind if it is skipped

  opens_on : (b d : ℕ) → cmd p m o i ≡ react b → Deployed p m d
      → Equations p m ns (Behind p m (frame d (opening p m d) ∷ frame o (i + 1) ∷ fs) ns) rd w
  opens_on b d e t a y z = by (call_back p v d (opening p m d) a y z)
    where
      B₁ : ℕ → ℕ → Type 0
      B₁ = Behind p m (frame d (opening p m d) ∷ frame o (i + 1) ∷ fs) ns

      by : B₀ a y ⊎ (This-slot p o i a y ⊎ ((a ≡ d) × (y < opening p m d)))
          → Equation p m ns B₁ rd w a (own p m a y) (cmd p m a y)
      by (inl k) =
          equation_on p (unchanged p v.mid.good) (λ d l f z. z) (λ n z. z) (call_forth p v d (opening p m d))
          rd w a (own p m a y) (v.mid.scope a y k).0 (cmd p m a y) (qs a y k)
      by (inr (inl k)) = let e₁ = k.0 in let e₂ = k.1 in rw (e₁, e₂, e) tt
      by (inr (inr k)) =
          let e₁ = k.0 in
          let st = (u.static (reactor m d) (in_reactor p v.mid.good.tiles t)).0 in
          rw e₁
          (declares_nothing p m ns B₁ rd w d (own p m d y) (cmd p m d y)
          (st.in_d y (skips_d p m d y k.1 (v.mid.two d t))))

  react_on : (b : ℕ) (t : Bool) → there p m o b ≡ t → cmd p m o i ≡ react b
      → After p rd w o i fs ns (reacted p rd height m o i t b)
  unfolding reacted there
  react_on b false q e = skip_on p u rd v h qs e tt
  react_on b true q e =
      let f = (static_here p u v h).reacts i b h e in
      opens_on b (content p m o b) e (target_here p u v h f.0 b f.1 (eq? q)).deployed

  -- ---- a value in its own slot, of which there is no equation

  written : (x : Value) → takes_words (cmd p m o i) ≡ true → Stored p m o here x (store p m o here x)
  written x takes = stored p m o here x v.mid.good t₀ (slot_command p (reactor m o) i h takes)

  -- a D command's
  point_on : (x : ℕ) → cmd p m o i ≡ make_poly x → Then p rd w o i fs (store p m o here (value point_mark 0)) ns
  point_on x e = own_on p u rd v h qs (written _ (takes_point e)).change (λ n z. z) (λ d z. z) e tt

  cell_on : (x a : ℕ) → cmd p m o i ≡ cell x a → Then p rd w o i fs (store p m o here (value (mark_of x) a)) ns
  cell_on x a e = own_on p u rd v h qs (written _ (takes_cell e)).change (λ n z. z) (λ d z. z) e tt

  keep_on : (a b : ℕ) → cmd p m o i ≡ keep a b
      → Then p rd w o i fs (store p m o here (pending (value_at p m o a))) (location o b ∷ ns)
  keep_on a b e =
      own_on p u rd v h qs (written _ (takes_keep e)).change (λ n z. later z) (λ d z. run_past z) e tt

  -- ---- a deployment is made

  module _ (then : commands_d p (reactor m o) ≤ i → wired m o ≡ 1) where
    mono_on : (x : ℕ) → cmd p m o i ≡ alloc_mono x → (s t : Bool) → (size_of p x ≤? length m - used m) ≡ t
        → After p rd w o i fs ns (allocated p rd height m o i s t x)
    unfolding allocated
    mono_on x e true t f = tt
    mono_on x e false false f = tt
    mono_on x e false true f =
        let low = ((static_here p u v h).monos i x h e).1 in
        let g = grown p m x 0 o here (value deployment_mark (used m)) v.mid.good low (has_room p u v h then x f) t₀
        (slot_command p (reactor m o) i h (takes_mono e)) in
        own_on p u rd v h qs g.change (λ n z. z) (λ d z. z) e tt

    module _ (a b : ℕ) (e : cmd p m o i ≡ alloc_poly a b) where
      abbrev ns₁ : List Note
      ns₁ = location o here ∷ ns

      -- the operator
      q₀ : Held p m ns B₀ o a (value_at p m o a)
      q₀ = value_held p u v h a ((static_here p u v h).polys i a b h e).0

      -- the branch point's slot is not final
      point_spared : (d l : ℕ) → Final p m ns B₀ d l → This-slot p o b d l → ⊥
      point_spared d l f z = by f
        where
          f₀ : PointBefore p (reactor m o) i (shape p u v h then a b e) b
          f₀ = pt p u v h then a b e

          e₁ : d ≡ o
          e₁ = z.0

          e₂ : own p m o f₀.0 ≡ l
          e₂ = sym f₀.3 ∙ sym z.1

          by : Final p m ns B₀ d l → ⊥
          by (by_command j q n k) =
              let y = own_one p (reactor m o) j f₀.0 (rw e₁ at n ∙ sym e₂) in
              k (shape p u v h then a b e) (rw (e₁, y) f₀.4)
          by (by_source k n) = own_no_source p (reactor m o) f₀.0 l e₂ (rw e₁ at k)
          by (by_sink x q n) =
              own_no_sink p (reactor m o) f₀.0 x (omega (arith, f₀.1)) (e₂ ∙ sym (rw e₁ at q))

      -- a change after which the slot holds x
      module _ {W : ℕ → ℕ → Type 0} {N L : ℕ → Type 0} {m' : List ℕ} (c : Change p W N L m m')
          (spared : (d l : ℕ) → Final p m ns B₀ d l → W d l → ⊥) (x : Value) (is : value_at p m' o here ≡ x) where
        abbrev B₁ : ℕ → ℕ → Type 0
        B₁ = Behind p m' (frame o (i + 1) ∷ fs) ns₁

        says : (Held p m' ns₁ B₁ o here x → Says p rd w o i fs m' ns₁ here (alloc_poly a b)) → Then p rd w o i fs m' ns₁
        says f =
            equations_next p u v h c spared (λ n z. later z) (λ d z. run_past z) rd qs
            (rw e (f (own_held p u v h c spared (λ n z. later z) (λ d z. run_past z) x (takes_poly e)
            (λ y n. not_poly a b y (sym e ∙ n)) is)))

        operator_kept_lem : Held p m' ns₁ B₁ o a (value_at p m o a)
        operator_kept_lem = still p u v h c spared (λ n z. later z) (λ d z. run_past z) q₀

      -- it holds the deployment d
      names_on : {W : ℕ → ℕ → Type 0} {N L : ℕ → Type 0} {m' : List ℕ} (c : Change p W N L m m')
          → ((d l : ℕ) → Final p m ns B₀ d l → W d l → ⊥) → (d : ℕ) → value_at p m' o here ≡ deployment d
          → Deployed p m' d → reactor m' d ≡ content p m o a → is_blank (value_at p m o a) ≡ false
          → Then p rd w o i fs m' ns₁
      names_on c spared d is t r f =
          says c spared (deployment d) is (λ k. (
            value_at p m o a,
            operator_kept_lem c spared (deployment d) is,
            λ z. absurd (clash z f),
            λ z. (d, k, t, r ∙ value_content p m o a refl),
          ))

      branched_on : content p m o a < reactors p → is_blank (value_at p m o a) ≡ false → (s t : Bool)
          → (size_of p (content p m o a) ≤? length m - used m) ≡ t
          → After p rd w o i fs ns₁ (branched p rd height m o i s t (content p m o a) b)
      unfolding branched
      branched_on low full true t f = tt
      branched_on low full false false f = tt
      branched_on low full false true f =
          let q = content p m o a in
          let at = pt p u v h then a b e in
          let z = at.3 in
          let g = grown p m q (content p m o b) o b (value point_mark (used m)) v.mid.good low
          (has_room p u v h then q f) t₀ (rw z (slot_d p (reactor m o) at.0 at.2)) in
          let m₂ = store p (deploy p m q (content p m o b)) o b (value point_mark (used m)) in
          let s = stored p m₂ o here (deployment (used m)) g.change.good (g.change.kept o t₀)
          (rw (g.change.reactors o t₀) (slot_command p (reactor m o) i h (takes_poly e))) in
          names_on (follow p g.change s.change) both_spared (used m) (stored_value p s)
          (s.change.kept (used m) g.new) (s.change.reactors (used m) g.new ∙ g.reactor_new) full
        where
          both_spared : (d l : ℕ) → Final p m ns B₀ d l → This-slot p o b d l ⊎ This-slot p o here d l → ⊥
          both_spared d l f (inl z) = point_spared d l f z
          both_spared d l f (inr z) = own_spared p u v h d l f z

      chosen_on : (x : ℕ) → Found p m (content p m o b) (content p m o a) x → content p m o a < reactors p
          → is_blank (value_at p m o a) ≡ false
          → After p rd w o i fs ns₁ (chosen p rd height m o i x (content p m o a) b)
      unfolding chosen
      chosen_on zero f low full = branched_on low full _ _ refl
      chosen_on (suc d) f low full =
          let s = written (deployment (suc d)) (takes_poly e) in
          let k = f.hit (omega arith) in
          let t = (member p (slot p u v h then a b e).chain k.0).deployed in
          names_on s.change (own_spared p u v h) (suc d) (stored_value p s) (s.change.kept (suc d) t)
          (s.change.reactors (suc d) t ∙ k.1) full

      poly_on : (t : Bool) → is_blank (value_at p m o a) ≡ t
          → After p rd w o i fs ns₁ (operated p rd height m o i t (content p m o a) b)
      unfolding operated
      poly_on true f =
          let s = written blank (takes_poly e) in
          says s.change (own_spared p u v h) blank (stored_value p s) (λ k. (
            value_at p m o a,
            operator_kept_lem s.change (own_spared p u v h) blank (stored_value p s),
            λ z. k,
            λ z. absurd (clash f z),
          ))
      poly_on false f =
          chosen_on _
          (found p m (content p m o a) v.mid.good.tiles (content p m o b) (slot p u v h then a b e).chain)
          (operator_named p u v h then a b e f).0 f

    -- ---- every command

    pub every_command : (c : Cmd) → cmd p m o i ≡ c
        → After p rd w o i fs (notes_of p m o i c ++ ns) (exec p rd height m o i c)
    unfolding exec notes_of
    every_command (alloc_mono x) e = mono_on x e _ _ refl
    every_command (make_poly x) e = point_on x e
    every_command (cell x a) e = cell_on x a e
    every_command (gives y) e = give_on p u rd v h qs y e
    every_command (supply x a b) e = supply_on p u rd v h qs x a b _ refl e
    every_command (react b) e = react_on b _ refl e
    every_command (sink x a) e = sink_on p u rd v h qs x a e
    every_command (alloc_poly a b) e = poly_on a b e _ refl
    every_command (keep a b) e = keep_on a b e
    every_command none e = absurd (some_command p u v h e)
