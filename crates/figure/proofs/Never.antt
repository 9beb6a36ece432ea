-- At an allocation in a turn, with bounds as 4.31 has them and ranks that fall along the steps: the words then in use
-- are within main's bound, and the depth within main's rank (`allocation_fits`).
use Rattle.std.specs.Prelude.{ℕ, ◌+◌, ◌≤◌, ◌<◌, ◌≡◌, refl, ◌⊎◌, ◌≢◌, false, List}
use Rattle.std.proofs.Common.{sym, ◌∙◌, ap, subst, inl, inr}
use Rattle.std.specs.Prelude.{◌∷◌, length}
use Rattle.std.proofs.Common.{arith}
use Rattle.value.specs.Value.{is_blank}
use Rattle.program.specs.Bytes.{reactors, most_reactors, commands_d, commands_in, main_of}
use Rattle.program.specs.Command.{Cmd, alloc_mono, alloc_poly, deployment}
use Rattle.program.specs.Location.{command_loc, size_of}
use Rattle.image.specs.Memory.{most_words, main_at, used, reactor, mark, content, value_at}
use Rattle.image.specs.Sound.{Deployed, OnChain, MonoSlot, PointSlot, Names, by_mono, by_point, Owner, Depth, top}
use Rattle.image.specs.Sound.{child}
use Rattle.image.proofs.Memory.Tiles.{in_to, in_reactor}
use Rattle.image.proofs.Memory.Slots.{member, MadeOrBlank, blank_names}
use Rattle.image.proofs.Exact.Tiling.{Laid}
use Rattle.image.proofs.Exact.SlotTests.{made_mono, made_point}
use Rattle.remus.specs.Walk.{Note, Frame}
use Rattle.remus.specs.Point.{Allocation, mono, poly}
use Rattle.remus.proofs.Walk.Facts.{Facts}
use Rattle.remus.proofs.Walk.MidTurn.{cmd}
use Rattle.remus.proofs.Walk.Pile.{frame, state, Inv, not_zero}
use Rattle.remus.proofs.Walk.Top.{top_frame, not_behind, lower_heights}
use Rattle.remus.proofs.Walk.Operands.{static_here, value_kind, point_here}
use Rattle.remus.proofs.Walk.Choosing.{named_reactor}
use Rattle.figure.specs.Steps.{Step, by_mono as step_mono, by_point as step_point, Needed}
use Rattle.figure.specs.Bound.{bound_by}
use Rattle.figure.proofs.Closure.{needed_on}
use Rattle.figure.proofs.Room.{Spare, mono_spare, point_spare, room}

module _ (p : List ℕ) (u : Facts p) (few : reactors p ≤ most_reactors) {w m : List ℕ} (small : length w ≤ most_words)
    {ns : List Note} {o i : ℕ} {fs : List Frame} (v : Inv p w (state m (frame o i ∷ fs) ns))
    (h : i < commands_in p (reactor m o)) where
  laid : Laid p m
  laid = record {
    few = few;
    small = omega (arith, v.len);
    fits = v.mid.good.fits;
    some = in_to p v.mid.main;
    tiles = v.mid.good.tiles;
  }

  t₀ : Deployed p m o
  t₀ = (top_frame p v).deployed

  -- ---- owners and steps

  -- what a D slot names is of a reactor that its owner's leads to
  names_step : (a j d : ℕ) → j < commands_d p (reactor m a) → MadeOrBlank p m a j → d ≢ 0 → Names p m a j d
      → Step p (reactor m a) (reactor m d)
  names_step a j d l (inr e) n k = absurd (n (blank_names p e k))
  names_step a j d l (inl r) n (by_mono x e q) =
      let s : MonoSlot p m a (command_loc p (reactor m a) j) x = rw e at r in
      step_mono j l (made_mono e ∙ ap deployment (sym s.its ∙ ap (reactor m) q))
  names_step a j d l (inl r) n (by_point x e q) =
      let s : PointSlot p m a (command_loc p (reactor m a) j) x = rw e at r in
      let k = member p s.chain q in
      step_point j x l (made_point e) (in_reactor p laid.tiles k.deployed) k.shape

  owner_step : {a j d : ℕ} → d ≢ 0 → Owner p m a j d → Step p (reactor m a) (reactor m d)
  owner_step {a} {j} {d} n k = names_step a j d k.low (v.mid.made a j k.deployed k.low) n k.names

  depth_needed : {d k : ℕ} → d ≢ 0 → Depth p m d k → Needed p (reactor m d)
  depth_needed n top = inl v.mid.first
  depth_needed n (child j k q) = needed_on p (depth_needed (not_zero p k.deployed) q) (owner_step n k)

  needed : (d : ℕ) → Deployed p m d → Needed p (reactor m d)
  needed d t = depth_needed (not_zero p t) (v.mid.depth d t).1

  depth_owner : {d k : ℕ} → Depth p m d k → (d ≡ main_at) ⊎ ((a : ℕ) × (j : ℕ) × Owner p m a j d)
  depth_owner top = inl refl
  depth_owner (child {o = a} j k q) = inr (a, j, k)

  -- ---- the next command's allocation, b the bounds

  module _ (b : ℕ → ℕ) where
    -- a D command of o by which its reactor leads to q, and whose share has room for q
    record Slot (q : ℕ) : Type 0 where
      at : ℕ
      low : at < commands_d p (reactor m o)
      spare : Spare p m b o at (b q)
      step : Step p (reactor m o) q

    mono_slot : (q : ℕ) → cmd p m o i ≡ alloc_mono q → Slot q
    mono_slot q e =
        let l = ((static_here p u v h).monos i q h e).0 in
        let z = v.mid.fresh o i t₀ ((top_frame p v).raw l) l (not_behind p v) in
        record { at = i; low = l; spare = mono_spare p m b laid o i q e z; step = step_mono i l (made_mono e) }

    poly_slot : (a c : ℕ) → cmd p m o i ≡ alloc_poly a c → is_blank (value_at p m o a) ≡ false
        → ((d : ℕ) → OnChain p m (content p m o c) d → reactor m d ≢ content p m o a) → Slot (content p m o a)
    unfolding value_at
    poly_slot a c e filled missing =
        let f = (static_here p u v h).polys i a c h e in
        let s = f.1.0 in
        let k = f.1.1 in
        let kind = f.1.2 in
        let q = content p m o a in
        let its = named_reactor p s (mark p m o a) q filled (rw kind at (value_kind p u v h a f.0)) in
        let slot = subst (λ (l : ℕ). PointSlot p m o l s) k.3 (point_here p u v h s c k) in
        let out = subst (λ (l : ℕ). (d : ℕ) → OnChain p m (content p m o l) d → reactor m d ≢ q) k.3 missing in
        record {
          at = k.0;
          low = k.2;
          spare = point_spare p m b laid o k.0 s q k.4 slot its.0 its.1 out;
          step = step_point k.0 s k.2 (made_point k.4) its.0 its.1;
        }

    slot_of : {q : ℕ} (c : Cmd) → cmd p m o i ≡ c → Allocation p m o c q → Slot q
    slot_of {q} c e mono = mono_slot q e
    slot_of c e (poly {a = a} {b = d} f g) = poly_slot a d e f g

    module _ (bounds : (r : ℕ) → Needed p r → b r ≡ bound_by p b r) (rank : ℕ → ℕ)
        (falls : (r q : ℕ) → Needed p r → Step p r q → rank q < rank r) where
      rank_depth : {d k : ℕ} → d ≢ 0 → Depth p m d k → rank (reactor m d) + k ≤ rank (main_of p) + 1
      rank_depth n top = omega (arith, ap rank v.mid.first)
      rank_depth n (child {o = a} {d = d} j k q) =
          let z = not_zero p k.deployed in
          omega (arith, rank_depth z q, falls (reactor m a) (reactor m d) (depth_needed z q) (owner_step n k))

      pub allocation_fits : {q : ℕ} (c : Cmd) → cmd p m o i ≡ c → Allocation p m o c q
          → (used m + size_of p q ≤ main_at + b (main_of p)) × (length fs + 1 ≤ rank (main_of p))
      unfolding bound_by
      allocation_fits {q} c e x =
          let s = slot_of c e x in
          let n = needed o t₀ in
          let all = room p m b laid v.mid.made (λ d t. depth_owner (v.mid.depth d t).1)
          (λ d t. bounds (reactor m d) (needed d t)) o s.at (b q) t₀ s.low s.spare in
          let f = rank_depth (not_zero p t₀) (lower_heights p v.piled.heights).0 in (
            omega (arith, bounds q (needed_on p n s.step), ap b v.mid.first),
            omega (arith, falls (reactor m o) q n s.step),
          )
