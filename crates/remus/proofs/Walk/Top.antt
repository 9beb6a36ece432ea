-- The topmost deployment, and what is behind and entered before and after its next command, as it leaves, and as
-- another is opened on it.
use Rattle.std.specs.Prelude.{ℕ, ◌+◌, ◌≤◌, ◌<◌, ◌≡◌, refl, ◌⊎◌, ◌≢◌, List, ◌∷◌}
use Rattle.std.proofs.Common.{sym, ◌∙◌, inl, inr}
use Rattle.std.proofs.Math.Logic.{⊎_map}
use Rattle.std.specs.Prelude.{length}
use Rattle.std.proofs.Common.{arith}
use Rattle.value.proofs.Tests.{same?}
use Rattle.program.specs.Bytes.{commands_in}
use Rattle.program.specs.Command.{Cmd, sequence_of, D, alloc_mono, make_poly, supply, react, sink, alloc_poly, cell, keep}
use Rattle.program.specs.Command.{none, gives}
use Rattle.image.specs.Memory.{reactor}
use Rattle.image.specs.Sound.{Deployed, Depth}
use Rattle.image.proofs.Memory.Changes.{Change, This-slot, unchanged}
use Rattle.image.proofs.Memory.Slots.{SlotRight}
use Rattle.remus.specs.Walk.{Note, run, Frame}
use Rattle.remus.specs.Point.{◌∈◌, first, later}
use Rattle.remus.proofs.Walk.MidTurn.{Done}
use Rattle.remus.proofs.Walk.Pile.{frame, state, Open, first as top, later as under, Falling, on, falls, Entered}
use Rattle.remus.proofs.Walk.Pile.{Behind, Heights, stack, FrameOk, Piled, Inv}

pub run_out : {a o : ℕ} {ns : List Note} → run a ∈ (run o ∷ ns) → (a ≡ o) ⊎ (run a ∈ ns)
run_out first = inl refl
run_out (later z) = inr z

-- deployments stay, with their reactors
pub record Onward (p m m' : List ℕ) : Type 0 where
  pub kept : (d : ℕ) → Deployed p m d → Deployed p m' d
  pub reactors : (d : ℕ) → Deployed p m d → reactor m' d ≡ reactor m d

pub onward_self : {p m : List ℕ} → Onward p m m
onward_self = record { kept = λ d t. t; reactors = λ d t. refl }

pub onward_on : {p m m₁ m' : List ℕ} → Onward p m m₁ → Onward p m₁ m' → Onward p m m'
onward_on f g =
    record {
      kept = λ d t. g.kept d (f.kept d t);
      reactors = λ d t. g.reactors d (f.kept d t) ∙ f.reactors d t;
    }

module _ (p : List ℕ) where
  pub onward : {W : ℕ → ℕ → Type 0} {N L : ℕ → Type 0} {m m' : List ℕ} → Change p W N L m m' → Onward p m m'
  onward c = record { kept = c.kept; reactors = c.reactors }

  -- a D command is done where its slot is right
  pub done_right : (m : List ℕ) (ns : List Note) (E : ℕ → Type 0) (o l : ℕ) (c : Cmd) → sequence_of c ≡ D →
      Done p m ns E o l c → SlotRight p m o l c
  unfolding sequence_of
  done_right m ns E o l (alloc_mono x) e d = d
  done_right m ns E o l (make_poly x) e d = d
  done_right m ns E o l (cell x v) e d = d
  done_right m ns E o l (gives g) e d = let z : ◌≡◌ {A = ℕ} 0 1 = cc in absurd (omega arith)
  done_right m ns E o l (supply x a b) e d = let z : ◌≡◌ {A = ℕ} 0 1 = cc in absurd (omega arith)
  done_right m ns E o l (react b) e d = let z : ◌≡◌ {A = ℕ} 0 1 = cc in absurd (omega arith)
  done_right m ns E o l (sink x a) e d = let z : ◌≡◌ {A = ℕ} 0 1 = cc in absurd (omega arith)
  done_right m ns E o l (alloc_poly a b) e d = let z : ◌≡◌ {A = ℕ} 0 1 = cc in absurd (omega arith)
  done_right m ns E o l (keep a b) e d = let z : ◌≡◌ {A = ℕ} 0 1 = cc in absurd (omega arith)
  done_right m ns E o l none e d = let z : ◌≡◌ {A = ℕ} 0 1 = cc in absurd (omega arith)

  pub right_done : (m : List ℕ) (ns : List Note) (E : ℕ → Type 0) (o l : ℕ) (c : Cmd) →
      SlotRight p m o l c → Done p m ns E o l c
  right_done m ns E o l (alloc_mono x) d = d
  right_done m ns E o l (make_poly x) d = d
  right_done m ns E o l (cell x v) d = d
  right_done m ns E o l (gives g) d = absurd d
  right_done m ns E o l (supply x a b) d = absurd d
  right_done m ns E o l (react b) d = absurd d
  right_done m ns E o l (sink x a) d = absurd d
  right_done m ns E o l (alloc_poly a b) d = absurd d
  right_done m ns E o l (keep a b) d = absurd d
  right_done m ns E o l none d = absurd d

  module _ {W : ℕ → ℕ → Type 0} {N L : ℕ → Type 0} {m m' : List ℕ} {ns : List Note} {pile : List Frame}
      (c : Change p W N L m m') (q : Piled p m pile ns) where
    -- the same pile and notes on other words
    pub behind_on : (o j : ℕ) → Behind p m pile ns o j → Behind p m' pile ns o j
    behind_on o j (inl b) = inl b
    behind_on o j (inr b) = inr (b.0, rw (c.reactors o (q.ran o b.0).0) b.1)

    pub behind_off : (o j : ℕ) → Behind p m' pile ns o j → Behind p m pile ns o j
    behind_off o j (inl b) = inl b
    behind_off o j (inr b) = inr (b.0, rw (c.reactors o (q.ran o b.0).0) at b.1)

  -- ---- the topmost deployment

  pub lower_falls : {u : ℕ} {f : Frame} {fs : List Frame} → Falling u (f ∷ fs) → Falling f.at fs
  lower_falls (on h k) = k

  pub lower_heights : {m : List ℕ} {f : Frame} {fs : List Frame} → Heights p m (f ∷ fs) →
      Depth p m f.at (length fs + 1) × Heights p m fs
  lower_heights (stack n d h) = (d, h)

  module _ {w m : List ℕ} {ns : List Note} {o i : ℕ} {fs : List Frame} (v : Inv p w (state m (frame o i ∷ fs) ns)) where
    pub top_frame : FrameOk p m o i
    top_frame = v.piled.frames o i (top refl refl)

    pub top_only : (k : ℕ) → Open o k (frame o i ∷ fs) → k ≡ i
    top_only k (top e q) = sym q
    top_only k (under z) = absurd (let l = falls (lower_falls v.piled.falling) z in omega arith)

    pub top_high : (d k : ℕ) → Open d k (frame o i ∷ fs) → d ≤ o
    top_high d k (top e q) = omega arith
    top_high d k (under z) = let l = falls (lower_falls v.piled.falling) z in omega arith

    -- the next command is not behind
    pub not_behind : Behind p m (frame o i ∷ fs) ns o i → ⊥
    not_behind (inl b) = let e = top_only b.0 b.1 in omega (arith, b.2)
    not_behind (inr b) = v.piled.apart o i (top refl refl) b.0

    pub behind_less : (j : ℕ) → j < i → Behind p m (frame o i ∷ fs) ns o j
    behind_less j h = inl (i, top refl refl, h)

    -- a deployment above the topmost is not open
    pub not_open : (d : ℕ) → o < d → Entered (frame o i ∷ fs) ns d → run d ∈ ns
    not_open d h (inl k) = absurd (let l = top_high d k.0 k.1 in omega arith)
    not_open d h (inr k) = k

  -- ---- the step of the topmost's next command

  module _ {o i : ℕ} {fs : List Frame} where
    pub opens_on : (d k : ℕ) → Open d k (frame o i ∷ fs) → (h : ℕ) × Open d h (frame o (i + 1) ∷ fs) × (k ≤ h)
    opens_on d k (top e q) = (i + 1, top e refl, omega arith)
    opens_on d k (under z) = (k, under z, omega arith)

    pub opens_off : (d k : ℕ) → Open d k (frame o (i + 1) ∷ fs) → ((o ≡ d) × (i + 1 ≡ k)) ⊎ Open d k (frame o i ∷ fs)
    opens_off d k (top e q) = inl (e, q)
    opens_off d k (under z) = inr (under z)

  module _ {W : ℕ → ℕ → Type 0} {N L : ℕ → Type 0} {m m' : List ℕ} {ns ns' : List Note} {o i : ℕ} {fs : List Frame}
      (c : Change p W N L m m') (q : Piled p m (frame o i ∷ fs) ns) (more : (n : Note) → n ∈ ns → n ∈ ns')
      (runs : (d : ℕ) → run d ∈ ns' → run d ∈ ns) where
    pub next_behind : (a j : ℕ) → Behind p m (frame o i ∷ fs) ns a j → Behind p m' (frame o (i + 1) ∷ fs) ns' a j
    next_behind a j (inl b) = let z = opens_on a b.0 b.1 in inl (z.0, z.1, omega (arith, z.2, b.2))
    next_behind a j (inr b) = inr (more _ b.0, rw (c.reactors a (q.ran a b.0).0) b.1)

    pub just_behind : (a j : ℕ) → Behind p m' (frame o (i + 1) ∷ fs) ns' a j →
        Behind p m (frame o i ∷ fs) ns a j ⊎ This-slot p o i a j
    just_behind a j (inr b) = let r = runs a b.0 in inl (inr (r, rw (c.reactors a (q.ran a r).0) at b.1))
    just_behind a j (inl b) = by b.1 b.2
      where
        by : {k : ℕ} → Open a k (frame o (i + 1) ∷ fs) → j < k →
            Behind p m (frame o i ∷ fs) ns a j ⊎ This-slot p o i a j
        by {k} (under z) l = inl (inl (k, under z, l))
        by {k} (top e z) l = side (same? j i)
          where
            side : (j ≡ i) ⊎ (j ≢ i) → Behind p m (frame o i ∷ fs) ns a j ⊎ This-slot p o i a j
            side (inl y) = inr (sym e, y)
            side (inr y) = inl (inl (i, top e refl, omega arith))

    pub next_entered : (d : ℕ) → Entered (frame o i ∷ fs) ns d → Entered (frame o (i + 1) ∷ fs) ns' d
    next_entered d (inl k) = let z = opens_on d k.0 k.1 in inl (z.0, z.1)
    next_entered d (inr k) = inr (more _ k)

    pub same_entered : (d : ℕ) → Entered (frame o (i + 1) ∷ fs) ns' d → Entered (frame o i ∷ fs) ns d
    same_entered d (inr k) = inr (runs d k)
    same_entered d (inl k) = by k.1
      where
        by : {h : ℕ} → Open d h (frame o (i + 1) ∷ fs) → Entered (frame o i ∷ fs) ns d
        by (top e z) = inl (i, top e refl)
        by {h} (under z) = inl (h, under z)

  -- ---- what is behind as the topmost leaves, and as one is opened on it

  module _ {w m : List ℕ} {ns : List Note} {o i : ℕ} {fs : List Frame} (v : Inv p w (state m (frame o i ∷ fs) ns)) where
    module _ (e : i ≡ commands_in p (reactor m o)) where
      pub leave_forth : (a j : ℕ) → Behind p m (frame o i ∷ fs) ns a j → Behind p m fs (run o ∷ ns) a j
      leave_forth a j (inr b) = inr (later b.0, b.1)
      leave_forth a j (inl b) = left b.1 b.2
        where
          left : {k : ℕ} → Open a k (frame o i ∷ fs) → j < k → Behind p m fs (run o ∷ ns) a j
          left (top z y) l = inr (rw (← z) first, rw (← z) (omega arith))
          left {k} (under z) l = inl (k, z, l)

      pub leave_back : (a j : ℕ) → Behind p m fs (run o ∷ ns) a j → Behind p m (frame o i ∷ fs) ns a j
      leave_back a j (inl b) = inl (b.0, under b.1, b.2)
      leave_back a j (inr b) = was (run_out b.0) b.1
        where
          was : (a ≡ o) ⊎ (run a ∈ ns) → j < commands_in p (reactor m a) → Behind p m (frame o i ∷ fs) ns a j
          was (inl z) l =
              inl (i, top (sym z) refl, let l₂ : j < commands_in p (reactor m o) = rw z at l in omega arith)
          was (inr z) l = inr (z, l)

    -- d is opened, with command k next
    module _ (d k : ℕ) where
      pub call_forth : (a j : ℕ) → Behind p m (frame o i ∷ fs) ns a j
          → Behind p m (frame d k ∷ frame o (i + 1) ∷ fs) ns a j
      call_forth a j (inl b) = let l = opens_on a b.0 b.1 in inl (l.0, under l.1, omega (arith, l.2, b.2))
      call_forth a j (inr b) = inr b

      pub call_back : (a j : ℕ) → Behind p m (frame d k ∷ frame o (i + 1) ∷ fs) ns a j
          → Behind p m (frame o i ∷ fs) ns a j ⊎ (This-slot p o i a j ⊎ ((a ≡ d) × (j < k)))
      call_back a j (inr b) = inl (inr b)
      call_back a j (inl b) = by b.1 b.2
        where
          by : {n : ℕ} → Open a n (frame d k ∷ frame o (i + 1) ∷ fs) → j < n
              → Behind p m (frame o i ∷ fs) ns a j ⊎ (This-slot p o i a j ⊎ ((a ≡ d) × (j < k)))
          by (top z y) l = inr (inr (sym z, omega arith))
          by {n} (under z) l =
              ⊎_map (λ x. x) inl
              (just_behind (unchanged p v.mid.good) v.piled (λ x y. y) (λ x y. y) a j (inl (n, z, l)))
