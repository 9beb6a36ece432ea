-- The pile, and the invariant of a turn's states: `Inv`. A command is behind if its
-- deployment is open past it, or has run.
use Rattle.std.specs.Prelude.{ℕ, ◌+◌, ◌≤◌, ◌<◌, ◌≡◌, refl, ◌⊎◌, ◌≢◌, List, [], ◌∷◌, length}
use Rattle.std.proofs.Common.{inl, inr, arith}
use Rattle.program.specs.Bytes.{commands_d, commands_in}
use Rattle.image.specs.Memory.{most_depth, main_at, used, turns, reactor, wired}
use Rattle.image.specs.Sound.{Deployed, Owner, Depth}
use Rattle.image.proofs.Memory.Tiles.{in_ge}
use Rattle.image.proofs.Memory.Slots.{made_names, depth_forth, depth_one}
use Rattle.remus.specs.Walk.{Note, run, Frame, State}
use Rattle.remus.specs.Point.{◌∈◌}
use Rattle.remus.proofs.Walk.MidTurn.{MidTurn}
use Rattle.remus.proofs.Walk.Step.{Step}

abbrev pub frame : ℕ → ℕ → Frame
frame o i = record { at = o; next = i }

abbrev pub state : List ℕ → List Frame → List Note → State
state m fs ns = record { words = m; pile = fs; notes = ns }

-- o is open, with command i next
pub data Open (o i : ℕ) : List Frame → Type 0 where
  first : {f : Frame} {fs : List Frame} → f.at ≡ o → f.next ≡ i → Open o i (f ∷ fs)
  later : {f : Frame} {fs : List Frame} → Open o i fs → Open o i (f ∷ fs)

pub none_open : {o i : ℕ} → Open o i [] → ⊥
none_open = elim [ ]

pub no_note : {n : Note} → n ∈ [] → ⊥
no_note = elim [ ]

-- addresses fall from u on
pub data Falling : ℕ → List Frame → Type 0 where
  grounded : {u : ℕ} → Falling u []
  on : {u : ℕ} {f : Frame} {fs : List Frame} → f.at < u → Falling f.at fs → Falling u (f ∷ fs)

pub falls : {u o i : ℕ} {fs : List Frame} → Falling u fs → Open o i fs → o < u
falls {o = o} {i = i} (grounded {u = u}) z = elim z [ ]
falls (on h w) (first e q) = rw (← e) h
falls (on {f = f} h w) (later z) = let k = falls w z in omega arith

abbrev pub Entered : List Frame → List Note → ℕ → Type 0
Entered pile ns d = ((i : ℕ) × Open d i pile) ⊎ (run d ∈ ns)

module _ (p : List ℕ) where
  abbrev pub Behind : List ℕ → List Frame → List Note → ℕ → ℕ → Type 0
  Behind m pile ns o j = ((i : ℕ) × Open o i pile × (j < i)) ⊎ ((run o ∈ ns) × (j < commands_in p (reactor m o)))

  -- a step from one pile to another, with their notes
  abbrev pub Between : (m m' : List ℕ) (fs fs' : List Frame) (ns ns' : List Note) (W T F : ℕ → ℕ → Type 0)
      (N L G : ℕ → Type 0) (o₀ j₀ : ℕ) → Type 0
  Between m m' fs fs' ns ns' = Step p m m' ns ns' (Behind m fs ns) (Behind m' fs' ns') (Entered fs ns) (Entered fs' ns')

  pub behind_lower : (m : List ℕ) (pile : List Frame) (ns : List Note) (o j k : ℕ) → Behind m pile ns o j →
      k < j → Behind m pile ns o k
  behind_lower m pile ns o j k (inl b) h = let l = b.2 in inl (b.0, b.1, omega arith)
  behind_lower m pile ns o j k (inr b) h = let l = b.1 in inr (b.0, omega arith)

  -- the deployment at height h of the pile has depth h
  pub data Heights (m : List ℕ) : List Frame → Type 0 where
    flat : Heights m []
    stack : {f : Frame} {fs : List Frame} → f.at ≢ 0 → Depth p m f.at (length fs + 1) →
        Heights m fs → Heights m (f ∷ fs)

  pub heights_forth : {m m' : List ℕ} → ((o j d : ℕ) → d ≢ 0 → Owner p m o j d → Owner p m' o j d) → {fs : List Frame} →
      Heights m fs → Heights m' fs
  heights_forth f flat = flat
  heights_forth f (stack n d h) = stack n (depth_forth p f n d) (heights_forth f h)

  pub record FrameOk (m : List ℕ) (o i : ℕ) : Type 0 where
    pub deployed : Deployed p m o
    pub bound : i ≤ commands_in p (reactor m o)
    pub raw : i < commands_d p (reactor m o) → wired m o ≡ 0
    pub wired_past : commands_d p (reactor m o) < i → wired m o ≡ 1

  pub record Piled (m : List ℕ) (pile : List Frame) (ns : List Note) : Type 0 where
    pub falling : Falling (used m) pile
    pub heights : Heights m pile
    pub frames : (o i : ℕ) → Open o i pile → FrameOk m o i
    pub apart : (o i : ℕ) → Open o i pile → run o ∈ ns → ⊥
    pub ran : (d : ℕ) → run d ∈ ns → Deployed p m d × (wired m d ≡ 1)
    pub main_in : Entered pile ns main_at

  -- w are the words before the turn
  pub record Inv (w : List ℕ) (s : State) : Type 0 where
    pub mid : MidTurn p s.words s.notes (Behind s.words s.pile s.notes) (Entered s.pile s.notes)
    pub piled : Piled s.words s.pile s.notes
    pub len : length s.words ≡ length w
    pub clock : turns s.words ≡ turns w

  pub not_zero : {m : List ℕ} {d : ℕ} → Deployed p m d → d ≢ 0
  not_zero t = let q = in_ge p t in omega arith

  -- the pile is at most 64 high
  pub height_bound : {w : List ℕ} {s : State} → Inv w s → length s.pile ≤ most_depth
  height_bound {w} {s} v = by s.pile v.piled.heights (λ o i z. (v.piled.frames o i z).deployed)
    where
      above : (o j d : ℕ) → Deployed p s.words d → Owner p s.words o j d → o < d
      above o j d t k = (made_names p (v.mid.made o j k.deployed k.low) (not_zero t) k.names).1

      by : (fs : List Frame) → Heights s.words fs →
          ((o i : ℕ) → Open o i fs → Deployed p s.words o) → length fs ≤ most_depth
      by [] h f = omega arith
      by (g ∷ gs) (stack n x h) f =
          let t = f g.at g.next (first refl refl) in
          let q = v.mid.depth g.at t in
          let e = depth_one p v.mid.one_owner above refl t x q.1 in
          omega (arith, q.2)
