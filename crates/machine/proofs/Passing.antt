-- A pass over the deployments that changes each in its own words, and the loops over D slots, R commands and
-- sinks, one step further.
-- Assumes nothing.
use Rattle.std.specs.Prelude.{ℕ, zero, suc, ◌+◌, ◌-◌, ◌*◌, ◌≤◌, ◌<◌, ◌≡◌, refl, Bool, true, false, List}
use Rattle.std.proofs.Common.{sym, ◌∙◌, ap}
use Rattle.std.specs.Prelude.{[], ◌∷◌, length, set}
use Rattle.std.proofs.Common.{arith}
use lib.ListN.{length-set}
use Rattle.value.specs.Test.{◌<?◌, ◌=?◌, guard}
use Rattle.value.specs.Value.{value}
use Rattle.value.specs.declared.Value.{Value}
use Rattle.program.specs.Bytes.{reactors, commands_d, commands_r, main_of, commands_in}
use Rattle.program.specs.Command.{Cmd, decode, point, made_by, cmd_of}
use Rattle.program.specs.declared.Command.{Command}
use Rattle.program.proofs.Decode.{as_make, by_code}
use Rattle.program.specs.Location.{command_loc, sink_loc, size_of}
use Rattle.image.specs.Memory.{main_at, word, reactor, slot, mark, content, size_at, starts_from, patch}
use Rattle.image.specs.Passes.{over, tiles_from}
use Rattle.image.specs.Clauses.{Tiling, Follows, starts_on}
use Rattle.image.proofs.Tiles.{starts_done, follows}
use Rattle.remus.specs.Cells.{keep_by, keep_from, keep_one}
use Rattle.remus.specs.Clear.{pairs_from}
use Rattle.remus.specs.Undo.{slot_back, slots_back}
use Rattle.machine.specs.Clauses.{Local, Remembering}
use Rattle.machine.proofs.Clears.{local_by, local_slot}
use Rattle.machine.proofs.Stretch.{patch_cons, patch_none}

-- ---- the deployments

module _ (p m m' : List ℕ) (b : ℕ) (same : (i : ℕ) → b ≤ i → word m' i ≡ word m i) where
  same_size : (a : ℕ) → b ≤ a → size_at p m' a ≡ size_at p m a
  unfolding size_at reactor
  same_size a h = ap (size_of p) (same a h)

  starts_same : (n u a : ℕ) → b ≤ a → starts_from p n m' u a ≡ starts_from p n m u a
  unfolding starts_from
  starts_same zero u a h = refl
  starts_same (suc n) u a h = rw (same_size a h)
      (ap (λ (l : List ℕ). guard (a <? u) [] (λ _. a ∷ l)) (starts_same n u (a + size_at p m a) (omega arith)))

  tiles_same : (n u a : ℕ) → b ≤ a → tiles_from p m' n u a ≡ tiles_from p m n u a
  unfolding tiles_from reactor
  tiles_same zero u a h = refl
  tiles_same (suc n) u a h =
      rw (same_size a h, same a h)
      (ap (λ (t : Bool). guard (a <? u) (a =? u) (λ _. guard (word m a <? reactors p) false (λ _. t)))
      (tiles_same n u (a + size_at p m a) (omega arith)))

module _ (p : List ℕ) (m : List ℕ) (u a : ℕ) where
  module _ (t : Tiling p m u a) (l : a < u) (n : ℕ) (e : n ≡ size_at p m a) where
    next : Follows p m u a (a + n)
    next = follows p m u a t l (a + n) (ap (λ (k : ℕ). a + k) e)

    pub pass_within : a + n ≤ u
    pass_within = next.within

    pub pass_rises : u - (a + n) < u - a
    pass_rises = omega (arith, next.rises)

    -- the pass f goes on from the words m' that it leaves of m
    pub pass_next : (f : List ℕ → ℕ → List ℕ) (m' : List ℕ) (k : ℕ) (x : List ℕ)
        → m' ≡ f m a → Local p m a (f m a) → length m ≡ k → over f m (starts_on p m u a) ≡ x
        → (length m' ≡ k) × Tiling p m' u (a + n) × (over f m' (starts_on p m' u (a + n)) ≡ x)
    unfolding over
    pass_next f m' k x q c h g =
        let same : (i : ℕ) → a + n ≤ i → word (f m a) i ≡ word m i = (λ i d. c.rest i (omega arith)) in
        let d : length (f m a) ≡ length m = c.long in
        let tiled : tiles_from p (f m a) (length m) u (a + n) ≡ true =
        tiles_same p m (f m a) (a + n) same (length m) u (a + n) (omega arith) ∙ next.tiling.tiled in
        let rest : over f (f m a) (starts_on p (f m a) u (a + n)) ≡ over f m (starts_on p m u a) =
        rw (next.here, d, starts_same p m (f m a) (a + n) same (length m) u (a + n) (omega arith)) in
        rw q (d ∙ h, record { fits = rw d t.fits; tiled = rw d tiled }, rest ∙ g)

  pub pass_legal : Tiling p m u a → a < u → reactor m a < reactors p
  pass_legal t l = (next t l (size_at p m a) refl).legal

  pub pass_inside : Tiling p m u a → a < u → a + size_at p m a ≤ length m
  pass_inside t l = let g = pass_within t l (size_at p m a) refl in omega (arith, t.fits)

  pub pass_done : (f : List ℕ → ℕ → List ℕ) → u ≤ a → m ≡ over f m (starts_on p m u a)
  unfolding over
  pass_done f h = rw (starts_done p m u a h)

-- ---- the D slots of one

module _ (p : List ℕ) (u n j : ℕ) (m : List ℕ) (o : ℕ) where
  -- z are the words once slot j is brought back
  pub slots_next : (z : List ℕ) (r : ℕ) (x : List ℕ) → j < n → n ≡ commands_d p r → reactor m o ≡ r
      → z ≡ slot_back p u m o (command_loc p (reactor m o) j) (made_by (cmd_of p (reactor m o) j))
      → slots_back p u (n - j) j m o ≡ x → (reactor z o ≡ r) × (slots_back p u (n - (j + 1)) (j + 1) z o ≡ x)
  unfolding slots_back
  slots_next z r x h d e f g =
      let k : n - j ≡ suc (n - (j + 1)) = omega arith in
      let low : j < commands_d p (reactor m o) = rw e (omega arith) in
      let same : reactor z o ≡ reactor m o = rw f (local_slot p u o m j _ low).same in
      (same ∙ e, rw f (rw k at g))

  pub slots_done : n ≤ j → m ≡ slots_back p u (n - j) j m o
  unfolding slots_back
  slots_done h = let e : n - j ≡ 0 = omega arith in rw e

-- ---- the R commands of one

module _ (p : List ℕ) (m : List ℕ) (o n : ℕ) where
  pub keeps_first : n ≡ commands_r p (reactor m o)
      → keep_from p (n - 0) (commands_d p (reactor m o) + 0) m o ≡ keep_one p m o
  unfolding keep_one
  keeps_first e =
      let k : n - 0 ≡ commands_r p (reactor m o) = omega arith in
      let i : commands_d p (reactor m o) + 0 ≡ commands_d p (reactor m o) = omega arith in
      rw (k, i)

  pub keeps_done : (i j : ℕ) → n ≤ j → m ≡ keep_from p (n - j) i m o
  unfolding keep_from
  keeps_done i j h = let e : n - j ≡ 0 = omega arith in rw e

  -- z are the words once what R command j kept is in its cell
  module _ (known : Remembering p) (r j : ℕ) (low : r < reactors p) (count : n ≡ commands_r p r) where
    pub keeps_next : reactor m o ≡ r → (z x : List ℕ) → j < n
        → z ≡ keep_by p m o (command_loc p (reactor m o) (commands_d p r + j)) (cmd_of p r (commands_d p r + j))
        → keep_from p (n - j) (commands_d p r + j) m o ≡ x
        → (reactor z o ≡ r) × (keep_from p (n - (j + 1)) (commands_d p r + (j + 1)) z o ≡ x)
    unfolding keep_from commands_in
    keeps_next same z x h e g =
        let k : n - j ≡ suc (n - (j + 1)) = omega arith in
        let i : commands_d p r + (j + 1) ≡ commands_d p r + j + 1 = omega arith in
        let c = commands_d p r + j in
        let step : z ≡ keep_by p m o (command_loc p (reactor m o) c) (cmd_of p (reactor m o) c) = rw same (rw same at e) in
        let kept = local_by p o known m c _ (rw same low) (rw same (omega arith)) in
        (rw step kept.same ∙ same, rw (i, step) (rw k at g))

-- ---- what the code of a D command says of its slot

module _ (p : List ℕ) (u : ℕ) (m : List ℕ) (o l : ℕ) (c : Command) where
  pub slot_point : {z : List ℕ} → c.code ≡ 2 → z ≡ slot_back p u m o l (point c.x)
      → z ≡ slot_back p u m o l (made_by (decode c))
  unfolding made_by
  slot_point f h = as_make (λ (d : Cmd). slot_back p u m o l (made_by d)) c f h

  pub slot_other : (c.code ≡ 2 → ⊥) → m ≡ slot_back p u m o l (made_by (decode c))
  unfolding slot_back made_by
  slot_other f =
      by_code (λ (d : Cmd). m ≡ slot_back p u m o l (made_by d)) c (λ q. refl) (λ q. absurd (f q)) (λ q. refl) (λ q. refl)
      (λ q. refl) (λ q. refl) (λ q. refl) (λ q. refl) (λ q. refl) (λ q. refl) (λ q. refl) (λ q. refl) (λ q. refl)
      (λ q. refl)

-- ---- main's sinks

module _ (p m sk : List ℕ) (n x : ℕ) where
  -- v the sink x, whose words lie at i
  pub sinks_next : (v : Value) (i : ℕ) → reactor m main_at ≡ main_of p
      → i ≡ slot p m main_at (sink_loc p (reactor m main_at) x) → v ≡ value (word m i) (word m (i + 1)) → x < n
      → 2 * n ≤ length sk
      → patch (set (set sk (2 * x) v.mark) (2 * x + 1) v.content) (2 * (x + 1))
      (pairs_from p (n - (x + 1)) (x + 1) m)
      ≡ patch sk (2 * x) (pairs_from p (n - x) x m)
  unfolding pairs_from mark content
  sinks_next v i g f e h k =
      let s : n - x ≡ suc (n - (x + 1)) = omega arith in
      let t : 2 * (x + 1) ≡ 2 * x + 1 + 1 = omega arith in
      let q : 2 * x + 1 < length (set sk (2 * x) (word m i)) = simp length-set (omega arith) in
      rw (s, t, e, ← g, ← f) (patch_cons _ (2 * x + 1) _ _ q ∙ patch_cons sk (2 * x) _ _ (omega arith))

  pub sinks_done : n ≤ x → sk ≡ patch sk (2 * x) (pairs_from p (n - x) x m)
  unfolding pairs_from
  sinks_done h = let s : n - x ≡ 0 = omega arith in rw s (sym (patch_none sk (2 * x)))
