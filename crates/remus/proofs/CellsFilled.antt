-- The end of a completed turn: what waits in the Keeps' slots goes into their cells (`kept_all`, `cell_then`). Every
-- other slot stays (`kept_alike`), and what is whole stays whole (`kept_whole`), so that clearing leaves a sound image
-- (`finished_sound`).
use Rattle.std.specs.Prelude.{ℕ, zero, suc, ◌+◌, ◌≤◌, ◌<◌, ◌≡◌, refl, ◌⊎◌, ◌≢◌, true}
use Rattle.std.proofs.Common.{sym, ◌∙◌, ap, subst, inl, inr}
use Rattle.std.specs.Prelude.{false, List}
use Rattle.std.proofs.Common.{arith}
use Rattle.value.specs.Test.{pick}
use Rattle.value.specs.Value.{blank, is_blank}
use Rattle.value.specs.declared.Value.{Value}
use Rattle.value.proofs.Tests.{cases, yes, no, eq!, same?, below}
use Rattle.program.specs.Bytes.{reactors, commands_d, commands_r, commands_in}
use Rattle.program.specs.Command.{Cmd, cmd_of, sequence_of, alloc_mono, make_poly, supply, react}
use Rattle.program.specs.Command.{sink, alloc_poly, cell, keep, none, gives}
use Rattle.program.specs.Location.{command_loc, cmd_at, HasSlot}
use Rattle.program.specs.Kind.{kind_of, OfKind}
use Rattle.program.proofs.Slots.{slot_d, slot_command, takes_keep}
use Rattle.load.proofs.Exact.Static.{Static, Single, cell_command, cell_slot}
use Rattle.load.proofs.Exact.Places.{cmd_there}
use Rattle.image.specs.Memory.{most_turns, main_at, used, turns, reactor, value_at, store, size_at}
use Rattle.image.specs.Sound.{Deployed, CellSlot, SoundImage}
use Rattle.image.proofs.Whole.{Whole}
use Rattle.image.proofs.Memory.Tiles.{size_at_lem, in_reactor, apart, in_ge}
use Rattle.image.proofs.Memory.Each.{in_below, each}
use Rattle.image.proofs.Memory.Changes.{Good, Same, same_self, same_on, Change, Nothing, This-slot, Stored, stored}
use Rattle.image.proofs.Memory.Changes.{stored_value, unwritten, unwired, unchanged, follow, change_as, same_value}
use Rattle.image.proofs.Memory.Alike.{Alike, alike_grown}
use Rattle.remus.specs.Cells.{kept, keep_by, keep_from, keep_one, keep_of}
use Rattle.remus.specs.Clear.{finished}
use Rattle.remus.proofs.Finished.{cleared}
use Rattle.remus.proofs.Walk.Facts.{r_late}
use Rattle.remus.proofs.Walk.ChangeParts.{or_none}
use Rattle.remus.proofs.Walk.MidTurn.{own, cmd, Pends, KeepAt, CellAt, Keepable}
use Rattle.remus.proofs.Walk.Locations.{declared_in}

-- a Keep, or a command by which nothing is kept
pub data Keeps? (c : Cmd) : Type 0 where
  a_keep : (a b : ℕ) → c ≡ keep a b → Keeps? c
  no_keep : ((p m : List ℕ) (o l : ℕ) → keep_by p m o l c ≡ m) → ((a b : ℕ) → c ≢ keep a b) → Keeps? c

keeps? : (c : Cmd) → Keeps? c
unfolding keep_by
keeps? (alloc_mono x) = no_keep (λ p m o l. refl) (λ a b e. let z : ◌≡◌ {A = ℕ} 0 1 = cc in omega arith)
keeps? (make_poly x) = no_keep (λ p m o l. refl) (λ a b e. let z : ◌≡◌ {A = ℕ} 0 1 = cc in omega arith)
keeps? (cell x v) = no_keep (λ p m o l. refl) (λ a b e. let z : ◌≡◌ {A = ℕ} 0 1 = cc in omega arith)
keeps? (gives y) = no_keep (λ p m o l. refl) (λ a b e. let z : ◌≡◌ {A = ℕ} 0 1 = cc in omega arith)
keeps? (supply x a b) = no_keep (λ p m o l. refl) (λ a b e. let z : ◌≡◌ {A = ℕ} 0 1 = cc in omega arith)
keeps? (react b) = no_keep (λ p m o l. refl) (λ a b e. let z : ◌≡◌ {A = ℕ} 0 1 = cc in omega arith)
keeps? (sink x a) = no_keep (λ p m o l. refl) (λ a b e. let z : ◌≡◌ {A = ℕ} 0 1 = cc in omega arith)
keeps? (alloc_poly a b) = no_keep (λ p m o l. refl) (λ a b e. let z : ◌≡◌ {A = ℕ} 0 1 = cc in omega arith)
keeps? (keep a b) = a_keep a b refl
keeps? none = no_keep (λ p m o l. refl) (λ a b e. let z : ◌≡◌ {A = ℕ} 0 1 = cc in omega arith)

-- the words m once cells have what was kept
abbrev pub kept_in : List ℕ → List ℕ → List ℕ
kept_in p m = keep_of p (used m) m

-- what cell b of d holds then, command j its Keep
abbrev pub held_then : List ℕ → List ℕ → ℕ → ℕ → ℕ → Value
held_then p m d j b =
    pick (is_blank (value_at p m d (own p m d j))) (value_at p m d b) (kept (value_at p m d (own p m d j)))

module _ (p : List ℕ) (known : (r : ℕ) → r < reactors p → Static p r × Single p r) (m : List ℕ) (good : Good p m) where
  -- location l of d is a cell's
  abbrev pub IsCell : ℕ → ℕ → Type 0
  IsCell d l = (x : ℕ) × (v : ℕ) × (cmd_at p (reactor m d) l ≡ cell x v)

  static : (d : ℕ) → Deployed p m d → Static p (reactor m d)
  static d t = (known (reactor m d) (in_reactor p good.tiles t)).0

  single : (d : ℕ) → Deployed p m d → Single p (reactor m d)
  single d t = (known (reactor m d) (in_reactor p good.tiles t)).1

  -- a Keep's cell, and that its own slot is none
  cell_of : {d j a b : ℕ} → KeepAt p m d j a b → IsCell d b × HasSlot p (reactor m d) b
  cell_of {d} {j} {a} {b} k =
      let c = ((static d k.deployed).keeps j a b k.inside k.is).1 in (
        (kind_of p (reactor m d) b, c.bits, cell_command p (reactor m d) c (omega (arith, k.inside))),
        cell_slot p (reactor m d) c,
      )

  keep_no_cell : {d j a b : ℕ} → KeepAt p m d j a b → IsCell d (own p m d j) → ⊥
  keep_no_cell {d} {j} {a} {b} k c =
      let q : keep a b ≡ cell c.0 c.1 = sym k.is ∙ sym (cmd_there p (reactor m d) j k.inside) ∙ c.2 in
      let z : ◌≡◌ {A = ℕ} 0 1 = cc in
      omega arith

  -- command j of e comes before command i of d, or not
  abbrev Before : ℕ → ℕ → ℕ → ℕ → Type 0
  Before d i e j = (e < d) ⊎ ((e ≡ d) × (j < i))

  abbrev After : ℕ → ℕ → ℕ → ℕ → Type 0
  After d i e j = (d < e) ⊎ ((e ≡ d) × (i ≤ j))

  -- s is m with what the Keeps before command i of d kept
  pub record Upto (d i : ℕ) (s : List ℕ) : Type 0 where
    pub change : Change p IsCell (Nothing p) (Nothing p) m s
    pub size : used s ≡ used m
    pub done : (e j a b : ℕ) → KeepAt p m e j a b → Before d i e j → value_at p s e b ≡ held_then p m e j b
    pub rest : (e j a b : ℕ) → KeepAt p m e j a b → After d i e j → Same p m s e b

  module _ (d : ℕ) (t : Deployed p m d) where
    -- one command more
    past_other : {i e j : ℕ} → Before d (i + 1) e j → Before d i e j ⊎ ((e ≡ d) × (j ≡ i))
    past_other (inl h) = inl (inl h)
    past_other {i} {e} {j} (inr h) = by (same? j i)
      where
        by : (j ≡ i) ⊎ (j ≢ i) → Before d i e j ⊎ ((e ≡ d) × (j ≡ i))
        by (inl q) = inr (h.0, q)
        by (inr q) = inl (inr (h.0, omega (arith, h.1)))

    ahead_other : {i e j : ℕ} → After d (i + 1) e j → After d i e j
    ahead_other (inl h) = inl h
    ahead_other {i} {e} {j} (inr h) = inr (h.0, omega (arith, h.1))

    -- nothing is kept by command i
    skipped : (i : ℕ) (s : List ℕ) → Upto d i s → ((a b : ℕ) → cmd p m d i ≢ keep a b) → Upto d (i + 1) s
    skipped i s u n =
        record {
          change = u.change;
          size = u.size;
          done = λ e j a b k z. by e j a b k (past_other z);
          rest = λ e j a b k z. u.rest e j a b k (ahead_other z);
        }
      where
        by : (e j a b : ℕ) → KeepAt p m e j a b → Before d i e j ⊎ ((e ≡ d) × (j ≡ i))
            → value_at p s e b ≡ held_then p m e j b
        by e j a b k (inl z) = u.done e j a b k z
        by e j a b k (inr z) = let z₀ = z.0 in let z₁ = z.1 in absurd (n a b (rw (z₀, z₁) at k.is))

    module _ (i a b : ℕ) (k : KeepAt p m d i a b) (s : List ℕ) (u : Upto d i s) where
      -- what waits in the Keep's own slot
      abbrev x : Value
      x = value_at p m d (own p m d i)

      -- the slot is as it was
      own_same : value_at p s d (own p m d i) ≡ x
      own_same =
          same_value p d (own p m d i)
          (unwritten p u.change d (own p m d i) t (slot_command p (reactor m d) i k.inside (takes_keep k.is))
          (keep_no_cell k))

      -- and so is its cell
      cell_same : value_at p s d b ≡ value_at p m d b
      cell_same = same_value p d b (u.rest d i a b k (inr (refl, omega arith)))

      -- a Keep of the same cell is this one
      only : {e j a₂ b₂ : ℕ} → KeepAt p m e j a₂ b₂ → e ≡ d → b₂ ≡ b → j ≡ i
      only {e} {j} {a₂} {b₂} l f g =
          (single d t).one_keep j i a₂ a b (rw f at l.inside) k.inside (rw (f, g) at l.is) k.is

      module _
          (s' : List ℕ) (change : Change p IsCell (Nothing p) (Nothing p) m s') (size : used s' ≡ used m)
          (here : value_at p s' d b ≡ held_then p m d i b)
          (others : (e j a₂ b₂ : ℕ) → KeepAt p m e j a₂ b₂ → ((e ≡ d) × (b₂ ≡ b) → ⊥) → Same p s s' e b₂)
        where
          taken : Upto d (i + 1) s'
          taken =
              record {
                change = change;
                size = size;
                done = λ e j a₂ b₂ l o. by e j a₂ b₂ l (past_other o);
                rest = λ e j a₂ b₂ l o.
                    same_on p (u.rest e j a₂ b₂ l (ahead_other o))
                    (others e j a₂ b₂ l (λ f. later e j o f.0 (only l f.0 f.1)));
              }
            where
              later : (e j : ℕ) → After d (i + 1) e j → e ≡ d → j ≡ i → ⊥
              later e j (inl o) f g = omega arith
              later e j (inr o) f g = omega (arith, o.1)

              earlier : (e j : ℕ) → Before d i e j → e ≡ d → j ≡ i → ⊥
              earlier e j (inl o) f g = omega arith
              earlier e j (inr o) f g = omega (arith, o.1)

              by : (e j a₂ b₂ : ℕ) → KeepAt p m e j a₂ b₂ → Before d i e j ⊎ ((e ≡ d) × (j ≡ i))
                  → value_at p s' e b₂ ≡ held_then p m e j b₂
              by e j a₂ b₂ l (inl o) =
                  same_value p e b₂ (others e j a₂ b₂ l (λ f. earlier e j o f.0 (only l f.0 f.1)))
                  ∙ u.done e j a₂ b₂ l o
              by e j a₂ b₂ l (inr o) =
                  let o₀ = o.0 in
                  let o₁ = o.1 in
                  let z : cmd p m d i ≡ keep a₂ b₂ = rw (o₀, o₁) at l.is in
                  let z₂ : keep a b ≡ keep a₂ b₂ = sym k.is ∙ z in
                  let f : b₂ ≡ b = cc in
                  rw (o₀, o₁, f) here

      blank_taken : is_blank x ≡ true → Upto d (i + 1) s
      blank_taken e =
          taken s u.change u.size (cell_same ∙ yes (kept x) e refl) (λ e j a₂ b₂ l n. same_self p)

      full_taken : is_blank x ≡ false → Upto d (i + 1) (store p s d b (kept x))
      full_taken e =
          taken (store p s d b (kept x))
          (change_as p to_cell (λ f y. or_none y) (λ f y. or_none y) (follow p u.change c.change))
          (c.same ∙ u.size) (stored_value p c ∙ no (value_at p m d b) e refl)
          (λ f j a₂ b₂ l n.
          unwritten p c.change f b₂ (u.change.kept f l.deployed)
          (rw (u.change.reactors f l.deployed) (cell_of l).1) (λ w. n (w.0, w.1)))
        where
          c : Stored p s d b (kept x) (store p s d b (kept x))
          c =
              stored p s d b (kept x) u.change.good (u.change.kept d t)
              (rw (u.change.reactors d t) (cell_of k).1)

          to_cell : (e l : ℕ) → IsCell e l ⊎ This-slot p d b e l → IsCell e l
          to_cell e l (inl z) = z
          to_cell e l (inr z) = let z₀ = z.0 in let z₁ = z.1 in rw (z₀, z₁) (cell_of k).0

      keep_taken : Upto d (i + 1) (keep_by p s d (own p m d i) (keep a b))
      unfolding keep_by
      keep_taken =
          rw own_same
          (cases (is_blank x)
          (λ e. subst (Upto d (i + 1)) (yes (store p s d b (kept x)) e refl) (blank_taken e))
          (λ e. subst (Upto d (i + 1)) (no s e refl) (full_taken e)))

    one_command : (i : ℕ) (s : List ℕ) → i < commands_in p (reactor m d) → Upto d i s →
        Upto d (i + 1) (keep_by p s d (command_loc p (reactor s d) i) (cmd_of p (reactor s d) i))
    one_command i s h u = rw (u.change.reactors d t) (by (cmd p m d i) refl (keeps? (cmd p m d i)))
      where
        by : (c : Cmd) → cmd p m d i ≡ c → Keeps? c → Upto d (i + 1) (keep_by p s d (own p m d i) c)
        by c e (a_keep a b f) = rw f (keep_taken i a b (record { deployed = t; inside = h; is = e ∙ f }) s u)
        by c e (no_keep f n) = rw (f p s d (own p m d i)) (skipped i s u (λ a b g. n a b (sym e ∙ g)))

    commands_from_lem : (n i : ℕ) (s : List ℕ) → i + n ≡ commands_in p (reactor m d) → Upto d i s
        → Upto d (commands_in p (reactor m d)) (keep_from p n i s d)
    unfolding keep_from
    commands_from_lem zero i s e u =
        let q : i ≡ commands_in p (reactor m d) = omega arith in
        subst (λ (j : ℕ). Upto d j s) q u
    commands_from_lem (suc n) i s e u = commands_from_lem n (i + 1) _ (omega arith) (one_command i s (omega arith) u)

    -- no Keep is a D command
    from_r : (s : List ℕ) → Upto d 0 s → Upto d (commands_d p (reactor m d)) s
    unfolding sequence_of
    from_r s u =
        record {
          change = u.change;
          size = u.size;
          done = λ e j a b k z. u.done e j a b k (past e j a b k z);
          rest = λ e j a b k z. u.rest e j a b k (back z);
        }
      where
        back : {e j : ℕ} → After d (commands_d p (reactor m d)) e j → After d 0 e j
        back (inl z) = inl z
        back {e} {j} (inr z) = inr (z.0, omega arith)

        past : (e j a b : ℕ) → KeepAt p m e j a b → Before d (commands_d p (reactor m d)) e j → Before d 0 e j
        past e j a b k (inl z) = inl z
        past e j a b k (inr z) =
            let z₀ = z.0 in
            let l : j < commands_d p (reactor m e) = rw z₀ z.1 in
            absurd (omega (arith, r_late (static e k.deployed) j k.is refl))

    one_deployment : (s : List ℕ) → Upto d 0 s → Upto (d + size_at p m d) 0 (keep_one p s d)
    unfolding keep_one commands_in
    one_deployment s u =
        let r = reactor m d in
        let v = commands_from_lem (commands_r p r) (commands_d p r) s (omega arith) (from_r s u) in
        let v₂ : Upto d (commands_in p r) (keep_from p (commands_r p (reactor s d)) (commands_d p (reactor s d)) s d) =
        rw (u.change.reactors d t) v in
        record {
          change = v₂.change;
          size = v₂.size;
          done = λ e j a b k z. v₂.done e j a b k (before e j k.deployed k.inside z);
          rest = λ e j a b k z. v₂.rest e j a b k (after e k.deployed z);
        }
      where
        before : (e j : ℕ) → Deployed p m e → j < commands_in p (reactor m e) → Before (d + size_at p m d) 0 e j
            → Before d (commands_in p (reactor m d)) e j
        before e j te h (inr z) = absurd (omega (arith, z.1))
        before e j te h (inl z) = by (same? e d) (below d e)
          where
            by : (e ≡ d) ⊎ (e ≢ d) → (d < e) ⊎ (e ≤ d) → Before d (commands_in p (reactor m d)) e j
            by (inl f) g = inr (f, rw f at h)
            by (inr f) (inl g) = absurd (omega (arith, apart p d e t te g))
            by (inr f) (inr g) = inl (omega arith)

        after : (e : ℕ) {j : ℕ} → Deployed p m e → After (d + size_at p m d) 0 e j
            → After d (commands_in p (reactor m d)) e j
        after e te (inl z) = inl (omega arith)
        after e te (inr z) = inl (omega (arith, z.0, size_at_lem p m d))

  pub kept_all : Upto (used m) 0 (kept_in p m)
  unfolding keep_of
  kept_all =
      each p m (used m) (keep_one p) (λ d s. Upto d 0 s) m good.fits good.tiles (λ d s t u. one_deployment d t s u)
      (record {
        change = change_as p (λ d l z. absurd z) (λ d z. z) (λ d z. z) (unchanged p good);
        size = refl;
        done = λ e j a b k z. absurd (none k.deployed z);
        rest = λ e j a b k z. same_self p;
      })
    where
      none : {e j : ℕ} → Deployed p m e → Before main_at 0 e j → ⊥
      none te (inl z) = omega (arith, in_ge p te)
      none te (inr z) = omega (arith, z.1)

-- ---- a completed turn's words

-- the Keep of cell b of d
pub record KeepOf (p m : List ℕ) (d b : ℕ) : Type 0 where
  pub index : ℕ
  pub operand : ℕ
  pub is : KeepAt p m d index operand b

module _
    (p : List ℕ) (known : (r : ℕ) → r < reactors p → Static p r × Single p r) (m : List ℕ) (w : Whole p m)
    (ready : Keepable p m)
  where
    abbrev good : Good p m
    good = record { tiles = w.tiles; fits = w.fits; rest = w.rest }

    -- what every Keep kept is in its cell
    pub passed : Upto p known m good (used m) 0 (kept_in p m)
    passed = kept_all p known m good

    -- each cell has its Keep
    pub its_keep : (d j x v : ℕ) → CellAt p m d j x v → KeepOf p m d (own p m d j)
    its_keep d j x v c =
        let l : j < commands_in p (reactor m d) = omega (arith, c.low, declared_in p (reactor m d)) in
        let k = (single p known m good d c.deployed).all_cells (own p m d j) x
        (record { index = j; bits = v; before = l; low = c.low; place = refl; is = c.is }) in
        record { index = k.0; operand = k.1; is = record { deployed = c.deployed; inside = k.2; is = k.3 } }

    -- what a cell holds then, and that it stays where nothing waits
    pub cell_then : {d i a b : ℕ} → KeepAt p m d i a b → value_at p (kept_in p m) d b ≡ held_then p m d i b
    cell_then {d} {i} {a} {b} k = passed.done d i a b k (inl (in_below p k.deployed))

    pub blank_then : (d i b : ℕ) → value_at p m d (own p m d i) ≡ blank → held_then p m d i b ≡ value_at p m d b
    blank_then d i b e =
        sym (yes (kept (value_at p m d (own p m d i))) (ap is_blank e ∙ (unfold is_blank in eq! refl)) refl)

    pub kept_alike : Alike p m (kept_in p m)
    kept_alike =
        record {
          useds = passed.size;
          reactors = passed.change.reactors;
          wireds = λ d t. unwired p passed.change d t (λ z. z);
          nexts = passed.change.nexts;
          slots = λ d j t l n.
              let h : j < commands_in p (reactor m d) = omega (arith, declared_in p (reactor m d)) in
              unwritten p passed.change d (own p m d j) t (slot_d p (reactor m d) j l)
              (λ c. n c.0 c.1 (sym (cmd_there p (reactor m d) j h) ∙ c.2));
          cells = λ d j x v t l q c. cells d j x v (record { deployed = t; low = l; is = q }) c;
        }
      where
        cells : (d j x v : ℕ) → CellAt p m d j x v → CellSlot p m d (own p m d j) x
            → CellSlot p (kept_in p m) d (own p m d j) x
        cells d j x v c z =
            record { holds = rw (cell_then k.is) (by (ready d k.index k.operand (own p m d j) k.is)) }
          where
            k : KeepOf p m d (own p m d j)
            k = its_keep d j x v c

            kind : kind_of p (reactor m d) (own p m d j) ≡ x
            kind =
                ((static p known m good d c.deployed).cells j x v
                (omega (arith, c.low, declared_in p (reactor m d))) c.is).1

            by : (value_at p m d (own p m d k.index) ≡ blank) ⊎ Pends p m d (own p m d k.index) (own p m d j)
                → OfKind p x (held_then p m d k.index (own p m d j))
            by (inl e) = subst (OfKind p x) (sym (blank_then d k.index (own p m d j) e)) z.holds
            by (inr e) = subst (OfKind p x) (no (value_at p m d (own p m d j)) e.full refl) (rw kind at e.kind)

    pub kept_whole : Whole p (kept_in p m)
    kept_whole =
        let c = passed.change in
        record {
          fits = c.good.fits;
          tiles = c.good.tiles;
          main = c.kept main_at w.main;
          first = c.reactors main_at w.main ∙ w.first;
          last = c.nexts main_at w.main ∙ w.last;
          rest = c.good.rest;
          grown = alike_grown kept_alike w.grown;
        }

    pub finished_sound : turns m < most_turns → SoundImage p (finished p m)
    unfolding finished
    finished_sound clock = cleared p (kept_in p m) kept_whole (rw passed.change.clock clock)
