-- What a turn's states remember of its beginning and of its Keeps (`Past`), and that a step keeps this (`past_on`): a
-- cell of a wired deployment, or of one whose Cell is behind, holds what it held before the turn; in the slot of a
-- Keep behind waits what its operand was as it was carried out. `its_cell` finds the Cell of a cell.
use Rattle.std.specs.Prelude.{ℕ, ◌<◌, ◌≡◌, refl, ◌⊎◌, ◌≢◌, List}
use Rattle.std.proofs.Common.{sym, ◌∙◌, ap, subst, inl, inr, arith}
use Rattle.value.specs.Value.{mark_of, value}
use Rattle.value.specs.declared.Value.{Value}
use Rattle.program.specs.Bytes.{commands_d}
use Rattle.program.specs.Command.{sequence_of, cell, keep, none}
use Rattle.program.specs.Location.{cmd_at}
use Rattle.program.proofs.Slots.{takes_cell, takes_keep}
use Rattle.load.proofs.Exact.Places.{cmd_where}
use Rattle.image.specs.Memory.{main_at, used, reactor, wired, value_at}
use Rattle.image.specs.Sound.{Tiles, Deployed}
use Rattle.image.proofs.Memory.Tiles.{in_reactor}
use Rattle.image.proofs.Memory.Changes.{Same, same_value}
use Rattle.remus.specs.Cells.{pending}
use Rattle.remus.specs.Walk.{State, Input}
use Rattle.remus.specs.Point.{Before}
use Rattle.remus.specs.Claim.{CellIn, Begins, stands, fresh, During, Point}
use Rattle.remus.proofs.Walk.Facts.{r_late, Facts}
use Rattle.remus.proofs.Walk.MidTurn.{own, cmd, CellAt}
use Rattle.remus.proofs.Walk.Pile.{first as top, Inv}
use Rattle.remus.proofs.Walk.Top.{Onward}
use Rattle.remus.proofs.Walk.Writes.{Gave}
use Rattle.remus.proofs.Walk.Locations.{not_cell, not_keep}
use Rattle.remus.proofs.Walk.Walking.{BehindIn, Newly, before, skipped, by_now, Passed}

-- a cell's content as a turn begins is one
pub begins_one : {p w : List ℕ} {d l : ℕ} {v a b : Value} → Begins p w d l v a → Begins p w d l v b → a ≡ b
begins_one (stands t e) (stands u f) = refl
begins_one (stands t e) (fresh n) = absurd (omega (arith, n t))
begins_one (fresh n) (stands t e) = absurd (omega (arith, n t))
begins_one (fresh n) (fresh k) = refl

-- a cell is one in other words too that have its deployment
pub cell_moved : {p m m' : List ℕ} {d l : ℕ} {v : Value} → CellIn p m d l v → Deployed p m' d
    → reactor m' d ≡ reactor m d → CellIn p m' d l v
cell_moved {p} {l = l} c i e =
    record {
      deployed = i;
      kind = c.kind;
      bits = c.bits;
      is = ap (λ (r : ℕ). cmd_at p r l) e ∙ c.is;
      first = c.first;
    }

-- the Cell of the cell at location l
pub record CellOf (p m : List ℕ) (d l : ℕ) (v : Value) : Type 0 where
  pub index : ℕ
  pub kind : ℕ
  pub bits : ℕ
  pub is : CellAt p m d index kind bits
  pub place : l ≡ own p m d index
  pub first : value (mark_of kind) bits ≡ v

pub its_cell : {p : List ℕ} → Facts p → {m : List ℕ} {d l : ℕ} {v : Value} → Tiles p m (used m) main_at
    → CellIn p m d l v → CellOf p m d l v
its_cell {p} u {m} {d} {l} tl c =
    let z = cmd_where p (reactor m d) l (cell c.kind c.bits) c.is some in
    let st = (u.static (reactor m d) (in_reactor p tl c.deployed)).0 in
    record {
      index = z.0;
      kind = c.kind;
      bits = c.bits;
      is = record { deployed = c.deployed; low = (st.cells z.0 c.kind c.bits z.1 z.3).0; is = z.3 };
      place = z.2;
      first = c.first;
    }
  where
    some : cell c.kind c.bits ≢ none
    some e = let y : ◌≡◌ {A = ℕ} 0 1 = cc in omega arith

module _ (p w : List ℕ) (t : Input) where
  -- x is what waits after a Keep of o, of operand a in cell b, carried out at a point of the turn
  pub record Set (o a b : ℕ) (x : Value) : Type 0 where
    pub state : State
    pub words : List ℕ
    pub point : Point p w t state words o (keep a b)
    pub is : pending (value_at p words o a) ≡ x

  -- D command j of o, a Cell by the words m, has been carried out in this turn or in an earlier one
  abbrev pub Filled : State → ℕ → ℕ → Type 0
  Filled s o j = BehindIn p s o j ⊎ (wired s.words o ≡ 1)

  -- its cell, of kind x and bits y, has in the words m' its content as at the turn's start
  abbrev pub Recalled : List ℕ → List ℕ → ℕ → ℕ → ℕ → ℕ → Type 0
  Recalled m m' o j x y = Begins p w o (own p m o j) (value (mark_of x) y) (value_at p m' o (own p m o j))

  pub record Past (s : State) : Type 0 where
    pub wired_on : (d : ℕ) → Deployed p w d → wired w d ≡ 1 → wired s.words d ≡ 1
    pub recall : (o j x y : ℕ) → CellAt p s.words o j x y → Filled s o j → Recalled s.words s.words o j x y
    pub keeps : (o j a b : ℕ) → BehindIn p s o j → cmd p s.words o j ≡ keep a b
        → Set o a b (value_at p s.words o (own p s.words o j))

  -- the same of the cell at location l
  pub recalled : {s : State} → Past s → {d l : ℕ} {v : Value} (f : CellOf p s.words d l v) → Filled s d f.index
      → Begins p w d l v (value_at p s.words d l)
  recalled {s} h {d} {l} {v} f k =
      let m = s.words in
      let b = own p m d f.index in
      let g = h.recall d f.index f.kind f.bits f.is k in
      let g₂ = subst (λ (y : Value). Begins p w d b y (value_at p m d b)) f.first g in
      subst (λ (c : ℕ). Begins p w d c v (value_at p m d c)) (sym f.place) g₂

  module _ (u : Facts p) (two : (d : ℕ) → Deployed p w d → (wired w d ≡ 0) ⊎ (wired w d ≡ 1)) where
    module _ (s s' : State) (during : During p w t s) (v : Inv p w s) (from : Onward p w s.words)
        (on : Onward p s.words s'.words) (c : Passed p s s') (h : Past s) where
      abbrev m : List ℕ
      m = s.words

      abbrev m' : List ℕ
      m' = s'.words

      -- a Cell of an old deployment
      cell_back : {o j x y : ℕ} → Deployed p m o → CellAt p m' o j x y → CellAt p m o j x y
      cell_back {o} i d =
          let r = on.reactors o i in
          record { deployed = i; low = rw r at d.low; is = rw r at d.is }

      -- a cell whose slot stays
      again : (o j x y : ℕ) → CellAt p m o j x y → Filled s o j → Recalled m m' o j x y
      again o j x y d k =
          subst (Begins p w o (own p m o j) (value (mark_of x) y)) (sym (same_value p o (own p m o j) (still k)))
          (h.recall o j x y d k)
        where
          still : Filled s o j → Same p m m' o (own p m o j)
          still (inl b) = c.firm o j b (takes_cell d.is) (λ n e. not_cell x y n (sym d.is ∙ e))
          still (inr b) = c.cells o j x y d b

      -- the Cell just carried out: its deployment was not wired before the turn
      filled : (o j x y : ℕ) (m₁ : List ℕ) (b : Before p s m₁ o (cmd p m o j)) → b.index ≡ j
          → reactor m₁ o ≡ reactor m o → CellAt p m o j x y → Gave p m₁ m' o j (cmd p m o j) → Recalled m m' o j x y
      filled o j x y m₁ b e r d g =
          let q = d.is in
          let g₂ : value_at p m' o (own p m₁ o j) ≡ value (mark_of x) y = rw q at g in
          let g₃ : value_at p m' o (own p m o j) ≡ value (mark_of x) y = rw r at g₂ in
          subst (Begins p w o (own p m o j) (value (mark_of x) y)) (sym g₃) (fresh (λ k. by k (two o k)))
        where
          raw : wired m o ≡ 0
          raw = (v.piled.frames o b.index (rw b.top (top refl refl))).raw (omega (arith, d.low))

          by : Deployed p w o → (wired w o ≡ 0) ⊎ (wired w o ≡ 1) → wired w o ≡ 0
          by k (inl z) = z
          by k (inr z) = absurd (omega (arith, raw, h.wired_on o k z))

      recall' : (o j x y : ℕ) → CellAt p m' o j x y → Filled s' o j → Recalled m' m' o j x y
      recall' o j x y d k = by k
        where
          at_new : Deployed p m o → Recalled m m' o j x y → Recalled m' m' o j x y
          at_new i z = rw (on.reactors o i) z

          side : CellAt p m o j x y → (wired m o ≡ 1) ⊎ ((i : ℕ) → i < commands_d p (reactor m o) → BehindIn p s o i)
              → Filled s o j
          side e (inl z) = inr z
          side e (inr z) = inl (z j e.low)

          of_newly : Newly p s s' o j → Recalled m' m' o j x y
          of_newly (before b) =
              let i = (v.mid.scope o j b).0 in
              at_new i (again o j x y (cell_back i d) (inl b))
          of_newly (skipped i z n) = at_new i (again o j x y (cell_back i d) (inr z))
          of_newly (by_now m₁ b e i r g) = at_new i (filled o j x y m₁ b e r (cell_back i d) g)

          by : Filled s' o j → Recalled m' m' o j x y
          by (inl z) = of_newly (c.newly o j z)
          by (inr z) =
              let b = c.back o d.deployed z in
              let e = cell_back b.0 d in
              at_new b.0 (again o j x y e (side e b.1))

      keeps' : (o j a b : ℕ) → BehindIn p s' o j → cmd p m' o j ≡ keep a b → Set o a b (value_at p m' o (own p m' o j))
      unfolding sequence_of
      keeps' o j a b k q' = by (c.newly o j k)
        where
          at_new : Deployed p m o → (cmd p m o j ≡ keep a b → Set o a b (value_at p m' o (own p m o j)))
              → Set o a b (value_at p m' o (own p m' o j))
          at_new i f = let r = on.reactors o i in rw r (f (rw r at q'))

          by : Newly p s s' o j → Set o a b (value_at p m' o (own p m' o j))
          by (before z) =
              at_new (v.mid.scope o j z).0 (λ q.
              let same = c.firm o j z (takes_keep q) (λ n e. not_keep a b n (sym q ∙ e)) in
              subst (Set o a b) (sym (same_value p o (own p m o j) same)) (h.keeps o j a b z q))
          by (skipped i z n) =
              at_new i (λ q.
              let st = (u.static (reactor m o) (in_reactor p v.mid.good.tiles i)).0 in
              absurd (omega (arith, n, r_late st j q refl)))
          by (by_now m₁ z e i r g) =
              at_new i (λ q.
              let g₂ : value_at p m' o (own p m₁ o j) ≡ pending (value_at p m₁ o a) = rw q at g in
              let g₃ : value_at p m' o (own p m o j) ≡ pending (value_at p m₁ o a) = rw r at g₂ in
              record { state = s; words = m₁; point = record { during = during; before = rw q at z }; is = sym g₃ })

      pub past_on : Past s'
      past_on =
          record {
            wired_on = λ d i z. c.wireds d (from.kept d i) (h.wired_on d i z);
            recall = recall';
            keeps = keeps';
          }
