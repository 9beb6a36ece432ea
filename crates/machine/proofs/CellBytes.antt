-- Cells by the bytes: which D commands are Cells and which R commands Keeps. Where a reactor has no cell, nothing is
-- kept.
-- Assumes nothing.
use Rattle.std.specs.Prelude.{ℕ, zero, suc, ◌+◌, ◌*◌, ◌≤◌, ◌<◌, ◌≡◌, refl, ◌⊎◌, Bool}
use Rattle.std.proofs.Common.{sym, ◌∙◌, ap, inl, inr, ⊎_elim}
use Rattle.std.specs.Prelude.{true, false, not, List, length}
use Rattle.std.proofs.Common.{arith}
use Rattle.value.specs.Test.{◌<?◌, ◌=?◌, sweep}
use Rattle.value.proofs.Tests.{clash, eq!, eq×, lt×?, not_true, same?}
use Rattle.value.proofs.Sweeps.{swept, sweeps}
use Rattle.program.specs.Bytes.{byte, reactors, commands_d, commands_r, commands_in, commands_at}
use Rattle.program.specs.Command.{Cmd, decode, bytes_of, made_by, cmd_of, keep}
use Rattle.program.specs.Location.{command_loc}
use Rattle.program.specs.declared.Command.{Command}
use Rattle.program.proofs.Decode.{as_keep, by_code}
use Rattle.image.specs.Memory.{main_at, reactor}
use Rattle.image.specs.Clauses.{Tiling}
use Rattle.image.proofs.Exact.Tiling.{tiles?}
use Rattle.image.proofs.Memory.Each.{each}
use Rattle.image.proofs.Memory.Tiles.{in_reactor}
use Rattle.remus.specs.Cells.{keep_by, keep_from, keep_one, keep_of}
use Rattle.machine.proofs.FactLaws.{code_at}
use Rattle.machine.specs.Clauses.{is_held, no_cell, has_cell, has_cells, CellAt, Remembering}

-- ---- what a command's code says

held_by : (c : Command) → (c.code =? 11) ≡ is_held (made_by (decode c))
unfolding is_held made_by
held_by c =
    by_code (λ (d : Cmd). (c.code =? 11) ≡ is_held (made_by d)) c
    (λ q. eq× (λ e. omega arith)) (λ q. eq× (λ e. omega arith)) (λ q. eq× (λ e. omega arith))
    (λ q. eq× (λ e. omega arith)) (λ q. eq× (λ e. omega arith)) (λ q. eq× (λ e. omega arith))
    (λ q. eq× (λ e. omega arith)) (λ q. eq× (λ e. omega arith)) (λ q. eq× (λ e. omega arith))
    (λ q. eq× (λ e. omega arith)) (λ q. eq! q) (λ q. eq× (λ e. omega arith)) (λ q. eq× (λ e. omega arith))
    (λ q. ⊎_elim (λ (l : c.code < 1). eq× (λ e. omega arith)) (λ (l : 13 < c.code). eq× (λ e. omega arith)) q)

-- b the code of D command j
module _ (p : List ℕ) (r j at b : ℕ) (e : at ≡ commands_at p r) (f : b ≡ byte p (at + 8 * j)) where
  test : (b =? 11) ≡ is_held (made_by (cmd_of p r j))
  unfolding cmd_of
  test = rw (← code_at p r j at b e f) (held_by (bytes_of p r j))

  pub cell_here : b ≡ 11 → no_cell p r j ≡ false
  cell_here h = ap not (sym test ∙ eq! h)

  pub cell_not : (b ≡ 11 → ⊥) → no_cell p r j ≡ true
  cell_not h = ap not (sym test ∙ eq× h)

module _ (p m : List ℕ) (o l r i : ℕ) (c : Command) (e : c ≡ bytes_of p r i) where
  pub keep_here : {z : List ℕ} → c.code ≡ 13 → z ≡ keep_by p m o l (keep c.a c.b)
      → z ≡ keep_by p m o l (cmd_of p r i)
  unfolding cmd_of
  keep_here f h = rw (← e) (as_keep (keep_by p m o l) c f h)

  pub keep_not : (c.code ≡ 13 → ⊥) → m ≡ keep_by p m o l (cmd_of p r i)
  unfolding cmd_of keep_by
  keep_not f =
      rw (← e)
      (by_code (λ (d : Cmd). m ≡ keep_by p m o l d) c (λ q. refl) (λ q. refl) (λ q. refl) (λ q. refl) (λ q. refl)
      (λ q. refl) (λ q. refl) (λ q. refl) (λ q. refl) (λ q. refl) (λ q. refl) (λ q. refl) (λ q. absurd (f q))
      (λ q. refl))

module _ (p : List ℕ) (r i : ℕ) where
  -- a Keep, or a command by which nothing is kept
  pub keep? : ((a : ℕ) × (b : ℕ) × (cmd_of p r i ≡ keep a b))
      ⊎ ((m : List ℕ) (o l : ℕ) → m ≡ keep_by p m o l (cmd_of p r i))
  keep? =
      let c = bytes_of p r i in
      elim (same? c.code 13) [
        | inl e ↦ inl (c.a, c.b, unfold cmd_of in sym (as_keep (λ (d : Cmd). d) c e refl))
        | inr n ↦ inr (λ m o l. keep_not p m o l r i c refl n)
      ]

-- ---- no cell, nothing kept

none_found : (ok : ℕ → Bool) (n : ℕ) → (sweep ok 0 n <? n) ≡ false → (i : ℕ) → i < n → ok i ≡ true
none_found ok n e i h = (sweeps ok 0 n n (omega arith)).0 (omega (arith, lt×? e, (swept ok 0 n).to)) i (omega arith) h

module _ (p : List ℕ) (known : Remembering p) where
  no_cell_lem : (r b : ℕ) → has_cell p r ≡ false → CellAt p r b → ⊥
  unfolding has_cell is_held made_by
  no_cell_lem r b e c =
      clash (none_found (no_cell p r) (commands_d p r) e c.command c.in_d)
      (ap (λ (d : Cmd). not (is_held (made_by d))) c.is)

  module _ (m : List ℕ) (o : ℕ) (low : reactor m o < reactors p) (free : has_cell p (reactor m o) ≡ false) where
    by_none : (i l : ℕ) → i < commands_in p (reactor m o) → m ≡ keep_by p m o l (cmd_of p (reactor m o) i)
    by_none i l h =
        elim (keep? p (reactor m o) i) [
          | inl k ↦ absurd (no_cell_lem (reactor m o) k.1 free (known (reactor m o) i k.0 k.1 low h k.2))
          | inr n ↦ n m o l
        ]

    from_none : (n i : ℕ) → i + n ≤ commands_in p (reactor m o) → m ≡ keep_from p n i m o
    unfolding keep_from
    from_none zero i h = refl
    from_none (suc n) i h =
        rw (← by_none i (command_loc p (reactor m o) i) (omega arith)) (from_none n (i + 1) (omega arith))

    pub keep_none : m ≡ keep_one p m o
    unfolding keep_one commands_in
    keep_none = from_none (commands_r p (reactor m o)) (commands_d p (reactor m o)) (omega arith)

  pub keeps_none : (m : List ℕ) (u : ℕ) → Tiling p m u main_at → has_cells p ≡ false → m ≡ keep_of p u m
  unfolding keep_of has_cells
  keeps_none m u t e =
      let tiles = tiles? p m (length m) u main_at (omega (arith, t.fits)) t.tiled in
      sym (each p m u (keep_one p) (λ d s. s ≡ m) m t.fits tiles
      (λ d s i q.
      let low = in_reactor p tiles i in
      let none = none_found (λ (r : ℕ). not (has_cell p r)) (reactors p) e (reactor m d) low in
      ap (λ (z : List ℕ). keep_one p z d) q ∙ sym (keep_none m d low (not_true (has_cell p (reactor m d)) none))) refl)
