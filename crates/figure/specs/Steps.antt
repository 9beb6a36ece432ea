-- 4.30 Which reactor's deployments deploy which, and which reactors lead back to themselves.
use Rattle.std.specs.Prelude.{ℕ, zero, suc, ◌+◌, ◌<◌, ◌≡◌, ◌⊎◌, Bool, false, List, [], ◌∷◌, get_or}
use Rattle.value.specs.Test.{◌and◌, ◌or◌, ◌=?◌}
use Rattle.program.specs.Bytes.{reactors, shape_of, commands_d, main_of}
use Rattle.program.specs.Command.{Made, deployment, point, held, nought, made_by, cmd_of}

-- the values of f from i on, n of them
unfoldable pub tabled : {A : Type 0} → (ℕ → A) → ℕ → ℕ → List A
tabled f i zero = []
tabled f i (suc n) = f i ∷ tabled f (i + 1) n

-- the test holds somewhere below n
unfoldable pub anywhere : (ℕ → Bool) → ℕ → Bool
anywhere t zero = false
anywhere t (suc n) = anywhere t n or t n

-- ---- one step

-- a D command that makes this may come to deploy q
unfoldable pub goes_to : List ℕ → ℕ → Made → Bool
goes_to p q (deployment x) = x =? q
goes_to p q (point s) = shape_of p q =? s
goes_to p q (held k) = false
goes_to p q nought = false

-- 4.30 r leads to q: by one of its D commands.
unfoldable pub leads : List ℕ → ℕ → ℕ → Bool
leads p r q = anywhere (λ j. goes_to p q (made_by (cmd_of p r j))) (commands_d p r)

-- ---- one step or more

-- a table of who reaches whom, a row for each reactor
unfoldable pub found : List (List Bool) → ℕ → ℕ → Bool
found t r q = get_or (get_or t r []) q false

unfoldable pub as_table : List ℕ → (ℕ → ℕ → Bool) → List (List Bool)
as_table p t = tabled (λ r. tabled (t r) 0 (reactors p)) 0 (reactors p)

-- by the ways of the table, and by two of them that meet at reactor k
unfoldable pub through : List ℕ → ℕ → List (List Bool) → List (List Bool)
through p k t = as_table p (λ r q. found t r q or (found t r k and found t k q))

-- who reaches whom by ways on which all reactors between are below k
unfoldable pub reached_below : ℕ → List ℕ → List (List Bool)
reached_below zero p = as_table p (leads p)
reached_below (suc k) p = through p k (reached_below k p)

-- by any way
unfoldable pub reached : List ℕ → List (List Bool)
reached p = reached_below (reactors p) p

-- r is main, or main reaches it, and r reaches itself; t is the table
unfoldable pub circular : List ℕ → List (List Bool) → ℕ → Bool
circular p t r = ((r =? main_of p) or found t (main_of p) r) and found t r r

-- ---- the same as propositions

module _ (p : List ℕ) where
  -- 4.30 By an AllocMono of q, or by a MakePoly of q's shape.
  pub data Step (r q : ℕ) : Type 0 where
    by_mono : (j : ℕ) → j < commands_d p r → made_by (cmd_of p r j) ≡ deployment q → Step r q
    by_point : (j s : ℕ) → j < commands_d p r → made_by (cmd_of p r j) ≡ point s
        → q < reactors p → shape_of p q ≡ s → Step r q

  pub data Reaches (r : ℕ) : ℕ → Type 0 where
    one : {q : ℕ} → Step r q → Reaches r q
    more : {q s : ℕ} → Reaches r q → Step q s → Reaches r s

  -- a turn may come to deploy it: main, or a reactor that main reaches
  abbrev pub Needed : ℕ → Type 0
  Needed r = (r ≡ main_of p) ⊎ Reaches (main_of p) r

  -- 4.30 One that is needed and reaches itself.
  abbrev pub OnCircle : ℕ → Type 0
  OnCircle r = Needed r × Reaches r r

  abbrev pub Straight : Type 0
  Straight = (r : ℕ) → OnCircle r → ⊥
