-- The table, a row for each reactor: one row that is written, and what a row that takes over another says.
use Rattle.std.specs.Prelude.{ℕ, ◌+◌, ◌<◌, ◌≡◌, refl, ◌≢◌, Bool, true, false, List, [], length, get_or, set}
use Rattle.std.proofs.Common.{ap, ◌∙◌, ⊎_elim, arith}
use lib.Seq.{get_or-set_same, get_or-set_other}
use Rattle.value.specs.Test.{◌and◌, ◌or◌}
use Rattle.value.proofs.Tests.{same?}
use Rattle.figure.specs.Steps.{found}

pub found_here : (t : List (List Bool)) (r q : ℕ) (row : List Bool) → r < length t
    → found (set t r row) r q ≡ get_or row q false
unfolding found
found_here t r q row h = ap (λ (x : List Bool). get_or x q false) (get_or-set_same t r row [] h)

pub found_elsewhere : (t : List (List Bool)) (r a q : ℕ) (row : List Bool) → a ≢ r
    → found (set t r row) a q ≡ found t a q
unfolding found
found_elsewhere t r a q row d = ap (λ (x : List Bool). get_or x q false) (get_or-set_other t r a row [] d)

-- one row more
pub row_next : {n : ℕ} (x : ℕ → ℕ → Bool) (t : List (List Bool)) (r : ℕ) (row : List Bool) → r < length t
    → ((q : ℕ) → q < n → get_or row q false ≡ x r q) → ((a q : ℕ) → a < r → q < n → found t a q ≡ x a q)
    → (a q : ℕ) → a < r + 1 → q < n → found (set t r row) a q ≡ x a q
row_next x t r row l d so a q h k =
    ⊎_elim (λ (e : a ≡ r). rw e (found_here t r q row l ∙ d q k))
    (λ (e : a ≢ r). found_elsewhere t r a q row e ∙ so a q (omega arith) k) (same? a r)

-- ---- what a joined row says

or_false : (s : Bool) → s ≡ (s or false)
unfolding ◌or◌
or_false true = refl
or_false false = refl

-- ways s, and two of which the first is there or not: t to a reactor, and u from it
module _ (s : Bool) {t : Bool} (u : Bool) where
  pub adds_second : t ≡ true → (s or u) ≡ (s or (t and u))
  unfolding ◌and◌
  adds_second e = rw e refl

  pub adds_nothing : t ≡ false → s ≡ (s or (t and u))
  unfolding ◌and◌
  adds_nothing e = rw e (or_false s)
