-- Ways that meet at reactor k are joined row by row: what the table says once the rows below r are done.
use Rattle.std.specs.Prelude.{ℕ, suc, ◌+◌, ◌≤◌, ◌<◌, ◌≡◌, refl, ◌≢◌, Bool, true, false, List, get_or, set}
use Rattle.std.proofs.Common.{sym, ◌∙◌, ap₂, ⊎_elim, arith}
use lib.ListN.{length-set}
use Rattle.value.specs.Test.{pick, ◌<?◌, ◌or◌}
use Rattle.value.proofs.Tests.{yes, no, lt!, lt×, below, same?}
use Rattle.program.specs.Bytes.{reactors}
use Rattle.figure.specs.Steps.{leads, found, as_table, through, reached_below, reached}
use Rattle.figure.specs.Clauses.{Table, through_at}
use Rattle.figure.proofs.Closure.{found_as}
use Rattle.figure.proofs.Cells.{found_here, found_elsewhere, adds_second, adds_nothing}

-- a table that says f says what is equal to it
pub table_as : {t : List (List Bool)} {n : ℕ} {f : ℕ → ℕ → Bool} (g : ℕ → ℕ → Bool)
    → ((r q : ℕ) → r < n → q < n → f r q ≡ g r q) → Table t n f → Table t n g
table_as g e c = record { long = c.long; says = λ r q h k. c.says r q h k ∙ e r q h k }

module _ (k n : ℕ) (f : ℕ → ℕ → Bool) (k_low : k < n) (few : n ≤ 64) where
  -- joined in the rows below r
  abbrev pub rows_to : ℕ → ℕ → ℕ → Bool
  rows_to r a b = pick (a <? r) (through_at k f a b) (f a b)

  here_before : (r b : ℕ) → f r b ≡ rows_to r r b
  here_before r b = no _ (lt× (omega arith)) refl

  here_after : (r b : ℕ) → through_at k f r b ≡ rows_to (r + 1) r b
  here_after r b = yes _ (lt! (omega arith)) refl

  elsewhere : (r a b : ℕ) → a ≢ r → rows_to r a b ≡ rows_to (r + 1) a b
  elsewhere r a b d =
      ⊎_elim (λ (h : a < r). sym (yes _ (lt! h) refl) ∙ yes _ (lt! (omega arith)) refl)
      (λ (h : r ≤ a). sym (no _ (lt× h) refl) ∙ no _ (lt× (omega arith)) refl) (below a r)

  pub none_joined : {t : List (List Bool)} → Table t n f → Table t n (rows_to 0)
  none_joined = table_as (rows_to 0) (λ r q h l. no _ (lt× (omega arith)) refl)

  pub all_joined : {t : List (List Bool)} {r : ℕ} → r ≡ n → Table t n (rows_to r) → Table t n (through_at k f)
  all_joined e = table_as (through_at k f) (λ a b h l. sym (yes _ (lt! (omega arith)) refl))

  module _ {t : List (List Bool)} (r : ℕ) (low : r < n) (c : Table t n (rows_to r)) where
    row_r : (b : ℕ) → b < n → found t r b ≡ f r b
    row_r b h = c.says r b low h ∙ sym (here_before r b)

    -- whether r leads to k
    pub tells : found t r k ≡ f r k
    tells = row_r k k_low

    -- t₀ the table before, of which row k is taken over; the row changes
    pub joined : (t₀ : List (List Bool)) (row : List Bool) → Table t₀ n f
        → ((q : ℕ) → q < 64 → get_or row q false ≡ (found t r q or found t₀ k q)) → f r k ≡ true
        → Table (set t r row) n (rows_to (r + 1))
    joined t₀ row c₀ d e = record {
      long = length-set t r row ∙ c.long;
      says = λ a b h l. ⊎_elim (λ z. rw z (mine b l)) (others a b h l) (same? a r);
    }
      where
        mine : (b : ℕ) → b < n → found (set t r row) r b ≡ rows_to (r + 1) r b
        mine b l =
            found_here t r b row (omega (arith, c.long)) ∙ d b (omega arith)
            ∙ ap₂ (λ x y. x or y) (row_r b l) (c₀.says k b k_low l)
            ∙ adds_second (f r b) (f k b) e ∙ here_after r b

        others : (a b : ℕ) → a < n → b < n → a ≢ r → found (set t r row) a b ≡ rows_to (r + 1) a b
        others a b h l z = found_elsewhere t r a b row z ∙ c.says a b h l ∙ elsewhere r a b z

    -- or stays
    pub left : f r k ≡ false → Table t n (rows_to (r + 1))
    left e = table_as (rows_to (r + 1)) (λ a b h l. ⊎_elim (λ z. rw z (mine b)) (elsewhere r a b) (same? a r)) c
      where
        mine : (b : ℕ) → rows_to r r b ≡ rows_to (r + 1) r b
        mine b = sym (here_before r b) ∙ adds_nothing (f r b) (f k b) e ∙ here_after r b

-- ---- from the ways by reactors below k to those by reactors up to k

module _ (p : List ℕ) {t : List (List Bool)} {n : ℕ} (count : n ≡ reactors p) where
  -- a table of the definition says what it was made of
  as_found : (f : ℕ → ℕ → Bool) → Table t n f → Table t n (found (as_table p f))
  as_found f = table_as _ (λ r q h l. sym (found_as p f r q (omega arith) (omega arith)))

  pub first_ways : Table t n (leads p) → Table t n (found (reached_below 0 p))
  unfolding reached_below
  first_ways = as_found (leads p)

  pub next_ways : (k : ℕ) → Table t n (through_at k (found (reached_below k p)))
      → Table t n (found (reached_below (k + 1) p))
  unfolding reached_below through
  next_ways k = let e : k + 1 ≡ suc k = omega arith in rw e (as_found (through_at k (found (reached_below k p))))

  pub all_ways : (k : ℕ) → k ≡ n → Table t n (found (reached_below k p)) → Table t n (found (reached p))
  unfolding reached
  all_ways k e c = let z : k ≡ reactors p = e ∙ count in rw z at c
