-- Numbers that are counted no further than one more than the most words: `capped_sum`, by which sums may be cut at
-- each step; and a table of such numbers for the shapes, one reactor more.
use Rattle.std.specs.Prelude.{ℕ, zero, suc, ◌+◌, ◌≤◌, ◌<◌, ◌≡◌, refl, ◌≢◌, List, length, get_or}
use Rattle.std.proofs.Common.{sym, ◌∙◌, ap, ap₂, ⊎_elim}
use Rattle.std.specs.Prelude.{set}
use Rattle.std.proofs.Common.{arith}
use lib.Seq.{get_or-set_same, get_or-set_other}
use Rattle.value.specs.Test.{pick, ◌=?◌}
use Rattle.value.proofs.Tests.{yes, no, lt!, lt×, eq!, eq×, below, same?}
use Rattle.program.specs.Bytes.{reactors, shape_of}
use Rattle.figure.specs.Steps.{tabled}
use Rattle.figure.specs.Bound.{sum_below, bound_by, round_of, bounds_after}
use Rattle.figure.specs.Clauses.{capped, Capped, up_to}
use Rattle.figure.proofs.Closure.{tabled_at}
use Rattle.figure.proofs.Sums.{sum_next}

pub capped_low : {n : ℕ} → n < 16385 → n ≡ capped n
unfolding capped
capped_low h = yes _ (lt! h) refl

pub capped_high : {n : ℕ} → 16385 ≤ n → 16385 ≡ capped n
unfolding capped
capped_high {n} h = no n (lt× h) refl

-- one that is not cut is the number itself, and one that is cut is less
pub capped_is : {m n : ℕ} → m ≡ capped n → m ≤ 16384 → m ≡ n
capped_is {m} {n} e h =
    ⊎_elim (λ (l : n < 16385). e ∙ sym (capped_low l)) (λ (l : 16385 ≤ n). absurd (omega (arith, e, capped_high l)))
    (below n 16385)

pub capped_least : {m n : ℕ} → m ≡ capped n → m ≤ n
capped_least {m} {n} e =
    ⊎_elim (λ (l : n < 16385). omega (arith, e, capped_low l)) (λ (l : 16385 ≤ n). omega (arith, e, capped_high l))
    (below n 16385)

pub capped-most : (n : ℕ) → capped n ≤ 16385
capped-most n =
    ⊎_elim (λ (l : n < 16385). omega (arith, capped_low l)) (λ (l : 16385 ≤ n). omega (arith, capped_high l)) (below n 16385)

pub capped_sum : (a b : ℕ) → capped (capped a + capped b) ≡ capped (a + b)
capped_sum a b =
    ⊎_elim
    (λ (h : a < 16385).
    ⊎_elim (λ (k : b < 16385). ap₂ (λ x y. capped (x + y)) (sym (capped_low h)) (sym (capped_low k)))
    (λ (k : 16385 ≤ b). large (omega (arith, capped_high k)) (omega arith)) (below b 16385))
    (λ (h : 16385 ≤ a). large (omega (arith, capped_high h)) (omega arith)) (below a 16385)
  where
    large : 16385 ≤ capped a + capped b → 16385 ≤ a + b → capped (capped a + capped b) ≡ capped (a + b)
    large h k = sym (capped_high h) ∙ capped_high k

-- the sum of two that are cut
pub capped_add : {m n : ℕ} (a b : ℕ) → m ≡ capped a → n ≡ capped b → capped (m + n) ≡ capped (a + b)
capped_add a b e f = ap₂ (λ x y. capped (x + y)) e f ∙ capped_sum a b

-- ---- sums by shape

module _ (p : List ℕ) (b : ℕ → ℕ) where
  -- what reactor q adds to the sum of shape s
  abbrev pub of_shape : ℕ → ℕ → ℕ
  of_shape s q = pick (shape_of p q =? s) (b q) 0

  pub shape_next : (sums : List ℕ) (q s₀ v n : ℕ) → length sums ≡ 256 → s₀ < 256 → s₀ ≡ shape_of p q
      → n ≡ capped (get_or sums s₀ 0 + v) → v ≡ capped (b q) → Capped sums (λ s. sum_below (of_shape s) q)
      → Capped (set sums s₀ n) (λ s. sum_below (of_shape s) (q + 1))
  shape_next sums q s₀ v n l h g e f c s k = ⊎_elim here elsewhere (same? s₀ s)
    where
      here : s₀ ≡ s → get_or (set sums s₀ n) s 0 ≡ capped (sum_below (of_shape s) (q + 1))
      here z =
          let mine : b q ≡ of_shape s q = yes _ (eq! (sym g ∙ z)) refl in
          ap (λ i. get_or (set sums s₀ n) i 0) (sym z) ∙ get_or-set_same sums s₀ n 0 (omega arith) ∙ e
          ∙ capped_add (sum_below (of_shape s) q) (of_shape s q) (c s₀ h ∙ ap (λ i. capped (sum_below (of_shape i) q)) z)
          (f ∙ ap capped mine)
          ∙ ap capped (sum_next (of_shape s) q)

      elsewhere : s₀ ≢ s → get_or (set sums s₀ n) s 0 ≡ capped (sum_below (of_shape s) (q + 1))
      elsewhere z =
          let none : 0 ≡ of_shape s q = no _ (eq× (λ y. z (g ∙ y))) refl in
          get_or-set_other sums s₀ s n 0 (λ y. z (sym y)) ∙ c s k
          ∙ ap capped (omega (arith, sum_next (of_shape s) q, none))

-- ---- bounds by reactor

pub none_yet : (f : ℕ → ℕ) (q : ℕ) → 0 ≡ capped (up_to f 0 q)
none_yet f q = capped_low (omega arith) ∙ ap capped (no (f q) (lt× (omega arith)) refl)

-- one reactor more
pub bound_next : (f : ℕ → ℕ) (next : List ℕ) (r n : ℕ) → length next ≡ 256 → r < 256 → n ≡ capped (f r)
    → Capped next (up_to f r) → Capped (set next r n) (up_to f (r + 1))
bound_next f next r n l h e c q k = ⊎_elim here elsewhere (same? r q)
  where
    here : r ≡ q → get_or (set next r n) q 0 ≡ capped (up_to f (r + 1) q)
    here z =
        ap (λ i. get_or (set next r n) i 0) (sym z) ∙ get_or-set_same next r n 0 (omega arith) ∙ e ∙ ap (λ i. capped (f i)) z
        ∙ ap capped (yes _ (lt! (omega arith)) refl)

    as_was : r ≢ q → up_to f r q ≡ up_to f (r + 1) q
    as_was z =
        ⊎_elim (λ (y : q < r). sym (yes _ (lt! y) refl) ∙ yes _ (lt! (omega arith)) refl)
        (λ (y : r ≤ q). sym (no (f q) (lt× y) refl) ∙ no (f q) (lt× (omega arith)) refl) (below q r)

    elsewhere : r ≢ q → get_or (set next r n) q 0 ≡ capped (up_to f (r + 1) q)
    elsewhere z = get_or-set_other next r q n 0 (λ y. z (sym y)) ∙ c q k ∙ ap capped (as_was z)

-- ---- one round more

tabled_past : (f : ℕ → ℕ) (i n k : ℕ) → n ≤ k → get_or (tabled f i n) k 0 ≡ 0
unfolding tabled
tabled_past f i zero k h = refl
tabled_past f i (suc n) zero h = absurd (omega arith)
tabled_past f i (suc n) (suc k) h = tabled_past f (i + 1) n k (omega arith)

pub round_at : (p t : List ℕ) (q : ℕ) → up_to (bound_by p (λ i. get_or t i 0)) (reactors p) q ≡ get_or (round_of p t) q 0
unfolding round_of
round_at p t q =
    let f = bound_by p (λ i. get_or t i 0) in
    ⊎_elim
    (λ (h : q < reactors p).
    sym (yes 0 (lt! h) refl) ∙ ap f (omega arith) ∙ sym (tabled_at f 0 (reactors p) q 0 h))
    (λ (h : reactors p ≤ q). sym (no (f q) (lt× h) refl) ∙ sym (tabled_past f 0 (reactors p) q h)) (below q (reactors p))

pub rounds_next : (p t : List ℕ) (k : ℕ)
    → Capped t (up_to (bound_by p (λ i. get_or (bounds_after k p) i 0)) (reactors p))
    → Capped t (λ q. get_or (bounds_after (k + 1) p) q 0)
unfolding bounds_after
rounds_next p t k c q h =
    let e : k + 1 ≡ suc k = omega arith in
    rw e (c q h ∙ ap capped (round_at p (bounds_after k p) q))

-- ---- a round that changes nothing

-- there are no bounds past the reactors
bounds_past : (p : List ℕ) (k q : ℕ) → reactors p ≤ q → get_or (bounds_after k p) q 0 ≡ 0
unfolding bounds_after round_of
bounds_past p zero q h = refl
bounds_past p (suc k) q h = tabled_past _ 0 (reactors p) q h

module _ (p t next : List ℕ) (k : ℕ) (now_so : Capped t (λ q. get_or (bounds_after k p) q 0))
    (round : (b : ℕ → ℕ) → Capped t b → Capped next (up_to (bound_by p b) (reactors p)))
    (same : (q : ℕ) → q < reactors p → get_or t q 0 ≡ get_or next q 0) where
  stays : (b : ℕ → ℕ) → Capped t b → Capped t (up_to (bound_by p b) (reactors p))
  stays b c q h =
      ⊎_elim (λ (l : q < reactors p). same q l ∙ round b c q h)
      (λ (l : reactors p ≤ q).
      now_so q h ∙ ap capped (bounds_past p k q l ∙ no (bound_by p b q) (lt× l) refl)) (below q (reactors p))

  pub settled : (m : ℕ) → Capped t (λ q. get_or (bounds_after (k + m) p) q 0)
  settled zero = let e : k + 0 ≡ k = omega arith in rw e now_so
  settled (suc m) =
      let e : k + suc m ≡ k + m + 1 = omega arith in
      rw e (rounds_next p t (k + m) (stays _ (settled m)))
