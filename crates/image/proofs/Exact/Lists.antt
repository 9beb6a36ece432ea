-- Lists of indices: membership, rising lists, sums over a list, how often a number occurs, lists joined, numbers that
-- differ. Nothing here speaks of memory.
use Rattle.std.specs.Prelude.{ℕ, zero, suc, ◌+◌, ◌≤◌, ◌<◌, ◌≡◌, refl, ◌↔◌, ◌≢◌, List}
use Rattle.std.proofs.Common.{sym, ◌∙◌, ap, subst, ⊎_elim}
use Rattle.std.specs.Prelude.{[], ◌∷◌, ◌++◌, length}
use Rattle.std.proofs.Common.{arith}
use mathlib.Core.List.Memᴰ.{cases_cons as in_cons}
use mathlib.Core.List.Memᴰ.{head as first}
use mathlib.Core.List.Memᴰ.{tail as later}
use mathlib.Core.List.{Memᴰ}
use mathlib.Core.List.Memᴰ.{append_cases as in_append}
use mathlib.Core.List.Memᴰ.{append_left as in_left}
use mathlib.Core.List.Memᴰ.{not-nil as in_nil}
use mathlib.Core.List.Memᴰ.{append_right as in_right}
use Rattle.value.specs.Test.{pick, ◌=?◌}
use Rattle.value.proofs.Tests.{eq!, eq×, yes, no, same?}

infix 40 ◌∈◌
abbrev pub ◌∈◌ : ℕ → List ℕ → Type 0
a ∈ l = Memᴰ a l

-- by cases on whether two numbers are the same
pub same : {C : Type 0} (a b : ℕ) → (a ≡ b → C) → (a ≢ b → C) → C
same a b f g = ⊎_elim f g (same? a b)

-- to say a thing of each of a list is to say it of the first and of the others
pub each : (P : ℕ → Type 0) (b : ℕ) (l : List ℕ) → ((a : ℕ) → a ∈ (b ∷ l) → P a) ↔ (P b × ((a : ℕ) → a ∈ l → P a))
each P b l = (
  λ h. (h b (first refl), λ a i. h a (later i)),
  λ h a i. ⊎_elim (λ e. subst P (sym e) h.0) (λ k. h.1 a k) (in_cons i),
)

-- ---- rising lists

-- the list rises strictly, from a or above
pub data Rising : ℕ → List ℕ → Type 0 where
  ends : {a : ℕ} → Rising a []
  rises : {a b : ℕ} {l : List ℕ} → a ≤ b → Rising (suc b) l → Rising a (b ∷ l)

pub rising_from : {a d : ℕ} {l : List ℕ} → Rising a l → d ∈ l → a ≤ d
rising_from {d = d} (ends {a = a}) i = elim i [ ]
rising_from (rises h r) (first e) = omega arith
rising_from (rises h r) (later i) = let q = rising_from r i in omega arith

pub rising_low : {a b : ℕ} {l : List ℕ} → a ≤ b → Rising b l → Rising a l
rising_low h ends = ends
rising_low {a} h (rises {b = c} g r) = rises {a = a} {b = c} (omega arith) r

-- the n numbers from j on
unfoldable pub from : ℕ → ℕ → List ℕ
from zero j = []
from (suc n) j = j ∷ from n (j + 1)

pub from_rising : (n j : ℕ) → Rising j (from n j)
unfolding from
from_rising zero j = ends
from_rising (suc n) j = rises {a = j} {b = j} (omega arith)
    (subst (λ (k : ℕ). Rising k (from n (j + 1))) (omega arith) (from_rising n (j + 1)))

pub from_in : (n j i : ℕ) → (i ∈ from n j) ↔ ((j ≤ i) × (i < j + n))
unfolding from
from_in zero j i = (λ h. absurd (in_nil h), λ h. absurd (omega arith))
from_in (suc n) j i =
    let w = from_in n (j + 1) i in (
      λ h. ⊎_elim (λ e. omega arith) (λ k. let q = w.0 k in omega arith) (in_cons h),
      λ h. same i j (λ e. first e) (λ e. later (w.1 (omega arith))),
    )

pub from_length : (n j : ℕ) → length (from n j) ≡ n
unfolding from
from_length zero j = refl
from_length (suc n) j = ap suc (from_length n (j + 1))

-- ---- sums over a list

unfoldable pub total : (ℕ → ℕ) → List ℕ → ℕ
total f [] = 0
total f (a ∷ l) = f a + total f l

-- f is 1 at one place of the list, and 0 at all others
pub record OneOf (f : ℕ → ℕ) (l : List ℕ) : Type 0 where
  pub which : ℕ
  pub there : which ∈ l
  pub one : f which ≡ 1
  pub others : (a : ℕ) → a ∈ l → a ≢ which → f a ≡ 0

module _ (f : ℕ → ℕ) where
  pub total_append : (k l : List ℕ) → total f (k ++ l) ≡ total f k + total f l
  unfolding total
  total_append [] l = omega arith
  total_append (a ∷ k) l = omega (arith, total_append k l)

  pub total_zero : (l : List ℕ) → (total f l ≡ 0) ↔ ((a : ℕ) → a ∈ l → f a ≡ 0)
  unfolding total
  total_zero [] = (λ h a i. absurd (in_nil i), λ h. refl)
  total_zero (b ∷ l) =
      let w = total_zero l in
      let e = each (λ (a : ℕ). f a ≡ 0) b l in
      (λ h. e.1 (omega arith, w.0 (omega arith)), λ h. let k = e.0 h in let y = w.1 k.1 in omega (arith, k.0))

  total_one_first : {a : ℕ} {l : List ℕ} → f a ≡ 1 → total f l ≡ 0 → OneOf f (a ∷ l)
  total_one_first {a} {l} e z = record {
    which = a;
    there = first refl;
    one = e;
    others = λ b i n. ⊎_elim (λ q. absurd (n q)) (λ k. (total_zero l).0 z b k) (in_cons i);
  }

  total_one_later : {a : ℕ} {l : List ℕ} → f a ≡ 0 → OneOf f l → OneOf f (a ∷ l)
  total_one_later {a} {l} e o =
      record {
        which = o.which;
        there = later o.there;
        one = o.one;
        others = λ b i n. ⊎_elim (λ q. subst (λ (x : ℕ). f x ≡ 0) (sym q) e) (λ k. o.others b k n) (in_cons i);
      }

  -- a sum over places that differ is 1 where one place has 1
  pub total_one : {b : ℕ} {l : List ℕ} → Rising b l → (total f l ≡ 1) ↔ OneOf f l
  unfolding total
  total_one ends = (λ h. absurd (omega arith), λ o. absurd (in_nil o.there))
  total_one (rises {b = a} {l = l} h r) =
      let w = total_one r in (
        λ e. same (f a) 0 (λ z. total_one_later z (w.0 (omega arith)))
            (λ z. total_one_first (omega arith) (omega arith)),
        λ o.
            ⊎_elim
            (λ q.
            let here : f a ≡ 1 = subst (λ (x : ℕ). f x ≡ 1) q o.one in
            let rest : total f l ≡ 0 =
            (total_zero l).1 (λ b i. o.others b (later i) (let k = rising_from r i in omega arith)) in
            omega arith)
            (λ i.
            let here : f a ≡ 0 = o.others a (first refl) (let k = rising_from r i in omega arith) in
            let rest : total f l ≡ 1 =
            w.1 (record { which = o.which; there = i; one = o.one; others = λ b k n. o.others b (later k) n }) in
            omega arith)
            (in_cons o.there),
      )

pub total_ones : (l : List ℕ) → total (λ a. 1) l ≡ length l
unfolding total
total_ones [] = refl
total_ones (a ∷ l) = omega (arith, total_ones l)

module _ (f g : ℕ → ℕ) where
  pub total_both : (l : List ℕ) → total (λ a. f a + g a) l ≡ total f l + total g l
  unfolding total
  total_both [] = omega arith
  total_both (a ∷ l) = omega (arith, total_both l)

  pub total_least : (l : List ℕ) → ((a : ℕ) → a ∈ l → f a ≤ g a) → total f l ≤ total g l
  unfolding total
  total_least [] h = omega arith
  total_least (a ∷ l) h = omega (arith, h a (first refl), total_least l (λ b i. h b (later i)))

  -- what one place leaves to spare, the sum does
  pub total_spare : (k : ℕ) {a : ℕ} {l : List ℕ} → a ∈ l → ((b : ℕ) → b ∈ l → f b ≤ g b) → f a + k ≤ g a →
      total f l + k ≤ total g l
  unfolding total
  total_spare k (first {x = b} {xs = l} e) h s =
      let z : f b + k ≤ g b = rw e at s in omega (arith, total_least l (λ c i. h c (later i)))
  total_spare k (later {x = b} i) h s =
      omega (arith, h b (first refl), total_spare k i (λ c j. h c (later j)) s)

-- ---- how often a number occurs

unfoldable pub is : ℕ → ℕ → ℕ
is d a = pick (a =? d) 1 0

abbrev pub count : ℕ → List ℕ → ℕ
count d l = total (is d) l

pub is_same : {d a : ℕ} → a ≡ d → is d a ≡ 1
unfolding is
is_same e = sym (yes 0 (eq! e) refl)

pub is_other : {d a : ℕ} → a ≢ d → is d a ≡ 0
unfolding is
is_other n = sym (no 1 (eq× n) refl)

pub count_none : (d : ℕ) (l : List ℕ) → (count d l ≡ 0) ↔ (d ∈ l → ⊥)
count_none d l =
    let w = total_zero (is d) l in (
      λ h i. omega (arith, w.0 h d i, is_same {d = d} refl),
      λ h. w.1 (λ a i. is_other (λ e. h (subst (λ (x : ℕ). x ∈ l) e i))),
    )

-- what occurs is in the list
pub count_in : (d : ℕ) (l : List ℕ) → count d l ≢ 0 → d ∈ l
unfolding total
count_in d [] h = absurd (h refl)
count_in d (a ∷ l) h = same d a (λ e. first e)
    (λ e. later (count_in d l (λ z. h (omega (arith, is_other {d = d} {a = a} (λ q. e (sym q)))))))

pub count_most : (d : ℕ) (l : List ℕ) → count d l ≤ length l
unfolding total
count_most d [] = omega arith
count_most d (a ∷ l) =
    let q = count_most d l in
    same a d (λ e. omega (arith, is_same e)) (λ e. omega (arith, is_other e))

-- ---- lists joined

unfoldable pub flat : (ℕ → List ℕ) → List ℕ → List ℕ
flat g [] = []
flat g (a ∷ l) = g a ++ flat g l

pub flat_in : (d : ℕ) (g : ℕ → List ℕ) (l : List ℕ) → (d ∈ flat g l) ↔ ((a : ℕ) × (a ∈ l) × (d ∈ g a))
unfolding flat
flat_in d g [] = (λ i. absurd (in_nil i), λ h. absurd (in_nil h.1))
flat_in d g (b ∷ l) =
    let w = flat_in d g l in (
      λ i. ⊎_elim (λ k. (b, first refl, k)) (λ k. let r = w.0 k in (r.0, later r.1, r.2)) (in_append (g b) i),
      λ h.
          ⊎_elim
          (λ e. in_left (flat g l) (subst (λ (a : ℕ). d ∈ g a) e h.2))
          (λ k. in_right (g b) (w.1 (h.0, k, h.2)))
          (in_cons h.1),
    )

pub total_flat : (f : ℕ → ℕ) (g : ℕ → List ℕ) (l : List ℕ) → total f (flat g l) ≡ total (λ a. total f (g a)) l
unfolding total flat
total_flat f g [] = refl
total_flat f g (a ∷ l) = omega (arith, total_append f (g a) (flat g l), total_flat f g l)

-- ---- numbers that differ

-- no two of the list have the same g
pub data Apart (g : ℕ → ℕ) : List ℕ → Type 0 where
  none : Apart g []
  and : {a : ℕ} {l : List ℕ} → ((b : ℕ) → b ∈ l → g b ≢ g a) → Apart g l → Apart g (a ∷ l)

pub rising_apart : {a : ℕ} {l : List ℕ} → Rising a l → Apart (λ b. b) l
rising_apart ends = none
rising_apart (rises {b = a} h r) = and {a = a} (λ b i. let q = rising_from r i in omega arith) (rising_apart r)

-- k is the list l without one that is a
pub record Without (f : ℕ → ℕ) (a : ℕ) (l k : List ℕ) : Type 0 where
  pub sum : total f l ≡ f a + total f k
  pub others : (b : ℕ) → b ∈ l → b ≢ a → b ∈ k

pub without : (f : ℕ → ℕ) {a : ℕ} {l : List ℕ} → a ∈ l → (k : List ℕ) × Without f a l k
unfolding total
without f (first {x = b} {xs = l} e) =
    (l, record { sum = rw e refl; others = λ c i n. ⊎_elim (λ q. absurd (n (q ∙ sym e))) (λ j. j) (in_cons i) })
without f (later {x = b} i) =
    let w = without f i in (
      b ∷ w.0,
      record {
        sum = omega (arith, w.1.sum);
        others = λ c j n. ⊎_elim (λ q. first q) (λ h. later (w.1.others c h n)) (in_cons j);
      },
    )

-- f summed over the g of a list, no two of them the same, is at most f summed over a list that has them all
pub covered : (f g : ℕ → ℕ) {l : List ℕ} (k : List ℕ) → Apart g l → ((a : ℕ) → a ∈ l → g a ∈ k) →
    total (λ a. f (g a)) l ≤ total f k
unfolding total
covered f g k none h = omega arith
covered f g k (and {a = a} n r) h =
    let w = without f (h a (first refl)) in
    omega (arith, w.1.sum, covered f g w.0 r (λ b i. w.1.others (g b) (h b (later i)) (n b i)))
