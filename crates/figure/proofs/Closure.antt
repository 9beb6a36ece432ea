-- The table of who reaches whom holds just what is reached (`found_reaches`, `reaches_found`). So where no reactor that
-- is needed reaches itself, a step leads to one that reaches fewer: `rank_falls`.
use Rattle.std.specs.Prelude.{ℕ, zero, suc, ◌+◌, ◌≤◌, ◌<◌, ◌≡◌, refl, ◌⊎◌, Bool, true}
use Rattle.std.proofs.Common.{◌∙◌, ap, inl, inr, ⊎_elim}
use Rattle.std.specs.Prelude.{false, List, [], get_or}
use Rattle.std.proofs.lemmas.Bool.{false≢true}
use Rattle.std.proofs.Common.{arith}
use mathlib.Core.Logic.Iff
use Rattle.value.specs.Test.{pick, ◌and◌, ◌or◌}
use Rattle.value.proofs.Tests.{cases, same?, eq!, eq?, either!, right!, or?, Says, says_and, says_or}
use Rattle.program.specs.Bytes.{reactors, commands_d, main_of}
use Rattle.program.specs.Command.{Made, deployment, point, held, nought, made_by, cmd_of}
use Rattle.figure.specs.Steps.{tabled, anywhere, goes_to, leads, found, as_table, through, reached_below, reached}
use Rattle.figure.specs.Steps.{Step, by_mono, by_point, Reaches, one, more, Needed, Straight}
use Rattle.figure.specs.Bound.{sum_below}
use Rattle.figure.proofs.Sums.{sum_less, sum_ones}

-- ---- tables

pub tabled_at : {A : Type 0} (f : ℕ → A) (i n k : ℕ) (d : A) → k < n → get_or (tabled f i n) k d ≡ f (i + k)
unfolding tabled
tabled_at f i zero k d h = absurd (omega arith)
tabled_at f i (suc n) zero d h = ap f (omega arith)
tabled_at f i (suc n) (suc k) d h = tabled_at f (i + 1) n k d (omega arith) ∙ ap f (omega arith)

pub found_as : (p : List ℕ) (t : ℕ → ℕ → Bool) (r q : ℕ) → r < reactors p → q < reactors p
    → found (as_table p t) r q ≡ t r q
unfolding found as_table
found_as p t r q h k =
    let row : ℕ → List Bool = λ i. tabled (t i) 0 (reactors p) in
    ap (λ (l : List Bool). get_or l q false) (tabled_at row 0 (reactors p) r [] h ∙ ap row (omega arith))
    ∙ tabled_at (t r) 0 (reactors p) q false k ∙ ap (t r) (omega arith)

anywhere_says : (t : ℕ → Bool) (n : ℕ) → Says (anywhere t n) ((j : ℕ) × (j < n) × (t j ≡ true))
unfolding anywhere
anywhere_says t zero = ((λ e. absurd (false≢true e)), (λ h. absurd (omega (arith, h.1))))
anywhere_says t (suc n) =
    let below = anywhere_says t n in (
      (λ e.
          elim (or? e) [
            | inl f ↦ let h = below.0 f in (h.0, omega (arith, h.1), h.2)
            | inr f ↦ (n, omega arith, f)
          ]),
      (λ h.
          elim (same? h.0 n) [
            | inl e ↦ right! _ (rw e at h.2)
            | inr d ↦ either! _ (below.1 (h.0, omega (arith, h.1), h.2))
          ]),
    )

-- ---- sums

pub sum_same : (f g : ℕ → ℕ) (n : ℕ) → ((q : ℕ) → q < n → f q ≡ g q) → sum_below f n ≡ sum_below g n
unfolding sum_below
sum_same f g zero h = refl
sum_same f g (suc n) h = omega (arith, sum_same f g n (λ q l. h q (omega arith)), h n (omega arith))

-- a test that holds wherever s does counts no less
counts : (s t : Bool) → (s ≡ true → t ≡ true) → pick s 1 0 ≤ pick t 1 0
unfolding pick
counts true t f = rw (f refl) (omega arith)
counts false t f = omega arith

-- ---- ways

module _ (p : List ℕ) where
  -- a step on from what is needed
  pub needed_on : {r q : ℕ} → Needed p r → Step p r q → Needed p q
  needed_on (inl e) s = inr (one (rw e at s))
  needed_on (inr w) s = inr (more w s)

  way_on : {a b c : ℕ} → Reaches p a b → Reaches p b c → Reaches p a c
  way_on x (one s) = more x s
  way_on x (more y s) = more (way_on x y) s

  leads! : {r q : ℕ} → Step p r q → leads p r q ≡ true
  unfolding leads goes_to
  leads! {r} {q} s = (anywhere_says (λ j. goes_to p q (made_by (cmd_of p r j))) (commands_d p r)).1 (at s)
    where
      at : Step p r q → (j : ℕ) × (j < commands_d p r) × (goes_to p q (made_by (cmd_of p r j)) ≡ true)
      at (by_mono j l e) = (j, l, rw e (eq! refl))
      at (by_point j s l e h f) = (j, l, rw e (eq! f))

  leads? : (r q : ℕ) → q < reactors p → leads p r q ≡ true → Step p r q
  unfolding leads goes_to
  leads? r q h e =
      let k = (anywhere_says (λ j. goes_to p q (made_by (cmd_of p r j))) (commands_d p r)).0 e in
      by k.0 k.1 (made_by (cmd_of p r k.0)) refl k.2
    where
      by : (j : ℕ) → j < commands_d p r → (m : Made) → made_by (cmd_of p r j) ≡ m → goes_to p q m ≡ true → Step p r q
      by j l (deployment x) f g = by_mono j l (f ∙ ap deployment (eq? g))
      by j l (point s) f g = by_point j s l f h (eq? g)
      by j l (held k) f g = absurd (false≢true g)
      by j l nought f g = absurd (false≢true g)

  -- ---- the table

  abbrev R : ℕ
  R = reactors p

  -- by ways on which all reactors between are below k
  abbrev T : ℕ → ℕ → ℕ → Bool
  T k = found (reached_below k p)

  t_first : (r q : ℕ) → r < R → q < R → T 0 r q ≡ leads p r q
  unfolding reached_below
  t_first r q h k = found_as p (leads p) r q h k

  -- by a way that does not come to k, or by one to k and one on from it
  t_next : (k r q : ℕ) → r < R → q < R
      → Says (T (suc k) r q) ((T k r q ≡ true) ⊎ ((T k r k ≡ true) × (T k k q ≡ true)))
  unfolding reached_below through
  t_next k r q h g =
      rw (found_as p (λ r q. T k r q or (T k r k and T k k q)) r q h g) (says_or Iff.rfl (says_and Iff.rfl Iff.rfl))

  t_to : (k r : ℕ) → r < R → k < R → T (suc k) r k ≡ true → T k r k ≡ true
  t_to k r h g e = ⊎_elim (λ x. x) (λ x. x.0) ((t_next k r k h g).0 e)

  t_from : (k q : ℕ) → k < R → q < R → T (suc k) k q ≡ true → T k k q ≡ true
  t_from k q g h e = ⊎_elim (λ x. x) (λ x. x.1) ((t_next k k q g h).0 e)

  t_on : (k a b c : ℕ) → k ≤ R → a < R → c < R → b < k → T k a b ≡ true → T k b c ≡ true → T k a c ≡ true
  t_on zero a b c l ha hc hb e f = absurd (omega arith)
  t_on (suc k) a b c l ha hc hb e f =
      let low : k < R = omega arith in
      let join = (t_next k a c ha hc).1 in
      elim (same? b k) [
        | inl z ↦ join (inr (t_to k a ha low (rw z at e), t_from k c low hc (rw z at f)))
        | inr z ↦
            elim ((t_next k a b ha (omega arith)).0 e) [
              | inl x ↦ elim ((t_next k b c (omega arith) hc).0 f) [
                | inl y ↦ join (inl (t_on k a b c (omega arith) ha hc (omega arith) x y))
                | inr y ↦ join (inr (t_on k a b k (omega arith) ha low (omega arith) x y.0, y.1))
              ]
              | inr x ↦ elim ((t_next k b c (omega arith) hc).0 f) [
                | inl y ↦ join (inr (x.0, t_on k k b c (omega arith) low hc (omega arith) x.1 y))
                | inr y ↦ join (inr (x.0, y.1))
              ]
            ]
      ]

  pub transitive : (a b c : ℕ) → a < R → b < R → c < R
      → found (reached p) a b ≡ true → found (reached p) b c ≡ true → found (reached p) a c ≡ true
  unfolding reached
  transitive a b c ha hb hc e f = t_on R a b c (omega arith) ha hc hb e f

  t_steps : (k r q : ℕ) → r < R → q < R → Step p r q → T k r q ≡ true
  t_steps zero r q h g s = t_first r q h g ∙ leads! s
  t_steps (suc k) r q h g s = (t_next k r q h g).1 (inl (t_steps k r q h g s))

  pub steps_found : (r q : ℕ) → r < R → q < R → Step p r q → found (reached p) r q ≡ true
  unfolding reached
  steps_found r q h g s = t_steps R r q h g s

  t_reaches : (k r q : ℕ) → k ≤ R → r < R → q < R → T k r q ≡ true → Reaches p r q
  t_reaches zero r q l h g e = one (leads? r q g (rw (t_first r q h g) at e))
  t_reaches (suc k) r q l h g e =
      ⊎_elim (λ x. t_reaches k r q (omega arith) h g x)
      (λ x.
      way_on (t_reaches k r k (omega arith) h (omega arith) x.0)
      (t_reaches k k q (omega arith) (omega arith) g x.1))
      ((t_next k r q h g).0 e)

  pub found_reaches : (r q : ℕ) → r < R → q < R → found (reached p) r q ≡ true → Reaches p r q
  unfolding reached
  found_reaches r q h g e = t_reaches R r q (omega arith) h g e

  -- how many reactors r reaches
  pub rank : ℕ → ℕ
  rank r = sum_below (λ q. pick (found (reached p) r q) 1 0) R

  -- ---- where steps stay among the reactors

  module _ (low : (r q : ℕ) → r < R → Step p r q → q < R) where
    reaches_low : {r q : ℕ} → r < R → Reaches p r q → q < R
    reaches_low {r} {q} h (one s) = low r q h s
    reaches_low {r} {q} h (more {q = a} w s) = low a q (reaches_low h w) s

    pub reaches_found : {r q : ℕ} → r < R → Reaches p r q → found (reached p) r q ≡ true
    reaches_found {r} {q} h (one s) = steps_found r q h (low r q h s) s
    reaches_found {r} {q} h (more {q = a} w s) =
        let l = reaches_low h w in
        let k = low a q l s in
        transitive r a q h l k (reaches_found h w) (steps_found a q l k s)

    pub needed_low : main_of p < R → {r : ℕ} → Needed p r → r < R
    needed_low main (inl e) = rw e main
    needed_low main (inr w) = reaches_low main w

    -- ---- ranks

    module _ (main : main_of p < R) (straight : Straight p) where
      not_itself : (r : ℕ) → Needed p r → found (reached p) r r ≡ false
      not_itself r n =
          let h = needed_low main n in
          cases (found (reached p) r r) (λ e. absurd (straight r (n, found_reaches r r h h e))) (λ e. e)

      pub rank_falls : (r s : ℕ) → Needed p r → Step p r s → rank s < rank r
      unfolding rank pick
      rank_falls r s n step =
          let hr = needed_low main n in
          let hs = low r s hr step in
          let there = steps_found r s hr hs step in
          sum_less _ _ R s hs (λ q h. counts _ _ (transitive r s q hr hs h there))
          (rw (not_itself s (needed_on n step), there) (omega arith))

      pub rank_low : (r : ℕ) → Needed p r → rank r < R
      unfolding rank pick
      rank_low r n =
          let h = needed_low main n in
          let less : rank r < sum_below (λ q. 1) R =
          sum_less _ _ R r h (λ q k. counts (found (reached p) r q) true (λ e. refl))
          (rw (not_itself r n) (omega arith)) in
          omega (arith, sum_ones R)
