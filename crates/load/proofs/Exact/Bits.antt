-- The supply mask in a standing from 128 on: bit x is source x. Computed for every mask, count of
-- sources and bit, then read off.
use Rattle.std.specs.Prelude.{ℕ, ◌+◌, ◌-◌, ◌/◌, ◌%◌, ◌^◌, ◌≤◌, ◌<◌, ◌≡◌, refl, ◌↔◌, Bool, true}
use Rattle.std.proofs.Common.{sym, ◌∙◌, ap, subst}
use Rattle.std.specs.Prelude.{false, not, ◌&&◌, ◌||◌}
use Rattle.std.proofs.lemmas.Bool.{false≢true}
use Rattle.std.proofs.Common.{arith}
use lib.Dec.{eqb, ltb}
use borrow.Author.Tests.{eqb-true, eq-eqb, ne_eqb, ltb-true, lt-ltb}
use Rattle.value.proofs.Below.{all_below, both, at, all}
use Rattle.load.specs.Scan.{waiting, ready_at}

-- where a holds, so does b
abbrev implies : Bool → Bool → Bool
implies true b = b
implies false b = true

implied : (a b : Bool) → implies a b ≡ true → a ≡ true → b ≡ true
implied true b e h = e
implied false b e h = absurd (false≢true h)

abbrev pub bit : ℕ → ℕ → ℕ
bit m x = m / 2 ^ x % 2

-- ---- no source is supplied yet

pub none_yet : (x : ℕ) → x < 7 → bit waiting x ≡ 0
none_yet x h = eqb-true _ _ (at 7 (λ x. eqb (bit waiting x) 0) refl x h)

pub some_room : (n : ℕ) → n ≤ 7 → waiting < waiting + 2 ^ n
some_room n h = ltb-true _ _ (at 8 (λ n. ltb waiting (waiting + 2 ^ n)) refl n (omega arith))

-- ---- one source more: with a mask of n bits, adding bit x where it is clear sets it, keeps the
-- others and stays within n bits

abbrev fits : ℕ → ℕ → Bool
fits n m = ltb (waiting + m) (waiting + 2 ^ n)

abbrev clear : ℕ → ℕ → Bool
clear m x = eqb (bit (waiting + m) x) 0

abbrev adds : ℕ → ℕ → ℕ → Bool
adds n m x =
    implies (fits n m)
    (implies (clear m x) (eqb (bit (waiting + m + 2 ^ x) x) 1 && ltb (waiting + m + 2 ^ x) (waiting + 2 ^ n)))

adds_all : all_below 8 (λ n. all_below 128 (λ m. all_below n (λ x. adds n m x))) ≡ true
adds_all = refl

abbrev keeps : ℕ → ℕ → ℕ → Bool
keeps m x y = implies (clear m x) (eqb x y || eqb (bit (waiting + m + 2 ^ x) y) (bit (waiting + m) y))

keeps_all : all_below 128 (λ m. all_below 7 (λ x. all_below 7 (λ y. keeps m x y))) ≡ true
keeps_all = refl

-- ---- the mask of a deployment that is ready: with n bits, each is set exactly where the mask is the highest

abbrev full : ℕ → ℕ → Bool
full n m = all_below n (λ x. eqb (bit (waiting + m) x) 1)

same : Bool → Bool → Bool
same true b = b
same false b = not b

abbrev readies : ℕ → ℕ → Bool
readies n m = implies (fits n m) (same (full n m) (eqb (waiting + m) (waiting + (2 ^ n - 1))))

readies_all : all_below 8 (λ n. all_below 128 (λ m. readies n m)) ≡ true
unfolding same
readies_all = refl

power_small : (n : ℕ) → n ≤ 7 → 2 ^ n ≤ 128
power_small n h = let l : 2 ^ n < 129 = ltb-true _ _ (at 8 (λ n. ltb (2 ^ n) 129) refl n (omega arith)) in omega arith

same_eq : (a b : Bool) → same a b ≡ true → a ≡ b
unfolding same
same_eq true b e = sym e
same_eq false true e = absurd (false≢true e)
same_eq false false e = refl

-- a standing from 128 on, of a deployment with n sources
module _ (n st : ℕ) (few : n ≤ 7) (low : waiting ≤ st) (high : st < waiting + 2 ^ n) where
  m : ℕ
  m = st - waiting

  masked : waiting + m ≡ st
  unfolding m
  masked = omega arith

  m_small : m < 128
  unfolding m
  m_small = omega (arith, power_small n few)

  m_fits : fits n m ≡ true
  m_fits = lt-ltb _ _ (subst (λ k. k < waiting + 2 ^ n) (sym masked) high)

  m_bit : (x v : ℕ) → bit st x ≡ v → eqb (bit (waiting + m) x) v ≡ true
  m_bit x v e = eq-eqb _ _ (ap (λ k. bit k x) masked ∙ e)

  pub add_bit : (x : ℕ) → x < n → bit st x ≡ 0 → (bit (st + 2 ^ x) x ≡ 1) × (st + 2 ^ x < waiting + 2 ^ n)
  add_bit x h c =
      let t₁ = at 8 (λ n. all_below 128 (λ m. all_below n (λ x. adds n m x))) adds_all n (omega arith) in
      let t₂ = at 128 (λ m. all_below n (λ x. adds n m x)) t₁ m m_small in
      let t = at n (λ x. adds n m x) t₂ x h in
      let u = both _ _ (implied _ _ (implied _ _ t m_fits) (m_bit x 0 c)) in
      let a : bit (waiting + m + 2 ^ x) x ≡ 1 = eqb-true _ _ u.0 in
      let b : waiting + m + 2 ^ x < waiting + 2 ^ n = ltb-true _ _ u.1 in
      (rw masked at a, rw masked at b)

  pub keep_bit : (x y : ℕ) → x < 7 → y < 7 → (x ≡ y → ⊥) → bit st x ≡ 0 → bit (st + 2 ^ x) y ≡ bit st y
  keep_bit x y h i d c =
      let t₁ = at 128 (λ m. all_below 7 (λ x. all_below 7 (λ y. keeps m x y))) keeps_all m m_small in
      let t₂ = at 7 (λ x. all_below 7 (λ y. keeps m x y)) t₁ x h in
      let t = at 7 (λ y. keeps m x y) t₂ y i in
      let u = implied _ _ t (m_bit x 0 c) in
      let a : bit (waiting + m + 2 ^ x) y ≡ bit (waiting + m) y = eqb-true _ _ (rw (ne_eqb x y d) at u) in
      rw masked at a

  -- each source is supplied exactly where the standing is the one that React asks for
  pub ready_exact : (st ≡ ready_at n) ↔ ((x : ℕ) → x < n → bit st x ≡ 1)
  unfolding ready_at
  ready_exact =
      let t = at 128 (λ m. readies n m)
      (at 8 (λ n. all_below 128 (λ m. readies n m)) readies_all n (omega arith)) m m_small in
      let e : full n m ≡ eqb (waiting + m) (waiting + (2 ^ n - 1)) = same_eq _ _ (implied _ _ t m_fits) in (
        (λ q x h.
            let t = at n (λ x. eqb (bit (waiting + m) x) 1) (e ∙ eq-eqb _ _ (masked ∙ q)) x h in
            let b : bit (waiting + m) x ≡ 1 = eqb-true _ _ t in
            rw masked at b),
        (λ h. sym masked ∙ eqb-true _ _ (sym e ∙ all n (λ x. eqb (bit (waiting + m) x) 1) (λ x l. m_bit x 1 (h x l)))),
      )
