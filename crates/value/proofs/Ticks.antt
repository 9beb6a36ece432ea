-- Primitive 13 is the difference of specs/Ticks.antt: `exact_difference`. An integer z is told by two naturals, as
-- `over z` less `under z`, so that each equation becomes one of sums of naturals. Assumes nothing.
use Rattle.std.specs.Prelude.{ℕ, zero, suc, ◌+◌, ◌-◌, ◌*◌, ◌/◌, ◌%◌, ◌^◌, ◌≤◌, ◌<◌, ◌≡◌, refl}
use Rattle.std.proofs.Common.{sym, ◌∙◌, ap}
use Rattle.std.specs.Prelude.{◌↔◌, true}
use Rattle.std.proofs.Common.{arith}
use Rattle.std.proofs.Common.{ltb, ℤ, pos, negsuc, ◌+ℤ◌, ◌-ℤ◌, ◌*ℤ◌, neg_ℤ, mod-lt, div-add-mod', w32, to_z, of_z, ltb-false, ltb-true}
use lib.IntN.{sub_ℕ}
use Rattle.value.specs.Value.{blank, number, is_number, int_of}
use Rattle.value.specs.Primitive.{in32, goes_round, operation, on_numbers, table, row_of, primitive}
use Rattle.value.specs.Ticks.{Congruent, ExactDifference}
use Rattle.value.specs.declared.Value.{Value}
use Rattle.value.proofs.Tests.{cases, both!, yes}
use Rattle.value.proofs.Integers.{is_back, in32_fits, signed_in, round_in}

-- ---- an integer as the difference of two naturals

abbrev pub over : ℤ → ℕ
over (pos n) = n
over (negsuc n) = 0

abbrev pub under : ℤ → ℕ
under (pos n) = 0
under (negsuc n) = suc n

pub same : (x y : ℤ) → over x + under y ≡ over y + under x → x ≡ y
same (pos a) (pos b) e = ap pos (omega arith)
same (pos a) (negsuc b) e = absurd (omega arith)
same (negsuc a) (pos b) e = absurd (omega arith)
same (negsuc a) (negsuc b) e = ap negsuc (omega arith)

less : (a b : ℕ) → over (sub_ℕ a b) + b ≡ a + under (sub_ℕ a b)
less a b =
    cases (ltb a b)
    (λ e. let h : a < b = ltb-true a b e in rw e (omega arith))
    (λ e. let h : b ≤ a = ltb-false a b e in rw e (omega arith))

pub sum : (x y : ℤ) → over (x +ℤ y) + (under x + under y) ≡ over x + over y + under (x +ℤ y)
sum (pos a) (pos b) = omega arith
sum (pos a) (negsuc b) = omega (arith, less a (suc b))
sum (negsuc a) (pos b) = omega (arith, less b (suc a))
sum (negsuc a) (negsuc b) = omega arith

over_neg : (x : ℤ) → over (neg_ℤ x) ≡ under x
over_neg (pos zero) = refl
over_neg (pos (suc n)) = refl
over_neg (negsuc n) = refl

under_neg : (x : ℤ) → under (neg_ℤ x) ≡ over x
under_neg (pos zero) = refl
under_neg (pos (suc n)) = refl
under_neg (negsuc n) = refl

scaled : (k : ℤ) → (over (k *ℤ pos (2 ^ 32)) ≡ over k * 2 ^ 32) × (under (k *ℤ pos (2 ^ 32)) ≡ under k * 2 ^ 32)
scaled (pos n) = (refl, refl)
scaled (negsuc n) = (over_neg (pos (suc n * 2 ^ 32)), under_neg (pos (suc n * 2 ^ 32)))

-- x − y is d and k turns, with all that is subtracted brought to the other side
abbrev Balanced : ℤ → ℤ → ℤ → ℤ → Type 0
Balanced x y d k = over d + over k * 2 ^ 32 + (under x + over y) ≡ over x + under y + (under d + under k * 2 ^ 32)

balances : (x y d k : ℤ) → (d +ℤ k *ℤ pos (2 ^ 32) ≡ x -ℤ y) ↔ Balanced x y d k
balances x y d k =
    let whole = sum d (k *ℤ pos (2 ^ 32)) in
    let parts = sum x (neg_ℤ y) in
    let m = scaled k in (
      λ e. omega (arith, whole, parts, m.0, m.1, over_neg y, under_neg y, ap over e, ap under e),
      λ h. same _ _ (omega (arith, whole, parts, m.0, m.1, over_neg y, under_neg y, h)),
    )

-- ---- no other number

inside : (z : ℤ) → in32 z ≡ true → (over z < 2 ^ 31) × (under z ≤ 2 ^ 31)
inside (pos n) e = (omega (arith, (in32_fits (pos n) e).sfits), omega arith)
inside (negsuc n) e = (omega arith, omega (arith, (in32_fits (negsuc n) e).sfits))

only : (x y d e j k : ℤ) → in32 d ≡ true → in32 e ≡ true → Balanced x y d j → Balanced x y e k → d ≡ e
only x y d e j k f g b c = same d e (omega (arith, inside d f, inside e g, b, c))

-- ---- and this one

-- a word and its integer differ by one turn at most
read : (r : ℕ) → r < 2 ^ 32 → (t : ℕ) × (over (to_z w32 r) + t * 2 ^ 32 ≡ r + under (to_z w32 r))
read r h = cases (ltb r (2 ^ 31)) (λ e. rw e (0, omega arith)) (λ e. rw e (1, omega arith))

written : (z : ℤ) → in32 z ≡ true → (t : ℕ) × (of_z w32 z + under z ≡ over z + t * 2 ^ 32) × (of_z w32 z < 2 ^ 32)
written (pos n) e = (0, omega arith, omega (arith, (inside (pos n) e).0))
written (negsuc n) e = (1, omega (arith, (inside (negsuc n) e).1), omega arith)

turned : (x y : ℤ) → in32 x ≡ true → in32 y ≡ true → (k : ℤ) × Balanced x y (goes_round x y) k
unfolding goes_round
turned x y f g =
    let n = of_z w32 x + (2 ^ 32 - of_z w32 y) in
    let s = written x f in
    let t = written y g in
    let u = read (n % 2 ^ 32) (mod-lt n (omega arith)) in
    let up = u.0 + n / 2 ^ 32 + t.0 in
    let down = s.0 + 1 in
    (sub_ℕ up down, omega (arith, less up down, s.1, t.1, t.2, u.1, div-add-mod' n (2 ^ 32)))

-- ---- primitive 13

exact : (x y d : ℤ) → in32 x ≡ true → in32 y ≡ true → in32 d ≡ true → (d ≡ goes_round x y) ↔ Congruent d (x -ℤ y)
exact x y d f g h =
    let k = turned x y f g in (
      λ e. rw e (k.0, (balances x y (goes_round x y) k.0).1 k.1),
      λ j. only x y d (goes_round x y) j.0 k.0 h (round_in x y) ((balances x y d j.0).0 j.1) k.1,
    )

same_number : (d e : ℤ) → in32 d ≡ true → in32 e ≡ true → number d ≡ number e → d ≡ e
same_number d e f g h =
    sym (is_back (in32_fits d f)) ∙ ap (λ (v : Value). int_of v) h ∙ is_back (in32_fits e g)

thirteen :
    (a b c : Value) →
    is_number a ≡ true →
    is_number b ≡ true →
    number (goes_round (int_of a) (int_of b)) ≡ primitive 13 a b c
unfolding primitive row_of table on_numbers operation
thirteen a b c f g = yes blank (both! f g) refl

pub exact_difference : ExactDifference
exact_difference a b c d f g h =
    let x = int_of a in
    let y = int_of b in
    let w = exact x y d (signed_in a.content) (signed_in b.content) h in
    let is = thirteen a b c f g in (
      λ e. w.0 (same_number d (goes_round x y) h (round_in x y) (sym (is ∙ e))),
      λ j. sym (ap number (w.1 j) ∙ is),
    )
