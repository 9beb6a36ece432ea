-- Laws of words: what a loop over a word's bytes finds, step by step; sums that are capped; numbers.
use Rattle.std.specs.Prelude.{ℕ, zero, suc, ◌+◌, ◌-◌, ◌*◌, ◌≤◌, ◌<◌, ◌≡◌, refl, Bool, true, false, not}
use Rattle.std.proofs.Common.{sym, ◌∙◌, ap}
use Rattle.std.specs.Prelude.{◌&&◌, List, [], ◌∷◌, length, drop}
use Rattle.std.proofs.Common.{arith}
use lib.Seq.{drop-cons}
use lib.ListN.{drop_of_length-le}
use lib.IntN.{ℤ, pos, neg_ℤ}
use lib.Dec.{ltb}
use mir.Syntax.{w32}
use mir.Val.{of_z}
use Rattle.value.specs.Test.{guard, ◌<?◌, ◌≤?◌, ◌=?◌, ◌and◌}
use Rattle.value.specs.Primitive.{in32}
use Rattle.value.proofs.Tests.{cases, goes, stops, yes, no, eq!, eq×, lt!, lt×, lt?, lt×?, le!, le×, both?, both! }
use Rattle.value.proofs.Tests.{le?, left×, right×, true_and}
use Rattle.value.proofs.Tests.{same_test}
use Rattle.program.specs.Bytes.{byte}
use Rattle.haai.specs.Word.{signs, sign_at, among}
use Rattle.haai.specs.Word.{same_word, position, every, is_digit, decimal, has_minus, digits, integer_of, is_number}
use Rattle.std.specs.List.{list_all}
use Rattle.std.specs.Cmp.Lexicographic.{pointwise}
use Rattle.std.specs.Prelude.{Some, None, take, ◌%◌}
use lib.Dec.{eqb}
use Rattle.haai.specs.Clauses.{most, capped, magnitude_of, number_of, sign_of}
use Rattle.haai.specs.declared.Sign.{Sign}

-- ---- a word from byte i on

pub drop_next : (l : List ℕ) (i : ℕ) → i < length l → drop i l ≡ byte l i ∷ drop (i + 1) l
unfolding byte
drop_next l i h = let e : i + 1 ≡ suc i = omega arith in rw e (drop-cons l i 0 h)

-- ---- every byte

pub every_is : (ok : ℕ → Bool) (xs : List ℕ) → list_all ok xs ≡ every ok xs
unfolding every
every_is ok [] = refl
every_is ok (x ∷ xs) =
    cases (ok x)
    (λ e. goes _ _ e (rw e (every_is ok xs)))
    (λ e. stops _ e (rw e refl))

-- ---- two words

pub same_is : (a b : List ℕ) → pointwise eqb a b ≡ same_word a b
unfolding same_word ◌=?◌
same_is [] [] = refl
same_is [] (y ∷ ys) = refl
same_is (x ∷ xs) [] = refl
same_is (x ∷ xs) (y ∷ ys) =
    cases (x =? y)
    (λ e. goes _ _ e (rw e (same_is xs ys)))
    (λ e. stops _ e (rw e refl))

-- ---- decimal digits, capped

pub capped_is : (n : ℕ) → n < most → n ≡ capped n
unfolding capped
capped_is n h = yes _ (lt! h) refl

pub capped-most : (n : ℕ) → most ≤ n → most ≡ capped n
unfolding capped
capped-most n h = no _ (lt× h) refl

pub capped_le : (n : ℕ) → capped n ≤ most
capped_le n =
    cases (n <? most)
    (λ e. let l : n < most = lt? e in let q = capped_is n l in omega arith)
    (λ e. let q = capped-most n (lt×? e) in omega arith)

-- what is capped at once is the same as what is capped on the way
capped_step : (u v d : ℕ) → capped u ≡ capped v → capped (10 * u + d) ≡ capped (10 * v + d)
capped_step u v d e =
    cases (u <? most)
    (λ p. cases (v <? most)
    (λ q. let s : u ≡ v = capped_is u (lt? p) ∙ e ∙ sym (capped_is v (lt? q)) in ap (λ (n : ℕ). capped (10 * n + d)) s)
    (λ q.
    let l : u < most = lt? p in
    let a = capped_is u l in
    let b = capped-most v (lt×? q) in
    absurd (omega arith)))
    (λ p. cases (v <? most)
    (λ q.
    let l : v < most = lt? q in
    let a = capped-most u (lt×? p) in
    let b = capped_is v l in
    absurd (omega arith))
    (λ q.
    let l : most ≤ u = lt×? p in
    let k : most ≤ v = lt×? q in
    sym (capped-most (10 * u + d) (omega arith)) ∙ capped-most (10 * v + d) (omega arith)))

capped_all : (cs : List ℕ) (u v : ℕ) → capped u ≡ capped v → capped (decimal u cs) ≡ capped (decimal v cs)
unfolding decimal
capped_all [] u v e = e
capped_all (c ∷ cs) u v e = capped_all cs (10 * u + (c - 48)) (10 * v + (c - 48)) (capped_step u v (c - 48) e)

pub capped_twice : (n : ℕ) → capped (capped n) ≡ capped n
capped_twice n =
    cases (n <? most)
    (λ e. ap capped (sym (capped_is n (lt? e))))
    (λ e. let q = capped-most n (lt×? e) in ap capped (sym q) ∙ sym (capped-most most (omega arith)) ∙ q)

decimal_of : (v c : ℕ) (cs : List ℕ) → decimal v (c ∷ cs) ≡ decimal (10 * v + (c - 48)) cs
unfolding decimal
decimal_of v c cs = refl

pub digit_next : (w : List ℕ) (i v r : ℕ) → i < length w → r ≡ capped (10 * v + (byte w i - 48))
    → capped (decimal v (drop i w)) ≡ capped (decimal r (drop (i + 1) w))
digit_next w i v r h e =
    ap (λ (l : List ℕ). capped (decimal v l)) (drop_next w i h)
    ∙ ap capped (decimal_of v (byte w i) (drop (i + 1) w))
    ∙ capped_all (drop (i + 1) w) (10 * v + (byte w i - 48)) r
    (sym (capped_twice (10 * v + (byte w i - 48))) ∙ ap capped (sym e))

pub digit_done : (w : List ℕ) (i v : ℕ) → length w ≤ i → v ≤ most → v ≡ capped (decimal v (drop i w))
unfolding decimal
digit_done w i v h l =
    rw (drop_of_length-le w {i = i} h)
    (cases (v <? most) (λ e. capped_is v (lt? e))
    (λ e. let k : most ≤ v = lt×? e in let q : v ≡ most = omega arith in q ∙ capped-most v k))

-- ---- the first of some words that is w

pub position_none : (w : List ℕ) → 0 ≡ position [] w
unfolding position
position_none w = refl

module _ (x : List ℕ) (xs : List (List ℕ)) (w : List ℕ) where
  pub position_here : same_word x w ≡ true → 0 ≡ position (x ∷ xs) w
  unfolding position
  position_here e = stops _ (ap not e) refl

  pub position_next : (n : ℕ) → same_word x w ≡ false → n ≡ position xs w → 1 + n ≡ position (x ∷ xs) w
  unfolding position
  position_next n e h = goes _ _ (ap not e) (ap (λ (m : ℕ). 1 + m) h)

-- ---- numbers

not_less : (a b : ℕ) → not (ltb a b) ≡ (b ≤? a)
unfolding ◌<?◌
not_less a b = cases (a <? b) (λ e. ap not e ∙ sym (le× (lt? e))) (λ e. ap not e ∙ sym (le! (lt×? e)))

and_true : (t : Bool) → (t && true) ≡ t
and_true true = refl
and_true false = refl

pub in32_above : (n : ℕ) → in32 (pos n) ≡ (n ≤? 2147483647)
in32_above n = not_less 2147483647 n

pub in32_below : (n : ℕ) → in32 (neg_ℤ (pos n)) ≡ (n ≤? 2147483648)
in32_below zero = sym (le! (omega arith))
in32_below (suc n) =
    and_true (not (ltb 2147483647 n))
    ∙ not_less 2147483647 n
    ∙ same_test (n ≤? 2147483647) (suc n ≤? 2147483648) (λ e. le! (let l : n ≤ 2147483647 = le? e in omega arith))
    (λ e. le! (let l : suc n ≤ 2147483648 = le? e in omega arith))

-- a number that is capped is exact below the cap, and no larger than what it caps
capped_exact : (n m : ℕ) → m ≡ capped n → m < most → m ≡ n
capped_exact n m e l =
    cases (n <? most) (λ q. e ∙ sym (capped_is n (lt? q)))
    (λ q. let k = capped-most n (lt×? q) in absurd (omega arith))

capped_below : (n m k : ℕ) → m ≡ capped n → k ≤ m → k ≤ n
capped_below n m k e l =
    cases (n <? most) (λ q. let z = capped_is n (lt? q) in omega arith)
    (λ q. let z = capped-most n (lt×? q) in let y : most ≤ n = lt×? q in omega arith)

minus_is : (w : List ℕ) → pointwise eqb (take 1 w) (45 ∷ []) ≡ has_minus w
unfolding has_minus byte ◌=?◌
minus_is [] = refl
minus_is (x ∷ xs) = and_true (eqb x 45)

pub with_minus : (w d : List ℕ) → pointwise eqb (take 1 w) (45 ∷ []) ≡ true → d ≡ drop 1 w
    → (has_minus w ≡ true) × (d ≡ digits w)
unfolding digits
with_minus w d e f = let h = sym (minus_is w) ∙ e in (h, f ∙ yes _ h refl)

pub no_minus : (w : List ℕ) → pointwise eqb (take 1 w) (45 ∷ []) ≡ false → (has_minus w ≡ false) × (w ≡ digits w)
unfolding digits
no_minus w e = let h = sym (minus_is w) ∙ e in (h, no _ h refl)

-- two's complement
minus : (n : ℕ) → 4294967296 - suc n ≡ of_z w32 (neg_ℤ (pos (suc n)))
minus n = omega arith

minus_value : (n x : ℕ) → n ≤ 2147483648 → x < 4294967296 → (x + n) % 4294967296 ≡ 0 → x ≡ of_z w32 (neg_ℤ (pos n))
minus_value zero x l h e = let z : x ≡ 0 = omega arith in z
minus_value (suc n) x l h e = let z : x ≡ 4294967296 - suc n = omega arith in z ∙ minus n

module _ (w : List ℕ) where
  abbrev of_digits : Bool
  of_digits = (0 <? length (digits w)) and every is_digit (digits w)

  abbrev worth : ℕ
  worth = decimal 0 (digits w)

  fits : of_digits ≡ true → in32 (integer_of w) ≡ true → is_number w ≡ true
  unfolding is_number
  fits e f = let b = both? e in both! b.0 (both! b.1 f)

  fits_not : in32 (integer_of w) ≡ false → is_number w ≡ false
  unfolding is_number
  fits_not f = right× _ (right× _ f)

  no_digits : of_digits ≡ false → is_number w ≡ false
  unfolding is_number
  no_digits e =
      cases (0 <? length (digits w)) (λ q. right× _ (left× _ (sym (true_and _ q) ∙ e))) (λ q. left× _ q)

  pub number_none : None ≡ magnitude_of (digits w) → None ≡ number_of w
  unfolding magnitude_of number_of
  number_none e =
      cases of_digits
      (λ q. let z : None ≡ Some (capped worth) = e ∙ sym (yes _ q refl) in absurd (cc))
      (λ q. no _ (no_digits q) refl)

  module _ (m : ℕ) (e : Some m ≡ magnitude_of (digits w)) where
    ready : (of_digits ≡ true) × (m ≡ capped worth)
    unfolding magnitude_of
    ready =
        cases of_digits
        (λ q. let z : Some m ≡ Some (capped worth) = e ∙ sym (yes _ q refl) in (q, cc))
        (λ q. let z : Some m ≡ None = e ∙ sym (no _ q refl) in absurd (cc))

    refused : in32 (integer_of w) ≡ false → None ≡ number_of w
    unfolding number_of
    refused f = no _ (fits_not f) refl

    found : (x : ℕ) → in32 (integer_of w) ≡ true → x ≡ of_z w32 (integer_of w) → Some x ≡ number_of w
    unfolding number_of
    found x f z = yes _ (fits ready.0 f) (ap (λ (y : ℕ). Some y) z)

    pub number_found : has_minus w ≡ false → m < 2147483648 → Some m ≡ number_of w
    unfolding integer_of
    number_found h l =
        let z : pos worth ≡ integer_of w = no _ h refl in
        let q : m ≡ worth = capped_exact worth m ready.1 (omega arith) in
        found m (ap in32 (sym z) ∙ in32_above worth ∙ le! (omega arith)) (q ∙ ap (λ (y : ℤ). of_z w32 y) z)

    pub number_large : has_minus w ≡ false → 2147483648 ≤ m → None ≡ number_of w
    unfolding integer_of
    number_large h l =
        let z : pos worth ≡ integer_of w = no _ h refl in
        let q : 2147483648 ≤ worth = capped_below worth m 2147483648 ready.1 l in
        refused (ap in32 (sym z) ∙ in32_above worth ∙ le× (omega arith))

    pub minus_found : (x : ℕ) → has_minus w ≡ true → m < most → x < 4294967296 → (x + m) % 4294967296 ≡ 0
        → Some x ≡ number_of w
    unfolding integer_of
    minus_found x h l r s =
        let z : neg_ℤ (pos worth) ≡ integer_of w = yes _ h refl in
        let q : m ≡ worth = capped_exact worth m ready.1 l in
        found x (ap in32 (sym z) ∙ in32_below worth ∙ le! (omega arith))
        (minus_value worth x (omega arith) r (ap (λ (y : ℕ). (x + y) % 4294967296) (sym q) ∙ s)
        ∙ ap (λ (y : ℤ). of_z w32 y) z)

    pub minus_large : has_minus w ≡ true → most ≤ m → None ≡ number_of w
    unfolding integer_of
    minus_large h l =
        let z : neg_ℤ (pos worth) ≡ integer_of w = yes _ h refl in
        let q : most ≤ worth = capped_below worth m most ready.1 l in
        refused (ap in32 (sym z) ∙ in32_below worth ∙ le× (omega arith))

-- ---- signs

module _ (w : List ℕ) where
  pub sign_found : (s : Sign) → Some s ≡ sign_of w → (among signs w ≡ true) × (s ≡ sign_at (position signs w))
  unfolding sign_of
  sign_found s e =
      cases (among signs w)
      (λ q. let z : Some s ≡ Some (sign_at (position signs w)) = e ∙ sym (yes _ q refl) in (q, cc))
      (λ q. let z : Some s ≡ None = e ∙ sym (no _ q refl) in absurd (cc))

  pub sign_none : None ≡ sign_of w → among signs w ≡ false
  unfolding sign_of
  sign_none e =
      cases (among signs w)
      (λ q. let z : None ≡ Some (sign_at (position signs w)) = e ∙ sym (yes _ q refl) in absurd (cc))
      (λ q. q)
