-- Laws of the tests of specs/Test.antt: what a shut test, choice or ladder is worth, and what it says, so that
-- no proof opens one. `lt!` gives the test from the fact, `lt×` its failing, `lt?` the fact from the test,
-- `lt×?` the fact from its failing; and so for `le`, `eq`, `both`, `or`. A return after tests reads `yes _ (eq!
-- ..) (no _ (lt× ..) ..)`, test by test in the definition's order, and one of a ladder `goes _ _ (le! ..) (stops
-- _ (le× ..) refl)`. Assumes nothing.
use Rattle.std.specs.Prelude.{ℕ, suc, ◌≤◌, ◌<◌, ◌≡◌, refl, ◌⊎◌, ◌↔◌, ◌≢◌, Bool, true}
use Rattle.std.proofs.Common.{sym, ◌∙◌, ap, inl, inr}
use Rattle.std.specs.Prelude.{false, not, ◌&&◌, ◌||◌}
use Rattle.std.proofs.Common.{true≢false, arith}
use Rattle.std.proofs.lemmas.Bool.{false≢true}
use Rattle.std.proofs.Common.{eqb, ltb, leb, ltb-false, ltb-true, le-ltb, lt-ltb, eq-eqb, ne_eqb, eqb-true, le-leb, leb-false, leb-true}
use borrow.Author.Tests.{lt-leb}
use borrow.Author.Tests.{eqb-false}
use Rattle.value.specs.Test.{pick, need, guard, ◌<?◌, ◌≤?◌, ◌=?◌, ◌and◌, ◌or◌}

-- ---- by cases on a test

pub cases : {C : Type 0} (t : Bool) → (t ≡ true → C) → (t ≡ false → C) → C
cases true f g = f refl
cases false f g = g refl

pub clash : {t : Bool} {C : Type 0} → t ≡ true → t ≡ false → C
clash e f = absurd (true≢false (sym e ∙ f))

-- two tests that hold at once are one
pub same_test : (s t : Bool) → (s ≡ true → t ≡ true) → (t ≡ true → s ≡ true) → s ≡ t
same_test true t f g = sym (f refl)
same_test false true f g = g refl
same_test false false f g = refl

-- the one of two that is left
pub remains : {A B : Type 0} → (A → ⊥) → A ⊎ B → B
remains d (inl a) = absurd (d a)
remains d (inr b) = b

-- ---- numbers

module _ {a b : ℕ} where
  pub lt! : a < b → (a <? b) ≡ true
  unfolding ◌<?◌
  lt! h = lt-ltb _ _ h

  pub lt× : b ≤ a → (a <? b) ≡ false
  unfolding ◌<?◌
  lt× h = le-ltb _ _ h

  pub lt? : (a <? b) ≡ true → a < b
  unfolding ◌<?◌
  lt? e = ltb-true _ _ e

  pub lt×? : (a <? b) ≡ false → b ≤ a
  unfolding ◌<?◌
  lt×? e = ltb-false _ _ e

  pub le! : a ≤ b → (a ≤? b) ≡ true
  unfolding ◌≤?◌
  le! h = le-leb _ _ h

  pub le× : b < a → (a ≤? b) ≡ false
  unfolding ◌≤?◌
  le× h = lt-leb _ _ h

  pub le? : (a ≤? b) ≡ true → a ≤ b
  unfolding ◌≤?◌
  le? e = leb-true _ _ e

  pub le×? : (a ≤? b) ≡ false → b < a
  unfolding ◌≤?◌
  le×? e = leb-false _ _ e

  pub eq! : a ≡ b → (a =? b) ≡ true
  unfolding ◌=?◌
  eq! h = eq-eqb _ _ h

  pub eq× : (a ≡ b → ⊥) → (a =? b) ≡ false
  unfolding ◌=?◌
  eq× h = ne_eqb _ _ h

  pub eq? : (a =? b) ≡ true → a ≡ b
  unfolding ◌=?◌
  eq? e = eqb-true _ _ e

  pub eq×? : (a =? b) ≡ false → a ≡ b → ⊥
  unfolding ◌=?◌
  eq×? e = eqb-false _ _ e

pub below : (a b : ℕ) → (a < b) ⊎ (b ≤ a)
below a b = cases (a <? b) (λ e. inl (lt? e)) (λ e. inr (lt×? e))

pub same? : (a b : ℕ) → (a ≡ b) ⊎ (a ≢ b)
same? a b = cases (a =? b) (λ e. inl (eq? e)) (λ e. inr (eq×? e))

-- ---- and, or

module _ {s t : Bool} where
  pub both! : s ≡ true → t ≡ true → (s and t) ≡ true
  unfolding ◌and◌
  both! e f = simp (e, f)

  pub or! : s ≡ false → t ≡ true → (s or t) ≡ true
  unfolding ◌or◌
  or! e f = simp (e, f)

  pub or× : s ≡ false → t ≡ false → (s or t) ≡ false
  unfolding ◌or◌
  or× e f = simp (e, f)

pub left× : {s : Bool} (t : Bool) → s ≡ false → (s and t) ≡ false
unfolding ◌and◌
left× t e = simp e

pub right× : {t : Bool} (s : Bool) → t ≡ false → (s and t) ≡ false
unfolding ◌and◌
right× true e = e
right× false e = refl

pub either! : {s : Bool} (t : Bool) → s ≡ true → (s or t) ≡ true
unfolding ◌or◌
either! t e = simp e

pub right! : {t : Bool} (s : Bool) → t ≡ true → (s or t) ≡ true
unfolding ◌or◌
right! true e = refl
right! false e = e

pub true_and : {s : Bool} (t : Bool) → s ≡ true → (s and t) ≡ t
unfolding ◌and◌
true_and t e = simp e

pub both? : {s t : Bool} → (s and t) ≡ true → (s ≡ true) × (t ≡ true)
unfolding ◌and◌
both? {s = true} e = (refl, e)
both? {s = false} e = absurd (false≢true e)

pub or? : {s t : Bool} → (s or t) ≡ true → (s ≡ true) ⊎ (t ≡ true)
unfolding ◌or◌
or? {s = true} e = inl refl
or? {s = false} e = inr e

pub or×? : {s t : Bool} → (s or t) ≡ false → (s ≡ false) × (t ≡ false)
unfolding ◌or◌
or×? {s = true} e = absurd (true≢false e)
or×? {s = false} e = (refl, e)

-- a test that is asked where another passes
pub implies : (s t : Bool) → ((not s or t) ≡ true) ↔ (s ≡ true → t ≡ true)
unfolding ◌or◌
implies true t = (λ e f. e, λ h. h refl)
implies false t = (λ e f. absurd (false≢true f), λ h. refl)

pub not_true : (t : Bool) → not t ≡ true → t ≡ false
not_true true e = absurd (false≢true e)
not_true false e = refl

pub not_false : (t : Bool) → not t ≡ false → t ≡ true
not_false true e = refl
not_false false e = absurd (true≢false e)

-- ---- a test of the code and the definition's

-- the machine's `&` of two flags
pub flags : (s t : Bool) → (s && t) ≡ (s and t)
unfolding ◌and◌
flags true t = refl
flags false t = refl

pub flags_or : (s t : Bool) → (s || t) ≡ (s or t)
unfolding ◌or◌
flags_or true t = refl
flags_or false t = refl

module _ {a b c d : ℕ} (e : a ≡ c) (f : b ≡ d) where
  pub same_lt : ltb a b ≡ (c <? d)
  unfolding ◌<?◌
  same_lt = simp (e, f)

  pub same_le : leb a b ≡ (c ≤? d)
  unfolding ◌≤?◌
  same_le = simp (e, f)

  pub same_eq : eqb a b ≡ (c =? d)
  unfolding ◌=?◌
  same_eq = simp (e, f)

module _ {s t u v : Bool} (e : s ≡ u) (f : t ≡ v) where
  pub same_and : (s && t) ≡ (u and v)
  same_and = flags s t ∙ ap (λ (x : Bool). x and t) e ∙ ap (λ (x : Bool). u and x) f

  pub same_or : (s || t) ≡ (u or v)
  same_or = flags_or s t ∙ ap (λ (x : Bool). x or t) e ∙ ap (λ (x : Bool). u or x) f

-- `s & t & u` groups to the left, a definition's tests to the right
and_to_right : (s t u : Bool) → ((s && t) && u) ≡ (s && (t && u))
and_to_right true t u = refl
and_to_right false t u = refl

or_to_right : (s t u : Bool) → ((s || t) || u) ≡ (s || (t || u))
or_to_right true t u = refl
or_to_right false t u = refl

module _ {s t u a b c : Bool} (e : s ≡ a) (f : t ≡ b) (g : u ≡ c) where
  pub same_and3 : ((s && t) && u) ≡ (a and b and c)
  same_and3 = and_to_right s t u ∙ same_and e (same_and f g)

  module _ {v d : Bool} (h : v ≡ d) where
    pub same_and4 : (((s && t) && u) && v) ≡ (a and b and c and d)
    same_and4 = and_to_right (s && t) u v ∙ and_to_right s t (u && v) ∙ same_and e (same_and f (same_and g h))

    module _ {w m : Bool} (k : w ≡ m) where
      pub same_or5 : ((((s || t) || u) || v) || w) ≡ (a or b or c or d or m)
      same_or5 =
          or_to_right ((s || t) || u) v w ∙ or_to_right (s || t) u (v || w) ∙ or_to_right s t (u || (v || w))
          ∙ same_or e (same_or f (same_or g (same_or h k)))

-- a flag of the code that was tested by `if !flag`, and the definition's test that it equals
module _ {s t : Bool} (e : s ≡ t) where
  pub refused : not s ≡ true → t ≡ false
  refused h = sym e ∙ not_true s h

  pub passed : not s ≡ false → t ≡ true
  passed h = sym e ∙ not_false s h

-- ---- choices and ladders

module _ {A : Type 0} {t : Bool} where
  pub yes : {x z : A} (y : A) → t ≡ true → z ≡ x → z ≡ pick t x y
  unfolding pick
  yes y e h = simp e h

  pub no : {y z : A} (x : A) → t ≡ false → z ≡ y → z ≡ pick t x y
  unfolding pick
  no x e h = simp e h

  pub goes : {z : A} (bad : A) (more : Unit {0} → A) → t ≡ true → z ≡ more tt → z ≡ guard t bad more
  unfolding guard
  goes bad more e h = simp e h

  pub stops : {bad z : A} (more : Unit {0} → A) → t ≡ false → z ≡ bad → z ≡ guard t bad more
  unfolding guard
  stops more e h = simp e h

-- what holds of both answers holds of the one picked
pub pick_any : {A : Type 0} (Q : A → Type 0) (t : Bool) {x y : A} → (t ≡ true → Q x) →
    (t ≡ false → Q y) → Q (pick t x y)
unfolding pick
pick_any Q true f g = f refl
pick_any Q false f g = g refl

module _ {A : Type 0} (P : A → Type 0) where
  -- what holds of a choice
  pub picks : (t : Bool) (x y : A) → P (pick t x y) ↔ ((t ≡ true → P x) × (t ≡ false → P y))
  unfolding pick
  picks true x y = (λ h. (λ e. h, λ e. absurd (true≢false e)), λ h. h.0 refl)
  picks false x y = (λ h. (λ e. absurd (false≢true e), λ e. h), λ h. h.1 refl)

  -- what holds of a ladder, but not where it stops
  pub guards : (t : Bool) (bad : A) (more : Unit {0} → A) → (P bad → ⊥) →
      P (guard t bad more) ↔ ((t ≡ true) × P (more tt))
  unfolding guard
  guards true bad more never = (λ h. (refl, h), λ h. h.1)
  guards false bad more never = (λ h. absurd (never h), λ h. absurd (false≢true h.0))

-- a ladder of refusals that ends in none
pub need? : (t : Bool) (n rest : ℕ) → (n ≡ 0 → ⊥) → need t n rest ≡ 0 → (t ≡ true) × (rest ≡ 0)
unfolding pick
need? true n rest never e = (refl, e)
need? false n rest never e = absurd (never e)

pub need! : (t : Bool) (n rest : ℕ) → t ≡ true → rest ≡ 0 → need t n rest ≡ 0
need! t n rest e f = sym (yes n e (sym f))

-- ---- what a test says

-- the test t holds exactly where A does; compound tests say what their parts say
abbrev pub Says : Bool → Type 0 → Type 0
Says t A = (t ≡ true) ↔ A

module _ {a b : ℕ} where
  pub says_lt : Says (a <? b) (a < b)
  says_lt = (lt?, lt!)

  pub says_le : Says (a ≤? b) (a ≤ b)
  says_le = (le?, le!)

  pub says_eq : Says (a =? b) (a ≡ b)
  says_eq = (eq?, eq!)

pub says_true : Says true (Unit {0})
says_true = ((λ e. tt), (λ u. refl))

pub says_false : Says false ⊥
says_false = (false≢true, (λ z. absurd z))

module _ {s t : Bool} {A B : Type 0} where
  pub says_and : Says s A → Says t B → Says (s and t) (A × B)
  says_and f g =
      ((λ e. let h = both? {s = s} {t = t} e in (f.0 h.0, g.0 h.1)), (λ h. both! (f.1 h.0) (g.1 h.1)))

  pub says_or : Says s A → Says t B → Says (s or t) (A ⊎ B)
  says_or f g = (
    (λ e. elim (or? {s = s} {t = t} e) [ inl h ↦ inl (f.0 h) | inr h ↦ inr (g.0 h) ]),
    (λ h. elim h [ inl a ↦ either! t (f.1 a) | inr b ↦ right! s (g.1 b) ]),
  )

pub says_not : {t : Bool} {A : Type 0} → Says t A → Says (not t) (A → ⊥)
says_not {t = true} f = ((λ e a. false≢true e), (λ h. absurd (h (f.0 refl))))
says_not {t = false} f = ((λ e a. false≢true (f.1 a)), (λ h. refl))

-- a test fails exactly where what it says does not hold
pub says× : {t : Bool} {A : Type 0} → Says t A → (t ≡ false) ↔ (A → ⊥)
says× f = ((λ e a. clash (f.1 a) e), (λ n. not_true _ ((says_not f).1 n)))

-- A ladder refuses nothing exactly where each test holds; what a later one says may rest on the earlier.
pub says_need : {t : Bool} (n : ℕ) {rest : ℕ} {A B : Type 0} → Says t A → (A → (rest ≡ 0) ↔ B) →
    (need t (suc n) rest ≡ 0) ↔ (A × B)
unfolding pick
says_need {t = true} n f g = let a = f.0 refl in ((λ e. (a, (g a).0 e)), (λ h. (g a).1 h.1))
says_need {t = false} n f g = ((λ e. absurd (omega arith)), (λ h. absurd (false≢true (f.1 h.0))))

-- A ladder comes to an answer at its first rung, where A does not hold, or past it.
module _ {A : Type 0} where
  pub says_rung : {t : Bool} → Says t A → (n m rest : ℕ) →
      (need t n rest ≡ m) ↔ (((A → ⊥) × (n ≡ m)) ⊎ (A × (rest ≡ m)))
  unfolding pick
  says_rung {t = true} s n m rest =
      let a = s.0 refl in
      ((λ e. inr (a, e)), (λ h. elim h [ inl q ↦ absurd (q.0 a) | inr q ↦ q.1 ]))
  says_rung {t = false} s n m rest =
      let a = (says× s).0 refl in
      ((λ e. inl (a, e)), (λ h. elim h [ inl q ↦ q.1 | inr q ↦ absurd (a q.0) ]))

  pub says_guard : {B : Type 0} (P : B → Type 0) {t : Bool} → Says t A → (bad : B) (more : Unit {0} → B) →
      P (guard t bad more) ↔ (((A → ⊥) × P bad) ⊎ (A × P (more tt)))
  unfolding guard
  says_guard P {t = true} s bad more =
      let a = s.0 refl in
      ((λ e. inr (a, e)), (λ h. elim h [ inl q ↦ absurd (q.0 a) | inr q ↦ q.1 ]))
  says_guard P {t = false} s bad more =
      let a = (says× s).0 refl in
      ((λ e. inl (a, e)), (λ h. elim h [ inl q ↦ q.1 | inr q ↦ absurd (a q.0) ]))
