-- What each primitive gives: `primitive_laws`. Assumes nothing.
use Rattle.std.specs.Prelude.{ℕ, suc, ◌+◌, ◌-◌, ◌≤◌, ◌<◌, ◌≡◌, refl, ◌≢◌}
use Rattle.std.proofs.Common.{sym, ◌∙◌, ap, subst, inl, inr, ⊎_elim}
use Rattle.std.specs.Prelude.{Bool, true, false, not}
use Rattle.std.proofs.Common.{true≢false, arith}
use Rattle.std.proofs.lemmas.Bool.{false≢true}
use Rattle.std.proofs.Common.{eqb, ℤ, pos, negsuc, ◌+ℤ◌, nat_abs, ltb-false, ltb-true, lt-ltb, eqb-true}
use lib.IntN.{pos-ne-negsuc}
use lib.Signed.{lt_z, quot_z}
use borrow.Author.Tests.{eqb-false}
use Rattle.value.specs.Test.{pick, ◌and◌, ◌or◌, ◌=?◌}
use Rattle.value.specs.Value.{blank_mark, blank, truth, is_blank, is_number, is_truth, is_true}
use Rattle.value.specs.Primitive.{within, same_int, quotient, operation, on_numbers, on_truth, settles}
use Rattle.value.specs.Primitive.{settled_by, known, choose, instead, table, row_of, primitive}
use Rattle.value.specs.Laws.{Numbers, Less, Tells, Conjunction, Disjunction, TruthOrBlank, Strict}
use Rattle.value.specs.Laws.{PrimitiveLaws}
use Rattle.value.specs.declared.Value.{Value}
use Rattle.value.specs.declared.Operation.TheVariants.{Add, Subtract, Times, Divide, Less as LessOf, Equal}
use Rattle.value.proofs.Tests.{eq!, eq×, eq?, eq×?, both!, right×, yes, no, not_true, not_false}
use Rattle.value.proofs.Integers.{is_within, nonzero}
use Rattle.value.proofs.Rows.{Each, each}
use Rattle.value.proofs.Division.{exact_quotient}
use Rattle.value.proofs.Ticks.{over, under, same, sum, exact_difference}

-- ---- integers

is_out : (n : ℕ) → 2147483647 < n → (within (pos n) ≡ blank) × (within (negsuc n) ≡ blank)
unfolding within pick
is_out n h = (rw (lt-ltb 2147483647 n h) refl, rw (lt-ltb 2147483647 n h) refl)

tells : (t : Bool) {A : Type 0} → (t ≡ true → A) → (t ≡ false → A → ⊥) → Tells (truth t) A
tells true f g = inl (refl, f refl)
tells false f g = inr (refl, g refl)

-- x and y compared by what they are over and under zero
less_so : (x y : ℤ) → lt_z x y ≡ true → over x + under y < over y + under x
less_so (pos a) (pos b) e = omega (arith, ltb-true a b e)
less_so (pos a) (negsuc b) e = absurd (false≢true e)
less_so (negsuc a) (pos b) e = omega arith
less_so (negsuc a) (negsuc b) e = omega (arith, ltb-true b a e)

less_not : (x y : ℤ) → lt_z x y ≡ false → over y + under x ≤ over x + under y
less_not (pos a) (pos b) e = omega (arith, ltb-false a b e)
less_not (pos a) (negsuc b) e = omega arith
less_not (negsuc a) (pos b) e = absurd (true≢false e)
less_not (negsuc a) (negsuc b) e = omega (arith, ltb-false b a e)

less_told : (x y : ℤ) → Tells (truth (lt_z x y)) (Less x y)
less_told x y =
    tells (lt_z x y)
    (λ e.
    let d = over y + under x - suc (over x + under y) in
    (d, same (x +ℤ pos (suc d)) y (omega (arith, less_so x y e, sum x (pos (suc d))))))
    (λ e h. omega (arith, less_not x y e, sum x (pos (suc h.0)), ap over h.1, ap under h.1))

equal_told : (x y : ℤ) → Tells (truth (same_int x y)) (x ≡ y)
equal_told (pos a) (pos b) = tells (eqb a b) (λ e. ap pos (eqb-true a b e)) (λ e h. eqb-false a b e (ap nat_abs h))
equal_told (pos a) (negsuc b) = inr (refl, pos-ne-negsuc a b)
equal_told (negsuc a) (pos b) = inr (refl, λ h. pos-ne-negsuc b a (sym h))
equal_told (negsuc a) (negsuc b) =
    tells (eqb a b) (λ e. ap negsuc (eqb-true a b e)) (λ e h. eqb-false a b e (omega (arith, ap nat_abs h)))

by_some : (x y : ℤ) → y ≢ pos 0 → quotient x y ≡ within (quot_z x y)
unfolding quotient
by_some x y h = sym (no _ (nonzero y h) refl)

-- ---- two numbers

on_both : {a b : Value} {x y : ℤ} → Numbers a b x y → (f : ℤ → ℤ → Value) → on_numbers f a b ≡ f x y
unfolding on_numbers is_number
on_both h f = sym (yes _ (both! (eq! h.first) (eq! h.second)) (rw (h.is_x, h.is_y) refl))

-- ---- truths

unlike : (t : Bool) → blank ≢ truth t
unlike t e = omega (arith, ap (λ (v : Value). v.mark) e)

opposed : truth true ≢ truth false
opposed e = omega (arith, ap (λ (v : Value). v.content) e)

-- what holds of both truths and of blank, and of any two of the three
abbrev OfThree : (Value → Type 0) → Type 0
OfThree P = P (truth true) × P (truth false) × P blank

any : (P : Value → Type 0) → OfThree P → {v : Value} → TruthOrBlank v → P v
any P t (inl e) = subst P (sym e) t.0
any P t (inr (inl e)) = subst P (sym e) t.1
any P t (inr (inr e)) = subst P (sym e) t.2

any_two :
    (P : Value → Value → Type 0) →
    OfThree (λ a. OfThree (P a)) →
    {a b : Value} →
    TruthOrBlank a →
    TruthOrBlank b →
    P a b
any_two P t {a} h k = any (P a) (any (λ a. OfThree (P a)) t h) k

module _ (a b c : Value) where
  conjunction : TruthOrBlank a → TruthOrBlank b → Conjunction (primitive 8 a b c) a b
  unfolding primitive row_of table settled_by settles is_truth is_true pick ◌and◌ ◌or◌ ◌=?◌
  conjunction =
      any_two (λ a b. Conjunction (primitive 8 a b c) a b) (
        (
          inl (refl, (refl, refl)),
          inr (inl (refl, inr refl)),
          inr (inr (refl, (λ e. unlike true e.1), ⊎_elim opposed (unlike false))),
        ),
        (inr (inl (refl, inl refl)), inr (inl (refl, inl refl)), inr (inl (refl, inl refl))),
        (
          inr (inr (refl, (λ e. unlike true e.0), ⊎_elim (unlike false) opposed)),
          inr (inl (refl, inr refl)),
          inr (inr (refl, (λ e. unlike true e.0), ⊎_elim (unlike false) (unlike false))),
        ),
      )

  disjunction : TruthOrBlank a → TruthOrBlank b → Disjunction (primitive 9 a b c) a b
  unfolding primitive row_of table settled_by settles is_truth is_true pick ◌and◌ ◌or◌ ◌=?◌
  disjunction =
      any_two (λ a b. Disjunction (primitive 9 a b c) a b) (
        (inl (refl, inl refl), inl (refl, inl refl), inl (refl, inl refl)),
        (
          inl (refl, inr refl),
          inr (inl (refl, (refl, refl))),
          inr (inr (refl, ⊎_elim (λ e. opposed (sym e)) (unlike true), (λ e. unlike false e.1))),
        ),
        (
          inl (refl, inr refl),
          inr (inr (refl, ⊎_elim (unlike true) (λ e. opposed (sym e)), (λ e. unlike false e.0))),
          inr (inr (refl, ⊎_elim (unlike true) (unlike true), (λ e. unlike false e.0))),
        ),
      )

-- ---- a blank operand

strict : (Q : ℕ → Type 0) → Each Q 0 4 → Each Q 5 3 → Q 13 → (x : ℕ) → Strict x → Q x
strict Q f g q x (inl h) = each Q 0 4 f x (omega arith) (omega arith)
strict Q f g q x (inr (inl h)) = each Q 5 3 g x h.0 (omega (arith, h.1))
strict Q f g q x (inr (inr e)) = subst Q (sym e) q

first_blank : (x : ℕ) (b c : Value) → Strict x → primitive x blank b c ≡ blank
unfolding primitive row_of table on_numbers on_truth is_number is_truth pick ◌and◌ ◌=?◌
first_blank x b c =
    strict (λ x. primitive x blank b c ≡ blank) (refl, (refl, (refl, (refl, tt)))) (refl, (refl, (refl, tt))) refl x

no_number : (a : Value) (f : ℤ → ℤ → Value) → on_numbers f a blank ≡ blank
unfolding on_numbers is_number
no_number a f = sym (no _ (right× (is_number a) (unfold ◌=?◌ in refl)) refl)

second_blank : (x : ℕ) (a c : Value) → Strict x → x ≢ 7 → primitive x a blank c ≡ blank
unfolding primitive row_of table
second_blank x a c =
    strict (λ x. x ≢ 7 → primitive x a blank c ≡ blank)
    ((λ k. no_number a _), ((λ k. no_number a _), ((λ k. no_number a _), ((λ k. no_number a _), tt))))
    ((λ k. no_number a _), ((λ k. no_number a _), ((λ k. absurd (k refl)), tt)))
    (λ k. no_number a _)
    x

-- ---- any kind

is_known : (a b c : Value) → Tells (primitive 10 a b c) (a.mark ≢ blank_mark)
unfolding primitive row_of table known is_blank
is_known a b c =
    tells (not (a.mark =? blank_mark))
    (λ e. eq×? (not_true (a.mark =? blank_mark) e))
    (λ e h. h (eq? (not_false (a.mark =? blank_mark) e)))

first_taken : (a b c : Value) → a.mark ≢ blank_mark → primitive 12 a b c ≡ a
unfolding primitive row_of table instead is_blank
first_taken a b c h = sym (no _ (eq× h) refl)

-- ---- all

pub primitive_laws : PrimitiveLaws
unfolding primitive row_of table operation quotient on_truth choose instead is_blank is_truth is_true pick ◌=?◌
primitive_laws =
    record {
      inside = λ n h. (
        is_within (pos n) (record { sfits = omega arith }),
        is_within (negsuc n) (record { sfits = omega arith }),
      );
      outside = is_out;
      add = λ a b c x y h. on_both h (operation Add);
      subtract = λ a b c x y h. on_both h (operation Subtract);
      times = λ a b c x y h. on_both h (operation Times);
      divide = λ a b c x y h k.
          let d = (exact_quotient x y (quot_z x y) k).0 refl in
          (quot_z x y, d.0, d.1, on_both h (operation Divide) ∙ by_some x y k);
      divide_by_zero = λ a b c x h. on_both h (operation Divide);
      less = λ a b c x y h. rw (on_both h (operation LessOf)) (less_told x y);
      equal = λ a b c x y h. rw (on_both h (operation Equal)) (equal_told x y);
      tick_difference = exact_difference;
      not = λ b c. (refl, refl);
      and = conjunction;
      or = disjunction;
      blank_first = first_blank;
      blank_second = second_blank;
      known = is_known;
      choose = λ b c. (refl, refl, refl);
      instead = first_taken;
      instead_of_blank = λ b c. refl;
    }
