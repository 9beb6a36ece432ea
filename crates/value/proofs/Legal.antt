-- Legal operands give a legal result of the table's kind: `primitive_of_kind`, and every content is a word:
-- `primitive_word`. Both are one argument, row by row, over a family of values: `primitive_is`. Assumes nothing.
use Rattle.std.specs.Prelude.{ℕ, zero, suc, ◌^◌, ◌≤◌, ◌<◌, ◌≡◌, refl, Bool, true, false}
use Rattle.std.proofs.Common.{sym, subst, inl, inr}
use Rattle.std.specs.Prelude.{not, List, [], ◌∷◌, get_or}
use Rattle.std.proofs.Common.{arith}
use Rattle.std.proofs.Common.{ℤ, pos, negsuc, ◌+ℤ◌, ◌-ℤ◌, ◌*ℤ◌}
use lib.Signed.{lt_z, quot_z}
use Rattle.value.proofs.Integers.{in32_fits, round_in}
use Rattle.value.proofs.Tests.{pick_any, eq?, both?}
use Rattle.value.specs.Test.{pick, ◌and◌, ◌or◌, ◌=?◌}
use Rattle.value.specs.Value.{number_kind, truth_kind, mark_of, blank, number, truth, is_blank, is_number, is_truth}
use Rattle.value.specs.Value.{is_true, int_of, OfKind}
use Rattle.value.specs.Primitive.{in32, within, is_zero, same_int, quotient, goes_round, operation, on_numbers}
use Rattle.value.specs.Primitive.{on_truth, settles, settled_by, known, choose, instead, Row, row, numeric, table}
use Rattle.value.specs.Primitive.{none, row_of, primitive, count_of, operands, kinds_fit, kind_given}
use Rattle.value.specs.declared.Value.{Value}
use Rattle.value.specs.declared.Takes.{Takes}
use Rattle.value.specs.declared.Takes.TheVariants.{TwoNumbers, OneTruth, TwoTruths, OneOfAny, TruthThenTwo}
use Rattle.value.specs.declared.Takes.TheVariants.{TwoAlike}
use Rattle.value.specs.declared.Gives.{Gives}
use Rattle.value.specs.declared.Gives.TheVariants.{ANumber, ATruth, TheirKind}
use Rattle.value.specs.declared.Operation.{Operation}
use Rattle.value.specs.declared.Operation.TheVariants.{Add, Subtract, Times, Divide, Less, Equal, TickDifference}

-- ---- row by row

infixr 40 ◌◂◌
data Every (Q : Row → Type 0) : List Row → Type 0 where
  end : Every Q []
  ◌◂◌ : {r : Row} {rs : List Row} → Q r → Every Q rs → Every Q (r ∷ rs)

every : (Q : Row → Type 0) (rs : List Row) → Every Q rs → Q none → (x : ℕ) → Q (get_or rs x none)
every Q [] qs q x = q
every Q (r ∷ rs) (q₀ ◂ qs) q zero = q₀
every Q (r ∷ rs) (q₀ ◂ qs) q (suc x) = every Q rs qs q x

-- what holds of every row holds of any number's
every_row : (Q : Row → Type 0) → Every Q table → Q none → (x : ℕ) → Q (row_of x)
unfolding row_of
every_row Q qs q x = every Q table qs q x

-- ---- for any family of values by kind that has blank, the integers of 32 bits and the truths

module _
    (Is : ℕ → Value → Type 0)
    (is_blank_lem : (k : ℕ) → Is k blank)
    (is_number_lem : (z : ℤ) → in32 z ≡ true → Is number_kind (number z))
    (is_truth_lem : (t : Bool) → Is truth_kind (truth t))
  where
    -- what a row keeps: operands of fitting kinds, of those that it takes, give a value of its kind
    abbrev Kept : Row → Type 0
    Kept r =
        (j k l : ℕ) (a b c : Value) →
        kinds_fit r.takes j k l ≡ true →
        Is j a →
        (2 ≤ count_of r.takes → Is k b) →
        (3 ≤ count_of r.takes → Is l c) →
        Is (kind_given r.gives k) (r.means a b c)

    -- a value where the test holds, else blank
    unless_blank : (k : ℕ) (t : Bool) {v : Value} → (t ≡ true → Is k v) → Is k (pick t v blank)
    unless_blank k t h = pick_any (Is k) t h (λ e. is_blank_lem k)

    is_within : (z : ℤ) → Is number_kind (within z)
    unfolding within
    is_within z = unless_blank number_kind (in32 z) (is_number_lem z)

    is_quotient : (x y : ℤ) → Is number_kind (quotient x y)
    unfolding quotient
    is_quotient x y = pick_any (Is number_kind) (is_zero y) (λ e. is_blank_lem number_kind) (λ e. is_within (quot_z x y))

    -- the row that is withdrawn, and that of no primitive
    always_blank : (t : Takes) (g : Gives) → Kept (row t g (λ a b c. blank))
    always_blank t g j k l a b c fit ia ib ic = is_blank_lem (kind_given g k)

    numbers : (f : Operation) (g : Gives) →
        ((k : ℕ) (x y : ℤ) → Is (kind_given g k) (operation f x y)) → Kept (numeric f g)
    unfolding on_numbers
    numbers f g h j k l a b c fit ia ib ic =
        unless_blank (kind_given g k) (is_number a and is_number b) (λ e. h k (int_of a) (int_of b))

    settled : (t : Bool) → Kept (row TwoTruths ATruth (λ a b c. settled_by t a b))
    unfolding settled_by kind_given
    settled t j k l a b c fit ia ib ic =
        pick_any (Is truth_kind) (settles t a or settles t b)
        (λ e. is_truth_lem t)
        (λ e. unless_blank truth_kind (is_truth a and is_truth b) (λ f. is_truth_lem (not t)))

    one_truth : (f : Bool → Bool) → Kept (row OneTruth ATruth (λ a b c. on_truth f a))
    unfolding on_truth kind_given
    one_truth f j k l a b c fit ia ib ic = unless_blank truth_kind (is_truth a) (λ e. is_truth_lem (f (is_true a)))

    any : Kept (row OneOfAny ATruth (λ a b c. known a))
    unfolding known kind_given
    any j k l a b c fit ia ib ic = is_truth_lem (not (is_blank a))

    choice : Kept (row TruthThenTwo TheirKind choose)
    unfolding choose kind_given kinds_fit count_of
    choice j k l a b c fit ia ib ic =
        let as_second = subst (λ (n : ℕ). Is n c) (sym (eq? (both? {s = j =? truth_kind} fit).1)) (ic (omega arith)) in
        unless_blank k (is_truth a) (λ e. pick_any (Is k) (is_true a) (λ e. ib (omega arith)) (λ e. as_second))

    alike : Kept (row TwoAlike TheirKind (λ a b c. instead a b))
    unfolding instead kind_given kinds_fit count_of
    alike j k l a b c fit ia ib ic =
        pick_any (Is k) (is_blank a) (λ e. ib (omega arith)) (λ e. subst (λ (n : ℕ). Is n a) (eq? fit) ia)

    each_kept : Every Kept table
    unfolding table operation kind_given
    each_kept =
        numbers Add ANumber (λ k x y. is_within (x +ℤ y))
        ◂ numbers Subtract ANumber (λ k x y. is_within (x -ℤ y))
        ◂ numbers Times ANumber (λ k x y. is_within (x *ℤ y))
        ◂ numbers Divide ANumber (λ k x y. is_quotient x y)
        ◂ always_blank TwoNumbers ANumber
        ◂ numbers Less ATruth (λ k x y. is_truth_lem (lt_z x y))
        ◂ numbers Equal ATruth (λ k x y. is_truth_lem (same_int x y))
        ◂ one_truth not
        ◂ settled false
        ◂ settled true
        ◂ any
        ◂ choice
        ◂ alike
        ◂ numbers TickDifference ANumber (λ k x y. is_number_lem (goes_round x y) (round_in x y))
        ◂ end

    pub primitive_is :
        (x j k l : ℕ) (a b c : Value) →
        kinds_fit (row_of x).takes j k l ≡ true →
        Is j a →
        (2 ≤ operands x → Is k b) →
        (3 ≤ operands x → Is l c) →
        Is (kind_given (row_of x).gives k) (primitive x a b c)
    unfolding operands primitive
    primitive_is = every_row Kept each_kept (always_blank OneOfAny ANumber)

-- ---- kinds: `reactor s c` says that c is a reactor of shape s

pub primitive_of_kind :
    (reactor : ℕ → ℕ → Type 0) (x j k l : ℕ) (a b c : Value) →
    kinds_fit (row_of x).takes j k l ≡ true →
    OfKind reactor j a →
    (2 ≤ operands x → OfKind reactor k b) →
    (3 ≤ operands x → OfKind reactor l c) →
    OfKind reactor (kind_given (row_of x).gives k) (primitive x a b c)
unfolding mark_of
primitive_of_kind reactor x = primitive_is (OfKind reactor) (λ k. inl refl) (λ z e. inr (refl, tt)) a_truth x
  where
    a_truth : (t : Bool) → OfKind reactor truth_kind (truth t)
    a_truth true = inr (refl, omega arith)
    a_truth false = inr (refl, omega arith)

-- ---- words

-- the content is a word of 32 bits
abbrev pub Word : Value → Type 0
Word v = v.content < 2 ^ 32

number_word : (z : ℤ) → in32 z ≡ true → Word (number z)
number_word (pos n) e = omega (arith, (in32_fits (pos n) e).sfits)
number_word (negsuc n) e = omega arith

truth_word : (t : Bool) → Word (truth t)
truth_word true = omega arith
truth_word false = omega arith

-- every primitive can be given operands: the kinds that fit what it takes
fitting : (t : Takes) → (k : ℕ) × (kinds_fit t k k k ≡ true)
unfolding kinds_fit ◌and◌ ◌=?◌
fitting TwoNumbers = (number_kind, refl)
fitting OneTruth = (truth_kind, refl)
fitting TwoTruths = (truth_kind, refl)
fitting OneOfAny = (number_kind, refl)
fitting TruthThenTwo = (truth_kind, refl)
fitting TwoAlike = (number_kind, refl)

pub primitive_word : (x : ℕ) (a b c : Value) → Word a → Word b → Word c → Word (primitive x a b c)
primitive_word x a b c ha hb hc =
    let f = fitting (row_of x).takes in
    primitive_is (λ k v. Word v) (λ k. omega arith) number_word truth_word x f.0 f.0 f.0 a b c
    f.1 ha (λ h. hb) (λ h. hc)
