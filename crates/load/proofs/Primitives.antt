-- A primitive is right where its operands are what its row takes: the code's condition for each sort of row.
-- Assumes nothing.
use Rattle.std.specs.Prelude.{ℕ, ◌+◌, ◌≤◌, ◌<◌, ◌≡◌, refl, Bool, true, false, not, List}
use Rattle.std.proofs.Common.{sym, ◌∙◌, ap, subst, arith}
use Rattle.value.specs.Test.{◌and◌, ◌or◌, ◌<?◌, ◌≤?◌, ◌=?◌}
use Rattle.value.specs.Primitive.{table, row_of, is_primitive, is_withdrawn, operands, count_of, kinds_fit, kind_given}
use Rattle.value.specs.declared.Takes.{Takes}
use Rattle.value.specs.declared.Takes.TheVariants.{TwoNumbers, OneTruth, TwoTruths, OneOfAny, TruthThenTwo, TwoAlike}
use Rattle.value.specs.declared.Gives.{Gives}
use Rattle.value.specs.declared.Gives.TheVariants.{ANumber, ATruth, TheirKind}
use Rattle.value.proofs.Rows.{each}
use Rattle.value.proofs.Tests.{both!, both?, eq!, eq?, left×, right×, same_test}
use Rattle.program.specs.Command.{v_of, primitive, gives}
use Rattle.program.specs.declared.Command.{Command}
use Rattle.load.specs.Scan.{kind_at, is_value, formed, remaining, located, agreed, disorder}
use Rattle.load.specs.Clauses.{right, state, Giving, one_right, two_right, alike_right, three_right}
use Rattle.load.specs.declared.Locations.{Locations}
use Rattle.program.specs.Kind.{give_kind}
use Rattle.std.specs.Bool.{then_some}
use Rattle.std.specs.Prelude.{Option}
use Rattle.load.specs.declared.Scan.{Scan}
use Rattle.load.proofs.Conditions.{and_true}

-- the row of a primitive that a program may have
pub record Row (x : ℕ) (t : Takes) (g : Gives) : Type 0 where
  pub there : is_primitive x ≡ true
  pub kept : is_withdrawn x ≡ false
  pub takes : (row_of x).takes ≡ t
  pub gives : (row_of x).gives ≡ g

pub row_not : {x : ℕ} → x ≡ 7 → Row x OneTruth ATruth
unfolding row_of table is_primitive is_withdrawn ◌<?◌ ◌=?◌
row_not e = subst (λ (x : ℕ). Row x OneTruth ATruth) (sym e)
    (record { there = refl; kept = refl; takes = refl; gives = refl })

pub row_known : {x : ℕ} → x ≡ 10 → Row x OneOfAny ATruth
unfolding row_of table is_primitive is_withdrawn ◌<?◌ ◌=?◌
row_known e = subst (λ (x : ℕ). Row x OneOfAny ATruth) (sym e)
    (record { there = refl; kept = refl; takes = refl; gives = refl })

pub row_choose : {x : ℕ} → x ≡ 11 → Row x TruthThenTwo TheirKind
unfolding row_of table is_primitive is_withdrawn ◌<?◌ ◌=?◌
row_choose e = subst (λ (x : ℕ). Row x TruthThenTwo TheirKind) (sym e)
    (record { there = refl; kept = refl; takes = refl; gives = refl })

pub row_instead : {x : ℕ} → x ≡ 12 → Row x TwoAlike TheirKind
unfolding row_of table is_primitive is_withdrawn ◌<?◌ ◌=?◌
row_instead e = subst (λ (x : ℕ). Row x TwoAlike TheirKind) (sym e)
    (record { there = refl; kept = refl; takes = refl; gives = refl })

pub row_tick : {x : ℕ} → x ≡ 13 → Row x TwoNumbers ANumber
unfolding row_of table is_primitive is_withdrawn ◌<?◌ ◌=?◌
row_tick e = subst (λ (x : ℕ). Row x TwoNumbers ANumber) (sym e)
    (record { there = refl; kept = refl; takes = refl; gives = refl })

pub rows_number : (x : ℕ) → 0 ≤ x → x < 4 → Row x TwoNumbers ANumber
unfolding row_of table is_primitive is_withdrawn ◌<?◌ ◌=?◌
rows_number = each (λ (x : ℕ). Row x TwoNumbers ANumber) 0 4 (
  record { there = refl; kept = refl; takes = refl; gives = refl },
  (
    record { there = refl; kept = refl; takes = refl; gives = refl },
    (
      record { there = refl; kept = refl; takes = refl; gives = refl },
      (record { there = refl; kept = refl; takes = refl; gives = refl }, tt),
    ),
  ),
)

pub rows_compare : (x : ℕ) → 5 ≤ x → x < 7 → Row x TwoNumbers ATruth
unfolding row_of table is_primitive is_withdrawn ◌<?◌ ◌=?◌
rows_compare = each (λ (x : ℕ). Row x TwoNumbers ATruth) 5 2 (
  record { there = refl; kept = refl; takes = refl; gives = refl },
  (record { there = refl; kept = refl; takes = refl; gives = refl }, tt),
)

pub rows_truth : (x : ℕ) → 8 ≤ x → x < 10 → Row x TwoTruths ATruth
unfolding row_of table is_primitive is_withdrawn ◌<?◌ ◌=?◌
rows_truth = each (λ (x : ℕ). Row x TwoTruths ATruth) 8 2 (
  record { there = refl; kept = refl; takes = refl; gives = refl },
  (record { there = refl; kept = refl; takes = refl; gives = refl }, tt),
)

-- what 3, 4 and 5 ask of the operands of a primitive that takes t
abbrev pub formed_by : ℕ → Command → Bool
formed_by n c = (c.v1 + c.v2 + c.v3 =? 0) and ((2 ≤? n) or (c.b =? 0)) and ((3 ≤? n) or (c.v0 =? 0))

abbrev pub located_by : ℕ → Scan → Command → Bool
located_by n s c = is_value s c.a and ((n <? 2) or is_value s c.b) and ((n <? 3) or is_value s c.v0)

abbrev pub right_by : Takes → Scan → Command → Bool
right_by t s c = formed_by (count_of t) c and located_by (count_of t) s c and kinds_fit t (kind_at s c.a) (kind_at s c.b)
    (kind_at s c.v0)

module _ (s : Scan) (c : Command) where
  abbrev asked : Bool → Bool → Takes → Bool
  asked there gone t =
      (there and formed_by (count_of t) c) and not gone and located_by (count_of t) s c
      and kinds_fit t (kind_at s c.a) (kind_at s c.b) (kind_at s c.v0) and true

  module _ (p : List ℕ) (r : ℕ) where
    asks : right p r s c (gives (primitive c.x c.a c.b c.v0))
        ≡ asked (is_primitive c.x) (is_withdrawn c.x) (row_of c.x).takes
    unfolding right formed remaining located agreed disorder operands ◌=?◌
    asks = refl

    row_right : {t : Takes} {g : Gives} → Row c.x t g → right_by t s c ≡ right p r s c
        (gives (primitive c.x c.a c.b c.v0))
    unfolding ◌and◌
    row_right {t} w =
        sym (asks ∙ ap (λ (b : Bool). asked b (is_withdrawn c.x) (row_of c.x).takes) w.there
        ∙ ap (λ (b : Bool). asked true b (row_of c.x).takes) w.kept
        ∙ ap (asked true false) w.takes
        ∙ ap (λ (b : Bool). formed_by (count_of t) c and located_by (count_of t) s c and b) (and_true _))

    -- one that there is not, or that is withdrawn, is refused
    pub no_row : (is_primitive c.x ≡ false) → false ≡ right p r s c (gives (primitive c.x c.a c.b c.v0))
    no_row e = sym (asks ∙ left× _ (left× _ e))

    pub row_gone : (is_withdrawn c.x ≡ true) → false ≡ right p r s c (gives (primitive c.x c.a c.b c.v0))
    unfolding ◌and◌
    row_gone e =
        sym (asks ∙ ap (λ (b : Bool). asked (is_primitive c.x) b (row_of c.x).takes) e
        ∙ right× (is_primitive c.x and formed_by (count_of (row_of c.x).takes) c) refl)

  -- ---- the bytes that are zero

  low : (v_of c =? c.v0) ≡ (c.v1 + c.v2 + c.v3 =? 0)
  low = same_test _ _ (λ e. let h : v_of c ≡ c.v0 = eq? e in eq! (omega arith))
      (λ e. let h : c.v1 + c.v2 + c.v3 ≡ 0 = eq? e in eq! (omega arith))

  all_low : (v_of c =? 0) ≡ ((c.v1 + c.v2 + c.v3 =? 0) and (c.v0 =? 0))
  all_low =
      same_test _ _
      (λ e. let h : v_of c ≡ 0 = eq? e in both! (eq! (omega arith)) (eq! (omega arith)))
      (λ e. let h : c.v1 + c.v2 + c.v3 ≡ 0 = eq? (both? e).0 in let g : c.v0 ≡ 0 = eq? (both? e).1 in eq!
      (omega arith))

  with_b : (c.b + v_of c =? 0) ≡ ((c.v1 + c.v2 + c.v3 =? 0) and (c.b =? 0) and (c.v0 =? 0))
  with_b =
      same_test _ _
      (λ e. let h : c.b + v_of c ≡ 0 = eq? e in both! (eq! (omega arith))
      (both! (eq! (omega arith)) (eq! (omega arith))))
      (λ e.
      let h : c.v1 + c.v2 + c.v3 ≡ 0 = eq? (both? e).0 in
      let f : c.b ≡ 0 = eq? (both? (both? e).1).0 in
      let g : c.v0 ≡ 0 = eq? (both? (both? e).1).1 in
      eq! (omega arith))

  -- ---- each sort of row

  two : (u : Bool) → ((v_of c =? 0) and (is_value s c.a and is_value s c.b) and u) ≡
      (((c.v1 + c.v2 + c.v3 =? 0) and (c.v0 =? 0)) and (is_value s c.a and (is_value s c.b and true)) and u)
  two u =
      ap (λ (t : Bool). t and (is_value s c.a and is_value s c.b) and u) all_low
      ∙ ap (λ (t : Bool). ((c.v1 + c.v2 + c.v3 =? 0) and (c.v0 =? 0)) and (is_value s c.a and t) and u)
      (sym (and_true (is_value s c.b)))

  one : (u : Bool) → ((c.b + v_of c =? 0) and is_value s c.a and u) ≡
      (((c.v1 + c.v2 + c.v3 =? 0) and (c.b =? 0) and (c.v0 =? 0)) and (is_value s c.a and true) and u)
  one u =
      ap (λ (t : Bool). t and is_value s c.a and u) with_b
      ∙ ap (λ (t : Bool). ((c.v1 + c.v2 + c.v3 =? 0) and (c.b =? 0) and (c.v0 =? 0)) and t and u)
      (sym (and_true (is_value s c.a)))

  pub two_numbers : two_right s c 0 ≡ right_by TwoNumbers s c
  unfolding count_of kinds_fit ◌and◌ ◌or◌ ◌<?◌ ◌≤?◌
  two_numbers = two _

  pub two_truths : two_right s c 1 ≡ right_by TwoTruths s c
  unfolding count_of kinds_fit ◌and◌ ◌or◌ ◌<?◌ ◌≤?◌
  two_truths = two _

  pub two_alike : alike_right s c ≡ right_by TwoAlike s c
  unfolding count_of kinds_fit ◌and◌ ◌or◌ ◌<?◌ ◌≤?◌
  two_alike = two _

  pub one_truth : one_right s c false ≡ right_by OneTruth s c
  unfolding count_of kinds_fit ◌and◌ ◌or◌ ◌<?◌ ◌≤?◌
  one_truth = one _

  pub one_of_any : one_right s c true ≡ right_by OneOfAny s c
  unfolding count_of kinds_fit ◌and◌ ◌or◌ ◌<?◌ ◌≤?◌
  one_of_any = one true

  pub truth_then_two : three_right s c ≡ right_by TruthThenTwo s c
  unfolding count_of kinds_fit ◌and◌ ◌or◌ ◌<?◌ ◌≤?◌
  truth_then_two = ap (λ (t : Bool). t and (is_value s c.a and is_value s c.b and is_value s c.v0) and
      ((kind_at s c.a =? 1) and (kind_at s c.b =? kind_at s c.v0))) low ∙ ap
      (λ (t : Bool). t and (is_value s c.a and is_value s c.b and is_value s c.v0) and
      ((kind_at s c.a =? 1) and (kind_at s c.b =? kind_at s c.v0))) (sym (and_true (c.v1 + c.v2 + c.v3 =? 0)))

-- a primitive's kind where it is right
module _ (p : List ℕ) (r : ℕ) (before : Locations) (c : Command) (k : Option ℕ) {t : Takes} {g : Gives} (w : Row c.x t g)
  where
    pub giving : ((n : ℕ) → k ≡ then_some (right_by t (state before n) c) (kind_given g (kind_at (state before n) c.b))) →
        Giving p r before c (primitive c.x c.a c.b c.v0) k
    unfolding give_kind
    giving e n =
        let s = state before n in
        e n ∙ ap (λ (b : Bool). then_some b (kind_given g (kind_at s c.b))) (row_right s c p r w)
        ∙ ap (λ (v : Gives). then_some (right p r s c (gives (primitive c.x c.a c.b c.v0))) (kind_given v (kind_at s c.b)))
        (sym w.gives)
