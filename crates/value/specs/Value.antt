-- 1.1 to 1.7 Values in two words, and kinds.
use Rattle.std.specs.Prelude.{ℕ, zero, suc, ◌+◌, ◌<◌, ◌≡◌, ◌⊎◌, Bool}
use Rattle.std.specs.Prelude.{ℤ}
use Rattle.std.specs.Int.{w32}
use mir.Val.{to_z, of_z, bool_byte}
use Rattle.value.specs.Test.{◌=?◌}
use Rattle.value.specs.declared.Value.{Value}

-- 1.2, 1.5 Marks. Values have 0 to 3; 4 and 5 are found in memory only, and 6 only within a turn: a blank that is kept.
abbrev pub blank_mark : ℕ
blank_mark = 0

abbrev pub number_mark : ℕ
number_mark = 1

abbrev pub truth_mark : ℕ
truth_mark = 2

abbrev pub reactor_mark : ℕ
reactor_mark = 3

abbrev pub deployment_mark : ℕ
deployment_mark = 4

abbrev pub point_mark : ℕ
point_mark = 5

abbrev pub kept_mark : ℕ
kept_mark = 6

-- 1.6 Kinds.
abbrev pub number_kind : ℕ
number_kind = 0

abbrev pub truth_kind : ℕ
truth_kind = 1

abbrev pub reactor_kind : ℕ → ℕ
reactor_kind s = 2 + s

-- the mark of a kind's values that are not blank
unfoldable pub mark_of : ℕ → ℕ
mark_of zero = number_mark
mark_of (suc zero) = truth_mark
mark_of (suc (suc s)) = reactor_mark

abbrev pub value : ℕ → ℕ → Value
value k c = record { mark = k; content = c }

abbrev pub blank : Value
blank = value blank_mark 0

-- 1.3 A number's word is its two's complement.
abbrev pub number : ℤ → Value
number z = value number_mark (of_z w32 z)

abbrev pub truth : Bool → Value
truth t = value truth_mark (bool_byte t)

unfoldable pub is_blank : Value → Bool
is_blank v = v.mark =? blank_mark

unfoldable pub is_number : Value → Bool
is_number v = v.mark =? number_mark

unfoldable pub is_truth : Value → Bool
is_truth v = v.mark =? truth_mark

unfoldable pub is_true : Value → Bool
is_true v = v.content =? 1

-- the integer of a number's word
abbrev pub int_of : Value → ℤ
int_of v = to_z w32 v.content

-- 1.7 Which contents may be beside the mark of kind k: any beside a number's, 0 or 1 beside a truth's, and beside a
-- reactor's of shape s those that `reactor s` holds of.
abbrev pub Content : (ℕ → ℕ → Type 0) → ℕ → ℕ → Type 0
Content reactor zero c = Unit {0}
Content reactor (suc zero) c = c < 2
Content reactor (suc (suc s)) c = reactor s c

-- 1.7 v is of kind k; blank is of all kinds.
abbrev pub OfKind : (ℕ → ℕ → Type 0) → ℕ → Value → Type 0
OfKind reactor k v = (v ≡ blank) ⊎ ((v.mark ≡ mark_of k) × Content reactor k v.content)
