-- Refusals by number and place: `refusals_apart`, and that 0 is no refusal's number.
use Rattle.std.specs.Prelude.{ℕ, ◌≤◌, ◌≡◌, refl}
use Rattle.std.proofs.Common.{sym, ◌∙◌, ap₂, subst, arith}
use Rattle.value.specs.Test.{pick, ◌=?◌}
use Rattle.answer.specs.Answer.{refusal_number, refusal_place, RefusalsApart}
use Rattle.answer.specs.declared.Refusal.{Refusal}
use Rattle.answer.specs.declared.Refusal.TheVariants.{ProgramLength, TableByte, Command, Operand, PortOrKind}
use Rattle.answer.specs.declared.Refusal.TheVariants.{SetTwice, Missing, MemoryLength, UnsoundImage}
use Rattle.answer.specs.declared.Refusal.TheVariants.{ReadingsLength, Reading, SinkSpace, Clock, NoRoom, TooDeep}
use Rattle.answer.specs.declared.Refusal.TheVariants.{TextForm, TextName, OutputSpace, TooEarly, TooLate, NotLower}
use Rattle.answer.specs.declared.Refusal.TheVariants.{WorkLength, Circular, FigureTooLarge, Withdrawn}

-- the refusal of number n at place q
unfoldable at : ℕ → ℕ → Refusal
at n q =
    pick (n =? 1) (ProgramLength q)
    (pick (n =? 2) (TableByte q)
    (pick (n =? 3) (Command q)
    (pick (n =? 4) (Operand q)
    (pick (n =? 5) (PortOrKind q)
    (pick (n =? 6) (SetTwice q)
    (pick (n =? 7) (Missing q)
    (pick (n =? 8) (MemoryLength q)
    (pick (n =? 9) (UnsoundImage q)
    (pick (n =? 10) (ReadingsLength q)
    (pick (n =? 11) (Reading q)
    (pick (n =? 12) (SinkSpace q)
    (pick (n =? 13) Clock
    (pick (n =? 14) (NoRoom q)
    (pick (n =? 15) (TooDeep q)
    (pick (n =? 16) (TextForm q)
    (pick (n =? 17) (TextName q)
    (pick (n =? 18) (OutputSpace q)
    (pick (n =? 19) (TooEarly q)
    (pick (n =? 20) (TooLate q)
    (pick (n =? 21) (NotLower q)
    (pick (n =? 22) (WorkLength q)
    (pick (n =? 23) (Circular q)
    (pick (n =? 24) FigureTooLarge
    (Withdrawn q))))))))))))))))))))))))

known_by : (w : Refusal) → at (refusal_number w) (refusal_place w) ≡ w
unfolding at pick ◌=?◌
known_by (ProgramLength q) = refl
known_by (TableByte q) = refl
known_by (Command q) = refl
known_by (Operand q) = refl
known_by (PortOrKind q) = refl
known_by (SetTwice q) = refl
known_by (Missing q) = refl
known_by (MemoryLength q) = refl
known_by (UnsoundImage q) = refl
known_by (ReadingsLength q) = refl
known_by (Reading q) = refl
known_by (SinkSpace q) = refl
known_by Clock = refl
known_by (NoRoom q) = refl
known_by (TooDeep q) = refl
known_by (TextForm q) = refl
known_by (TextName q) = refl
known_by (OutputSpace q) = refl
known_by (TooEarly q) = refl
known_by (TooLate q) = refl
known_by (NotLower q) = refl
known_by (WorkLength q) = refl
known_by (Circular q) = refl
known_by FigureTooLarge = refl
known_by (Withdrawn q) = refl

pub refusals_apart : RefusalsApart
refusals_apart v w n q = sym (known_by v) ∙ ap₂ at n q ∙ known_by w

-- P holds of the refusal with number n and place q
abbrev pub Told : (Refusal → Type 0) → ℕ → ℕ → Type 0
Told P n q = (v : Refusal) × P v × (refusal_number v ≡ n) × (refusal_place v ≡ q)

pub told : (P : Refusal → Type 0) (w : Refusal) → Told P (refusal_number w) (refusal_place w) → P w
told P w t = subst P (refusals_apart t.0 w t.2 t.3) t.1

pub refusal_counts : (w : Refusal) → 1 ≤ refusal_number w
refusal_counts (ProgramLength q) = omega arith
refusal_counts (TableByte q) = omega arith
refusal_counts (Command q) = omega arith
refusal_counts (Operand q) = omega arith
refusal_counts (PortOrKind q) = omega arith
refusal_counts (SetTwice q) = omega arith
refusal_counts (Missing q) = omega arith
refusal_counts (MemoryLength q) = omega arith
refusal_counts (UnsoundImage q) = omega arith
refusal_counts (ReadingsLength q) = omega arith
refusal_counts (Reading q) = omega arith
refusal_counts (SinkSpace q) = omega arith
refusal_counts Clock = omega arith
refusal_counts (NoRoom q) = omega arith
refusal_counts (TooDeep q) = omega arith
refusal_counts (TextForm q) = omega arith
refusal_counts (TextName q) = omega arith
refusal_counts (OutputSpace q) = omega arith
refusal_counts (TooEarly q) = omega arith
refusal_counts (TooLate q) = omega arith
refusal_counts (NotLower q) = omega arith
refusal_counts (WorkLength q) = omega arith
refusal_counts (Circular q) = omega arith
refusal_counts FigureTooLarge = omega arith
refusal_counts (Withdrawn q) = omega arith
