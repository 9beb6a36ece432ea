-- 5.7 The number and the place of an answer.
use Rattle.std.specs.Prelude.{ℕ, ◌≡◌, Result, Ok, Err}
use Rattle.answer.specs.declared.Refusal.{Refusal}
use Rattle.answer.specs.declared.Refusal.TheVariants.{ProgramLength, TableByte, Command, Operand, PortOrKind}
use Rattle.answer.specs.declared.Refusal.TheVariants.{SetTwice, Missing, MemoryLength, UnsoundImage}
use Rattle.answer.specs.declared.Refusal.TheVariants.{ReadingsLength, Reading, SinkSpace, Clock, NoRoom, TooDeep}
use Rattle.answer.specs.declared.Refusal.TheVariants.{TextForm, TextName, OutputSpace, TooEarly, TooLate, NotLower}
use Rattle.answer.specs.declared.Refusal.TheVariants.{WorkLength, Circular, FigureTooLarge, Withdrawn}

abbrev pub refusal_number : Refusal → ℕ
refusal_number (ProgramLength q) = 1
refusal_number (TableByte q) = 2
refusal_number (Command q) = 3
refusal_number (Operand q) = 4
refusal_number (PortOrKind q) = 5
refusal_number (SetTwice q) = 6
refusal_number (Missing q) = 7
refusal_number (MemoryLength q) = 8
refusal_number (UnsoundImage q) = 9
refusal_number (ReadingsLength q) = 10
refusal_number (Reading q) = 11
refusal_number (SinkSpace q) = 12
refusal_number Clock = 13
refusal_number (NoRoom q) = 14
refusal_number (TooDeep q) = 15
refusal_number (TextForm q) = 16
refusal_number (TextName q) = 17
refusal_number (OutputSpace q) = 18
refusal_number (TooEarly q) = 19
refusal_number (TooLate q) = 20
refusal_number (NotLower q) = 21
refusal_number (WorkLength q) = 22
refusal_number (Circular q) = 23
refusal_number FigureTooLarge = 24
refusal_number (Withdrawn q) = 25

abbrev pub refusal_place : Refusal → ℕ
refusal_place (ProgramLength q) = q
refusal_place (TableByte q) = q
refusal_place (Command q) = q
refusal_place (Operand q) = q
refusal_place (PortOrKind q) = q
refusal_place (SetTwice q) = q
refusal_place (Missing q) = q
refusal_place (MemoryLength q) = q
refusal_place (UnsoundImage q) = q
refusal_place (ReadingsLength q) = q
refusal_place (Reading q) = q
refusal_place (SinkSpace q) = q
refusal_place Clock = 0
refusal_place (NoRoom q) = q
refusal_place (TooDeep q) = q
refusal_place (TextForm q) = q
refusal_place (TextName q) = q
refusal_place (OutputSpace q) = q
refusal_place (TooEarly q) = q
refusal_place (TooLate q) = q
refusal_place (NotLower q) = q
refusal_place (WorkLength q) = q
refusal_place (Circular q) = q
refusal_place FigureTooLarge = 0
refusal_place (Withdrawn q) = q

-- what a call answers: done, with the size that it is asked for; or refused
abbrev pub Answer : Type 0
Answer = Result ℕ Refusal

-- whether all is well, or what is against it
abbrev pub Ruling : Type 0
Ruling = Result (Unit {0}) Refusal

-- of an answer: 0 and the size, or the refusal's
abbrev pub number_of : Answer → ℕ
number_of (Ok size) = 0
number_of (Err w) = refusal_number w

abbrev pub place_of : Answer → ℕ
place_of (Ok size) = size
place_of (Err w) = refusal_place w

-- 5.40 Number and place tell refusals apart: `refusals_apart` in proofs/Refusals.antt.
abbrev pub RefusalsApart : Type 0
RefusalsApart = (v w : Refusal) → refusal_number v ≡ refusal_number w → refusal_place v ≡ refusal_place w → v ≡ w
