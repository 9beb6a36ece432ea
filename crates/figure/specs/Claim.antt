-- What figure promises. Proved in proofs/: an element of each of these types.
use Rattle.std.specs.Prelude.{ℕ, ◌+◌, ◌≤◌, ◌<◌, ◌≡◌, ◌≢◌, ◌↔◌, List, length, Ok, Err}
use Rattle.program.specs.Bytes.{main_of}
use Rattle.answer.specs.Answer.{number_of}
use Rattle.answer.specs.Answer.{Answer}
use Rattle.answer.specs.declared.Refusal.{Refusal}
use Rattle.answer.specs.declared.Refusal.TheVariants.{Circular, FigureTooLarge}
use Rattle.load.specs.Check.{check_of, IsAccepted}
use Rattle.load.specs.Fault.{Lowest}
use Rattle.image.specs.Memory.{most_words, main_at}
use Rattle.image.specs.Sound.{SoundImage}
use Rattle.image.specs.Start.{start_of}
use Rattle.remus.specs.Turn.{turn_of}
use Rattle.remus.specs.Preview.{preview_of}
use Rattle.remus.specs.Walk.{Input}
use Rattle.remus.specs.Claim.{memory_after}
use Rattle.figure.specs.Steps.{Needed, OnCircle, Straight}
use Rattle.figure.specs.Bound.{bound_of, bound_by}
use Rattle.figure.specs.Figure.{figure_of}

-- ---- the answer

-- 5.33 When figure is refused by 23: the place is the lowest reactor that is needed and reaches itself.
abbrev pub CircularFault : Type 0
CircularFault = (p : List ℕ) (r : ℕ) → (figure_of p ≡ Err (Circular r)) ↔ (IsAccepted p × Lowest (OnCircle p) r)

-- 5.34 When it is refused by 24.
abbrev pub TooLargeFault : Type 0
TooLargeFault = (p : List ℕ)
    → (figure_of p ≡ Err FigureTooLarge) ↔ (IsAccepted p × Straight p × (most_words < main_at + bound_of p (main_of p)))

-- 4.32 When it is given, and what it is.
abbrev pub FigureGiven : Type 0
FigureGiven = (p : List ℕ) (n : ℕ)
    → (figure_of p ≡ Ok n) ↔ (IsAccepted p × Straight p × (n ≡ main_at + bound_of p (main_of p)) × (n ≤ most_words))

-- 4.29 A program that the check refuses, figure refuses alike.
abbrev pub ProgramFault : Type 0
ProgramFault = (p : List ℕ) (w : Refusal) → check_of p ≡ Err w → figure_of p ≡ Err w

-- 4.31 Bounds are what the rule says, of each reactor that is needed, where none of these reaches itself.
abbrev pub BoundEquation : Type 0
BoundEquation = (p : List ℕ) → IsAccepted p → Straight p
    → (r : ℕ) → Needed p r → bound_of p r ≡ bound_by p (bound_of p) r

-- 4.31 And no other numbers are.
abbrev pub BoundUnique : Type 0
BoundUnique = (p : List ℕ) → IsAccepted p → Straight p
    → (b : ℕ → ℕ) → ((r : ℕ) → Needed p r → b r ≡ bound_by p b r) → (r : ℕ) → Needed p r → b r ≡ bound_of p r

-- ---- memory enough

abbrev pub NotShort : Answer → Type 0
NotShort a = (number_of a ≢ 14) × (number_of a ≢ 15)

-- 4.33 Of a turn, or of a preview, in a sound image of that many words or more.
abbrev pub EnoughOnce : Type 0
EnoughOnce = (p w work : List ℕ) (n : ℕ) (t : Input) → figure_of p ≡ Ok n → n ≤ length w → length w ≤ most_words
    → SoundImage p w
    → NotShort (turn_of p w t.readings t.sink_space).answer
    × NotShort (preview_of p w work t.readings t.sink_space).answer

-- 4.33 Memory of that many words or more can be started, and after any turns neither the next one nor a preview meets
-- 14 or 15.
abbrev pub Enough : Type 0
Enough = (p m work : List ℕ) (n : ℕ) (ts : List Input) (t : Input)
    → figure_of p ≡ Ok n → n ≤ length m → length m ≤ most_words
    → let w = memory_after p (start_of p m).memory ts in
    (number_of (start_of p m).answer ≡ 0)
    × NotShort (turn_of p w t.readings t.sink_space).answer
    × NotShort (preview_of p w work t.readings t.sink_space).answer
