-- 4.23 The call preview, whole: answer and every lent word. It tries a turn on a copy of the memory.
use Rattle.std.specs.Prelude.{ℕ, ◌≡◌, ◌≢◌, ◌⊎◌, ◌↔◌, Bool, List, length, Ok, Err}
use Rattle.value.specs.Test.{pick, ◌=?◌, ◌or◌, guard}
use Rattle.answer.specs.Answer.{number_of}
use Rattle.answer.specs.Answer.{Answer}
use Rattle.answer.specs.declared.Refusal.{Refusal}
use Rattle.answer.specs.declared.Refusal.TheVariants.{MemoryLength, WorkLength}
use Rattle.load.specs.Check.{check_of, IsAccepted}
use Rattle.image.specs.Start.{words_legal}
use Rattle.image.specs.Starting.{Words}
use Rattle.remus.specs.Turn.{Turn, turn_of}
use Rattle.remus.specs.Fault.{TurnNumber}

-- an answer, the work memory and the sink space then
pub record Preview : Type 0 where
  pub answer : Answer
  pub work : List ℕ
  pub sink_space : List ℕ

-- the numbers with which a turn ends that has begun to run: 0, 14 and 15
unfoldable pub from_run : ℕ → Bool
from_run n = (n =? 0) or (n =? 14) or (n =? 15)

-- 4.25, 4.26 A turn t that was tried: its answer and sinks; and if it ran, the words that it leaves.
unfoldable pub tried : List ℕ → Turn → Preview
tried work t = record {
  answer = t.answer;
  work = pick (from_run (number_of t.answer)) t.memory work;
  sink_space = t.sink_space;
}

-- m the memory; work the work memory and sk the sink space at entry
module _ (p m work rd sk : List ℕ) where
  -- 4.26 Refused before the turn is tried: work memory and sink space stay as they were.
  unfoldable pub preview_refused : Refusal → Preview
  preview_refused w = record { answer = Err w; work = work; sink_space = sk }

  unfoldable pub preview_by : Answer → Preview
  preview_by (Ok size) =
      guard (words_legal (length m)) (preview_refused (MemoryLength (length m))) (λ _.
      guard (length work =? length m) (preview_refused (WorkLength (length work))) (λ _. tried work (turn_of p m rd sk)))
  preview_by (Err w) = preview_refused w

  -- 4.24 A preview: the program's own refusals, 8, 22, then the turn's others.
  unfoldable pub preview_of : Preview
  preview_of = preview_by (check_of p)

-- ---- proved in proofs/Previews.antt: an element of each of these types

-- the turn t comes to what the preview v has shown
pub record Foretold (v : Preview) (t : Turn) : Type 0 where
  pub answer : t.answer ≡ v.answer
  pub sinks : t.sink_space ≡ v.sink_space
  pub memory : number_of v.answer ≡ 0 → t.memory ≡ v.work

-- 4.27 What a preview has shown is what the turn then puts on record, whether it is lent the sink space as the preview
-- found it or as the preview left it.
abbrev pub PreviewForetells : Type 0
PreviewForetells = (p m work rd sk : List ℕ) → let v = preview_of p m work rd sk in number_of v.answer ≢ 22
    → Foretold v (turn_of p m rd sk) × Foretold v (turn_of p m rd v.sink_space)

-- 4.26 What a refused preview leaves: sinks as they were; a copy of the memory after 14 or 15, after any other number
-- the work memory as it was.
abbrev pub PreviewRefusedLeaves : Type 0
PreviewRefusedLeaves = (p m work rd sk : List ℕ) → let v = preview_of p m work rd sk in let n = number_of v.answer in
    n ≢ 0 → (v.sink_space ≡ sk) × ((n ≡ 14) ⊎ (n ≡ 15) → v.work ≡ m) × (n ≢ 14 → n ≢ 15 → v.work ≡ work)

-- 5.32 When a preview is refused by 22, with the work memory's words as its place.
abbrev pub WorkLengthFault : Type 0
WorkLengthFault = (p m work rd sk : List ℕ) (q : ℕ)
    → ((preview_of p m work rd sk).answer ≡ Err (WorkLength q))
    ↔ (IsAccepted p × Words m × (length work ≢ length m) × (q ≡ length work))

-- A preview's number is one of a turn's, or 22.
abbrev pub PreviewNumbers : Type 0
PreviewNumbers = (p m work rd sk : List ℕ) → let n = number_of (preview_of p m work rd sk).answer in
    TurnNumber n ⊎ (n ≡ 22)
