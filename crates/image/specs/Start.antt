-- 4.5, 5.5 Start: what it tests, and the words that it leaves.
use Rattle.std.specs.Prelude.{ℕ, ◌+◌, ◌-◌, Bool, List, length, replicate, Ok, Err}
use Rattle.value.specs.Test.{◌and◌, ◌≤?◌, guard}
use Rattle.program.specs.Bytes.{main_of}
use Rattle.load.specs.Check.{check_of}
use Rattle.answer.specs.Answer.{Answer}
use Rattle.answer.specs.declared.Refusal.{Refusal}
use Rattle.answer.specs.declared.Refusal.TheVariants.{MemoryLength, NoRoom}
use Rattle.image.specs.Memory.{fewest_words, most_words, main_at, with_used, deploy}

-- an answer, and the memory then
pub record Start : Type 0 where
  pub answer : Answer
  pub memory : List ℕ

-- 5.18 Memory has a legal length.
unfoldable pub words_legal : ℕ → Bool
words_legal n = (fewest_words ≤? n) and (n ≤? most_words)

-- 4.5 n words as start leaves them: zeros, and main placed at 2
unfoldable pub started_of : List ℕ → ℕ → List ℕ
started_of p n = deploy p (with_used (replicate n 0) main_at) (main_of p) 0

-- 4.11 Refused: memory stays as it was.
unfoldable pub start_refused : List ℕ → Refusal → Start
start_refused m w = record { answer = Err w; memory = m }

-- 5.5 The program's own refusals, then 8, then 14 where main has no room.
unfoldable pub start_by : List ℕ → List ℕ → Answer → Start
start_by p m (Err w) = start_refused m w
start_by p m (Ok size) =
    guard (words_legal (length m)) (start_refused m (MemoryLength (length m))) (λ _.
    guard (size ≤? length m - main_at) (start_refused m (NoRoom (main_of p))) (λ _.
    record { answer = Ok (main_at + size); memory = started_of p (length m) }))

unfoldable pub start_of : List ℕ → List ℕ → Start
start_of p m = start_by p m (check_of p)
