-- The call turn, whole: answer and every lent word.
use Rattle.std.specs.Prelude.{ℕ, ◌+◌, ◌*◌, List, length, Ok, Err}
use Rattle.value.specs.Test.{◌<?◌, ◌≤?◌, ◌=?◌, guard, sweep}
use Rattle.value.specs.Value.{value}
use Rattle.value.specs.declared.Value.{Value}
use Rattle.program.specs.Bytes.{globals, global_kind, main_of}
use Rattle.program.specs.Location.{sink_count}
use Rattle.program.specs.Kind.{legal}
use Rattle.load.specs.Check.{check_of}
use Rattle.answer.specs.Answer.{Answer}
use Rattle.answer.specs.declared.Refusal.{Refusal}
use Rattle.answer.specs.Answer.{Ruling}
use Rattle.answer.specs.declared.Refusal.TheVariants.{MemoryLength, UnsoundImage, ReadingsLength, Reading, SinkSpace}
use Rattle.answer.specs.declared.Refusal.TheVariants.{Clock}
use Rattle.image.specs.Memory.{most_turns, word, used, turns}
use Rattle.image.specs.Passes.{sound_of}
use Rattle.image.specs.Passes.{Judged}
use Rattle.image.specs.Start.{words_legal}
use Rattle.remus.specs.Run.{Ran, ran, stopped, main_run}
use Rattle.remus.specs.Clear.{finished, sunk}

-- an answer, the memory and the sink space then
pub record Turn : Type 0 where
  pub answer : Answer
  pub memory : List ℕ
  pub sink_space : List ℕ

-- 4.8 Reading k, from 0: the pair of global k + 1.
unfoldable pub reading_at : List ℕ → ℕ → Value
reading_at rd k = value (word rd (2 * k)) (word rd (2 * k + 1))

-- the first reading pair, from 0, that is not legal; G if all are
unfoldable pub bad_reading : List ℕ → List ℕ → ℕ
bad_reading p rd = sweep (λ k. legal p (global_kind p (k + 1)) (reading_at rd k)) 0 (globals p)

-- 5.20 to 5.23 What one turn brings, and the clock.
unfoldable pub asked_of : List ℕ → List ℕ → List ℕ → List ℕ → Ruling
asked_of p m rd sk =
    guard (length rd =? 2 * globals p) (Err (ReadingsLength (length rd))) (λ _.
    let k = bad_reading p rd in
    guard (k =? globals p) (Err (Reading k)) (λ _.
    guard (2 * sink_count p (main_of p) ≤? length sk) (Err (SinkSpace (2 * sink_count p (main_of p)))) (λ _.
    guard (turns m <? most_turns) (Err Clock) (λ _. Ok tt))))

-- m the memory and sk the sink space at entry
module _ (p m rd sk : List ℕ) where
  -- 4.11 Refused: memory and sink space stay as they were.
  unfoldable pub turn_refused : Refusal → Turn
  turn_refused w = record { answer = Err w; memory = m; sink_space = sk }

  -- 14 and 15, or 0
  unfoldable pub by_run : Ran → Turn
  by_run (ran m') = record { answer = Ok (used m'); memory = finished p m'; sink_space = sunk p m' sk }
  by_run (stopped w m') = turn_refused w

  unfoldable pub by_asked : Ruling → Turn
  by_asked (Ok tt) = by_run (main_run p rd m)
  by_asked (Err w) = turn_refused w

  unfoldable pub by_sound : Judged → Turn
  by_sound (Ok tt) = by_asked (asked_of p m rd sk)
  by_sound (Err q) = turn_refused (UnsoundImage q)

  unfoldable pub by_check : Answer → Turn
  by_check (Ok size) =
      guard (words_legal (length m)) (turn_refused (MemoryLength (length m))) (λ _. by_sound (sound_of p m))
  by_check (Err w) = turn_refused w

  -- 5.6 A turn: the program's own refusals, 8, 9, 10 to 13, and then the run.
  unfoldable pub turn_of : Turn
  turn_of = by_check (check_of p)
