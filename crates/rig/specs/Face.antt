-- 4.18 What a C caller gets: the calls on the words that its bytes hold.
use Rattle.std.specs.Prelude.{ℕ, List}
use Rattle.answer.specs.Answer.{place_of, number_of}
use Rattle.answer.specs.Answer.{Answer}
use Rattle.image.specs.Start as Start
use Rattle.image.specs.Start.{start_of}
use Rattle.remus.specs.Turn as Turn
use Rattle.remus.specs.Turn.{turn_of}
use Rattle.remus.specs.Preview as Preview
use Rattle.remus.specs.Preview.{preview_of}
use Rattle.rig.specs.Words.{words_of, holding, packed}

-- ---- what a call comes to

-- 4.19 An answer as one number.
unfoldable pub one_number : Answer → ℕ
one_number a = packed (number_of a) (place_of a)

-- a call's answer as one number, and the memory, of a preview the work memory, and the sink space then
pub record Faced : Type 0 where
  pub answer : ℕ
  pub memory : List ℕ
  pub sink_space : List ℕ

unfoldable pub faced : ℕ → List ℕ → List ℕ → Faced
faced a m sk = record { answer = a; memory = m; sink_space = sk }

unfoldable pub turn_faced : Turn.Turn → Faced
turn_faced t = faced (one_number t.answer) t.memory t.sink_space

unfoldable pub preview_faced : Preview.Preview → Faced
preview_faced v = faced (one_number v.answer) v.work v.sink_space

-- ---- the calls on bytes: those on their words, and the bytes that hold the words then

unfoldable pub start_bytes : List ℕ → List ℕ → Start.Start
start_bytes p m = let s = start_of p (words_of m) in record { answer = s.answer; memory = holding m s.memory }

unfoldable pub turn_bytes : List ℕ → List ℕ → List ℕ → List ℕ → Turn.Turn
turn_bytes p m rd sk =
    let t = turn_of p (words_of m) (words_of rd) (words_of sk) in
    record { answer = t.answer; memory = holding m t.memory; sink_space = holding sk t.sink_space }

unfoldable pub preview_bytes : List ℕ → List ℕ → List ℕ → List ℕ → List ℕ → Preview.Preview
preview_bytes p m work rd sk =
    let v = preview_of p (words_of m) (words_of work) (words_of rd) (words_of sk) in
    record { answer = v.answer; work = holding work v.work; sink_space = holding sk v.sink_space }
