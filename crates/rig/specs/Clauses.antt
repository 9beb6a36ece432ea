-- What the contracts of the code speak of beside the definitions: what it answers and stores on the way.
use Rattle.std.specs.Prelude.{ℕ, ◌/◌, ◌≡◌, Bool, true, List, length}
use Rattle.value.specs.Test.{pick, ◌=?◌}
use Rattle.answer.specs.Answer.{number_of}
use Rattle.answer.specs.Answer.{Answer}
use Rattle.std.specs.Prelude.{Ok, Err}
use Rattle.answer.specs.declared.Refusal.TheVariants.{MemoryLength, ReadingsLength, WorkLength}
use Rattle.image.specs.Start.{start_of, words_legal}
use Rattle.remus.specs.Turn.{Turn, turn_of}
use Rattle.remus.specs.Preview.{from_run}
use Rattle.rig.specs.Words.{words_of, holding}
use Rattle.rig.specs.declared.rooms.Call.{Call}
use Rattle.rig.specs.declared.rooms.Call.TheVariants as C

-- ---- a call in a room of words

-- the words that it is made on: those of memory, for a preview those of its source
unfoldable pub room_of : Call → List ℕ → List ℕ
room_of C.Start m = words_of m
room_of C.Turn m = words_of m
room_of (C.Preview source) m = words_of source.now

-- a preview's source has as many words as memory
abbrev pub Level : Call → List ℕ → Type 0
Level C.Start m = Unit {0}
Level C.Turn m = Unit {0}
Level (C.Preview source) m = length source.now / 4 ≡ length m / 4

-- the call on words; start leaves the sink space, and a preview makes its turn in the room
unfoldable pub call_of : Call → List ℕ → List ℕ → List ℕ → List ℕ → Turn
call_of C.Start p m rd sk = let s = start_of p m in record { answer = s.answer; memory = s.memory; sink_space = sk }
call_of C.Turn p m rd sk = turn_of p m rd sk
call_of (C.Preview source) p m rd sk = turn_of p m rd sk

-- whether memory then gets the words in the room: not if a preview's turn did not run
unfoldable pub saves : Call → Answer → Bool
saves C.Start a = true
saves C.Turn a = true
saves (C.Preview source) a = from_run (number_of a)

-- with the bytes m of memory then
unfoldable pub held : Call → List ℕ → Turn → Turn
held what m t = record {
  answer = t.answer;
  memory = pick (saves what t.answer) (holding m t.memory) m;
  sink_space = t.sink_space;
}

abbrev pub call_held : Call → List ℕ → List ℕ → List ℕ → List ℕ → Turn
call_held what p m rd sk = held what m (call_of what p (room_of what m) rd sk)

-- ---- with readings and sink space of bytes too

-- a call that has them
abbrev pub Runs : Call → Type 0
Runs C.Start = ⊥
Runs C.Turn = Unit {0}
Runs (C.Preview source) = Unit {0}

-- an answer; 10 with n as its place
unfoldable pub placed_at : ℕ → Answer → Answer
placed_at n a = pick (number_of a =? 10) (Err (ReadingsLength n)) a

-- with the bytes sk that hold its sinks then
unfoldable pub sinks_held : List ℕ → Turn → Turn
sinks_held sk t = record { answer = t.answer; memory = t.memory; sink_space = holding sk t.sink_space }

-- ---- memory, or of a preview the work memory, whose length is against the call

-- the answer for n words of memory and k of work memory, by that of the check
unfoldable pub unfit_of : ℕ → ℕ → Answer → Answer
unfit_of n k (Ok size) = pick (words_legal n) (Err (WorkLength k)) (Err (MemoryLength n))
unfit_of n k (Err w) = Err w
