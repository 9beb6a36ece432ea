-- Section 6 of the manual step by step: the walk. Beside words it has the open deployments (6.1), the newest first, and
-- notes (6.28).
use Rattle.std.specs.Prelude.{ℕ, zero, suc, ◌+◌, ◌≡◌, Bool, true, false, List, [], ◌∷◌, ◌++◌, length}
use Rattle.value.specs.Test.{◌=?◌}
use Rattle.program.specs.Bytes.{commands_in}
use Rattle.program.specs.Command.{Cmd, cmd_of, alloc_mono, make_poly, supply, react, sink, alloc_poly, cell, keep, none}
use Rattle.program.specs.Command.{gives}
use Rattle.program.specs.Location.{sink_loc, command_loc}
use Rattle.answer.specs.declared.Refusal.{Refusal}
use Rattle.image.specs.Memory.{main_at, used, reactor, content}
use Rattle.remus.specs.Exec.{Eff, move, call, fail, there, eff, opening, ready}
use Rattle.remus.specs.Clear.{finished, sunk}
use Rattle.remus.specs.Turn.{Turn, asked_of}
use Rattle.std.specs.Prelude.{Ok, Err}

pub data Note : Type 0 where
  location : (d l : ℕ) → Note
  run : (d : ℕ) → Note

-- an open deployment and the index of its next command, D then R
pub record Frame : Type 0 where
  pub at : ℕ
  pub next : ℕ

pub record State : Type 0 where
  pub words : List ℕ
  pub pile : List Frame
  pub notes : List Note

abbrev state : List ℕ → List Frame → List Note → State
state m fs ns = record { words = m; pile = fs; notes = ns }

abbrev frame : ℕ → ℕ → Frame
frame o i = record { at = o; next = i }

-- what comes of a step: the walk goes on; the turn ends with a number and a place; or the pile was empty, main has left
pub data Next : Type 0 where
  go : State → Next
  stop : Refusal → Next
  over : State → Next

module _ (p : List ℕ) where
  -- 6.28 What a Supply notes, by whether there is a deployment.
  unfoldable pub supplied_note : Bool → ℕ → ℕ → List Note
  supplied_note true d x = location d x ∷ []
  supplied_note false d x = []

  -- 6.28 What command i of o notes, m the words before it.
  unfoldable pub notes_of : List ℕ → ℕ → ℕ → Cmd → List Note
  notes_of m o i (alloc_mono x) = []
  notes_of m o i (make_poly x) = []
  notes_of m o i (cell x v) = []
  notes_of m o i (gives g) = location o (command_loc p (reactor m o) i) ∷ []
  notes_of m o i (supply x a b) = supplied_note (there p m o b) (content p m o b) x
  notes_of m o i (react b) = []
  notes_of m o i (sink x a) = location o (sink_loc p (reactor m o) x) ∷ []
  notes_of m o i (alloc_poly a b) = location o (command_loc p (reactor m o) i) ∷ []
  notes_of m o i (keep a b) = location o b ∷ []
  notes_of m o i none = []

  -- 6.6 What a command's effect makes of the open deployments: React puts one on top.
  unfoldable pub onto : ℕ → ℕ → List Frame → List Note → Eff → Next
  onto o i fs ns (move m) = go (state m (frame o (i + 1) ∷ fs) ns)
  onto o i fs ns (call m d) = go (state m (frame d (opening p m d) ∷ frame o (i + 1) ∷ fs) ns)
  onto o i fs ns (fail w) = stop w

  -- 6.1, 6.28 How a turn begins: main alone is open, and there are no notes.
  unfoldable pub begun : List ℕ → State
  begun m = state m (frame main_at (opening p m main_at) ∷ []) []

-- rd the turn's readings
module _ (p rd : List ℕ) where
  -- 6.5, 6.6 By whether o is at its end: then there is a note that it has run, and it leaves; else its next command
  -- follows.
  unfoldable pub step_at : Bool → List ℕ → ℕ → ℕ → List Frame → List Note → Next
  step_at true m o i fs ns = go (state m fs (run o ∷ ns))
  step_at false m o i fs ns =
      onto p o i fs (notes_of p (ready p m o i) o i (cmd_of p (reactor m o) i) ++ ns) (eff p rd (suc (length fs)) m o i)

  -- a step, or a leaving between two steps
  unfoldable pub step_on : List ℕ → List Frame → List Note → Next
  step_on m [] ns = over (state m [] ns)
  step_on m (f ∷ fs) ns = step_at (f.next =? commands_in p (reactor m f.at)) m f.at f.next fs ns

  unfoldable pub step : State → Next
  step s = step_on s.words s.pile s.notes

  -- what the walk comes to from a state
  pub data Reach (s : State) : State → Type 0 where
    stay : Reach s s
    on : {t u : State} → Reach s t → step t ≡ go u → Reach s u

  -- at most so many steps, for cases that compute
  unfoldable pub onwards : (State → Next) → Next → Next
  onwards more (go t) = more t
  onwards more (stop w) = stop w
  onwards more (over t) = over t

  unfoldable pub steps : ℕ → State → Next
  steps zero s = go s
  steps (suc k) s = onwards (steps k) (step s)

-- 6.34 What one turn brings: any readings and any sink space.
pub record Input : Type 0 where
  pub readings : List ℕ
  pub sink_space : List ℕ

-- 6.34 What the walk's turn from the words m comes to.
pub data Walked (p m : List ℕ) (t : Input) : Turn → Type 0 where
  -- 6.1 Refused by 10 to 13, before any step.
  refused : {w : Refusal} → asked_of p m t.readings t.sink_space ≡ Err w
      → Walked p m t (record { answer = Err w; memory = m; sink_space = t.sink_space })
  -- 6.14, 6.26 Refused by 15 or 14 at an allocation; no word has changed then.
  stopped : {w : Refusal} (s : State) → asked_of p m t.readings t.sink_space ≡ Ok tt
      → Reach p t.readings (begun p m) s → step p t.readings s ≡ stop w
      → Walked p m t (record { answer = Err w; memory = m; sink_space = t.sink_space })
  -- 6.1, 6.24 Completed, as main has come to its end.
  left : (s : State) → asked_of p m t.readings t.sink_space ≡ Ok tt → Reach p t.readings (begun p m) s
      → s.pile ≡ [] → Walked p m t (record {
        answer = Ok (used s.words);
        memory = finished p s.words;
        sink_space = sunk p s.words t.sink_space;
      })

-- the same of a list of turns, each on the words that the one before left
pub data Walks (p : List ℕ) : List ℕ → List Input → List Turn → Type 0 where
  no_turn : {m : List ℕ} → Walks p m [] []
  and_then : {m : List ℕ} {t : Input} {ts : List Input} {r : Turn} {rs : List Turn} → Walked p m t r
      → Walks p r.memory ts rs → Walks p m (t ∷ ts) (r ∷ rs)
