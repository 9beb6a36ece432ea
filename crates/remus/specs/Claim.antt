-- 6.34 One statement about any list of turns of an accepted program, from memory that its start has made ready.
use Rattle.std.specs.Prelude.{ℕ, ◌+◌, ◌-◌, ◌*◌, ◌≤◌, ◌<◌, ◌≡◌, ◌↔◌, ◌≢◌, List, [], ◌∷◌, length, Ok, Err}
use Rattle.value.specs.Value.{blank, mark_of, value}
use Rattle.value.specs.declared.Value.{Value}
use Rattle.program.specs.Bytes.{globals, main_of}
use Rattle.program.specs.Command.{Cmd, cell, fetch, keep, gives}
use Rattle.program.specs.Location.{sink_count, sink_loc, size_of, cmd_at, HasSlot}
use Rattle.load.specs.Check.{IsAccepted}
use Rattle.answer.specs.declared.Refusal.{Refusal}
use Rattle.answer.specs.declared.Refusal.TheVariants.{NoRoom, TooDeep}
use Rattle.image.specs.Memory.{most_words, most_turns, most_depth, main_at, word, used, turns, reactor, wired, next, mark}
use Rattle.image.specs.Memory.{content}
use Rattle.image.specs.Memory.{value_at}
use Rattle.image.specs.Sound.{Tiles, Deployed, InD, Depth, SoundImage}
use Rattle.image.specs.Start.{start_of}
use Rattle.answer.specs.Answer.{number_of}
use Rattle.remus.specs.Turn.{Turn, turn_of, asked_of}
use Rattle.remus.specs.Fault.{LegalReadings}
use Rattle.remus.specs.Walk.{location, run, State, Reach, begun, Input, Walked, Walks}
use Rattle.remus.specs.Point.{◌∈◌, Before, Within, Can, ReadsWell, Allocation, WalkAllocates}

-- ---- cells: l is a location of the deployment d

-- In the words m there is a cell, whose first content is f.
pub record CellIn (p m : List ℕ) (d l : ℕ) (f : Value) : Type 0 where
  pub deployed : Deployed p m d
  pub kind : ℕ
  pub bits : ℕ
  pub is : cmd_at p (reactor m d) l ≡ cell kind bits
  pub first : value (mark_of kind) bits ≡ f

-- 6.19 What it holds while a turn from the words w goes on: what it held before, and f if the turn wires the
-- deployment.
pub data Begins (p w : List ℕ) (d l : ℕ) (f : Value) : Value → Type 0 where
  stands : Deployed p w d → wired w d ≡ 1 → Begins p w d l f (value_at p w d l)
  fresh : (Deployed p w d → wired w d ≡ 0) → Begins p w d l f f

-- ---- one turn: p the program, w the words before it, t what it brings
module _ (p w : List ℕ) (t : Input) where
  -- s is a state of the turn, which 10 to 13 do not refuse
  pub record During (s : State) : Type 0 where
    pub allowed : asked_of p w t.readings t.sink_space ≡ Ok tt
    pub comes : Reach p t.readings (begun p w) s

  -- a point of the turn: in state s, with the words m, command c of o is next
  pub record Point (s : State) (m : List ℕ) (o : ℕ) (c : Cmd) : Type 0 where
    pub during : During s
    pub before : Before p s m o c

  -- at a point with the pile at height h and the words m, the next command is an allocation of reactor q
  pub record AllocatesAt (q h : ℕ) (m : List ℕ) : Type 0 where
    pub state : State
    pub owner : ℕ
    pub command : Cmd
    pub point : Point state m owner command
    pub is : Allocation p m owner command q
    pub height : length state.pile ≡ h

  -- an allocation of reactor q would have depth 65
  abbrev pub TooDeepAt : ℕ → Type 0
  TooDeepAt q = (h : ℕ) × (m : List ℕ) × AllocatesAt q h m × (h + 1 ≡ 65)

  -- one that is not too deep has a larger size than there are words left
  abbrev pub NoRoomAt : ℕ → Type 0
  NoRoomAt q = (h : ℕ) × (m : List ℕ) × AllocatesAt q h m × (h + 1 ≤ most_depth) × (length w - used m < size_of p q)

  -- main leaves in state s
  pub record Leaves (s : State) : Type 0 where
    pub during : During s
    pub empty : s.pile ≡ []

  -- 6.33 The turn brings a legal pair for each global but the time, room for main's sinks, and a turn can still be
  -- counted.
  pub record Fit : Type 0 where
    pub count : length t.readings ≡ 2 * globals p
    pub legal : LegalReadings p t.readings
    pub room : 2 * sink_count p (main_of p) ≤ length t.sink_space
    pub clock : turns w < most_turns

  -- 6.21, 4.9 Every sink of main has a note as main leaves, its pair stands in the sink space, and words past the pairs
  -- are as they were.
  pub record Written (s : State) (sk : List ℕ) : Type 0 where
    pub noted : (x : ℕ) → x < sink_count p (main_of p) → location main_at (sink_loc p (main_of p) x) ∈ s.notes
    pub marks : (x : ℕ) → x < sink_count p (main_of p)
        → word sk (2 * x) ≡ mark p s.words main_at (sink_loc p (main_of p) x)
    pub contents : (x : ℕ) → x < sink_count p (main_of p)
        → word sk (2 * x + 1) ≡ content p s.words main_at (sink_loc p (main_of p) x)
    pub further : (i : ℕ) → 2 * sink_count p (main_of p) ≤ i → word sk i ≡ word t.sink_space i
    pub same_length : length sk ≡ length t.sink_space

  -- the turn completes, and d has run in it
  pub record Runs (d : ℕ) : Type 0 where
    pub state : State
    pub leaves : Leaves state
    pub ran : run d ∈ state.notes

  -- it completes, and u was kept in cell l of d: its Keep's operand, as the Keep is next
  pub record Kept (d l : ℕ) (u : Value) : Type 0 where
    pub runs : Runs d
    pub state : State
    pub words : List ℕ
    pub operand : ℕ
    pub point : Point state words d (keep operand l)
    pub is : value_at p words d operand ≡ u

  -- 6.22, 6.26 The turn leads cell l of d from the content x to another: to what was kept, if it completes and d has
  -- run; else the content stays, so in a refused turn, and where d has not run.
  pub data Becomes (d l : ℕ) (x : Value) : Value → Type 0 where
    kept : {u : Value} → Kept d l u → Becomes d l x u
    stays : (Runs d → ⊥) → Becomes d l x x

  -- 6.23, 6.24 Memory after a completed turn, word by word: v as main leaves, m after. What computes them is
  -- `finished`; nothing here speaks of it.
  pub record AfterTurn (v m : List ℕ) : Type 0 where
    pub same_length : length m ≡ length w
    pub same_used : used m ≡ used v
    -- 6.24 One turn more is counted.
    pub counted : turns m ≡ turns w + 1
    -- the other words below u are those of deployments: of each, headers stay, and so do D slots but for cells
    pub tiled : Tiles p v (used v) main_at
    pub headers : (d : ℕ) → Deployed p v d
        → (reactor m d ≡ reactor v d) × (wired m d ≡ wired v d) × (next m d ≡ next v d)
    pub d_slots : (d l : ℕ) → Deployed p v d → InD p v (reactor v d) l
        → ((k b : ℕ) → cmd_at p (reactor v d) l ≢ cell k b) → value_at p m d l ≡ value_at p v d l
    -- 6.22 A cell has its content for the next turn.
    pub cells : (d l : ℕ) (f x : Value) → CellIn p v d l f → Begins p w d l f x → Becomes d l x (value_at p m d l)
    -- 6.23 All other slots are cleared.
    pub other_slots : (d l : ℕ) → Deployed p v d → HasSlot p (reactor v d) l → (InD p v (reactor v d) l → ⊥)
        → value_at p m d l ≡ blank
    pub rest : (i : ℕ) → used v ≤ i → word m i ≡ 0

  -- 6.33 How a turn ends that brings what it should: with 0, every sink written and memory cleared, with 15, or with
  -- 14.
  pub data Ends (r : Turn) : Type 0 where
    completed : (s : State) → Leaves s → r.answer ≡ Ok (used s.words) → Written s r.sink_space
        → AfterTurn s.words r.memory → Ends r
    out_of_depth : (q : ℕ) → r.answer ≡ Err (TooDeep q) → Ends r
    no_room : (q : ℕ) → r.answer ≡ Err (NoRoom q) → Ends r

  pub record TurnClaim : Type 0 where
    -- 6.34 The turn's answer and words are the walk's. So the turn ends.
    pub result : Walked p w t (turn_of p w t.readings t.sink_space)
    -- 6.32 At every point deployments fill the words from 2 to u−1, as in a sound image.
    pub tiled : (s : State) (m : List ℕ) (o : ℕ) (c : Cmd) → Point s m o c → Tiles p m (used m) main_at
    -- 6.7 The topmost is one of them, as deep as there are open deployments, and that is at most 64.
    pub topmost : (s : State) (m : List ℕ) (o : ℕ) (c : Cmd) → Point s m o c
        → Within p m o × Depth p m o (length s.pile) × (length s.pile ≤ most_depth)
    -- 6.31 And the next command can be carried out.
    pub carried : (s : State) (m : List ℕ) (o : ℕ) (c : Cmd) → Point s m o c → Can p m s.notes o c
    -- 6.30 Every value that it reads comes from this turn and is of its kind.
    pub values : (s : State) (m : List ℕ) (o : ℕ) (c : Cmd) → Point s m o c → ReadsWell p m s.notes o t.readings c
    -- 6.19 A Fetch reads what its cell held as the turn began.
    pub fetched : (s : State) (m : List ℕ) (o b : ℕ) (f : Value) → Point s m o (gives (fetch b)) → CellIn p m o b f
        → Begins p w o b f (value_at p m o b)
    -- what a turn that brings what it should comes to, and nothing else
    pub ends : (r : Turn) → Fit → Walked p w t r → Ends r
    -- 6.14 Refused with 15 exactly at an allocation that would have depth 65.
    pub deep : (r : Turn) (q : ℕ) → Walked p w t r → (r.answer ≡ Err (TooDeep q)) ↔ TooDeepAt q
    -- 6.14 Refused with 14 exactly at another allocation that is larger than what is left.
    pub full : (r : Turn) (q : ℕ) → Walked p w t r → (r.answer ≡ Err (NoRoom q)) ↔ NoRoomAt q
    -- 6.1 Completed, with 0, exactly where main comes to its end.
    pub complete : (r : Turn) (u : ℕ) → Walked p w t r
        → (r.answer ≡ Ok u) ↔ ((s : State) × Leaves s × (used s.words ≡ u))
    -- 4.11, 6.26 Refused by 10 to 13 before a step, or by 14 and 15 at one: no word is changed.
    pub refused : (r : Turn) (v : Refusal) → Walked p w t r → r.answer ≡ Err v
        → (r.memory ≡ w) × (r.sink_space ≡ t.sink_space)

  -- k words were allocated in the turn, which completes
  pub record Completed (k : ℕ) : Type 0 where
    pub state : State
    pub leaves : Leaves state
    pub made : WalkAllocates p t.readings (begun p w) state k

-- ---- a list of turns

-- the machine's own results, each turn on the memory that the one before left; and the memory after the last
unfoldable pub turns_of : List ℕ → List ℕ → List Input → List Turn
turns_of p m [] = []
turns_of p m (t ∷ ts) = let r = turn_of p m t.readings t.sink_space in r ∷ turns_of p r.memory ts

unfoldable pub memory_after : List ℕ → List ℕ → List Input → List ℕ
memory_after p m [] = m
memory_after p m (t ∷ ts) = memory_after p (turn_of p m t.readings t.sink_space).memory ts

-- t is one of the turns of a list that begins from the words m, bs are those before it, and w its first words, which
-- the walk has left
pub data TurnOf (p : List ℕ) : List ℕ → List Input → List Input → List ℕ → Input → Type 0 where
  now : {m : List ℕ} {t : Input} {ts : List Input} → TurnOf p m (t ∷ ts) [] m t
  after : {m w : List ℕ} {t u : Input} {ts bs : List Input} {r : Turn}
      → Walked p m t r → TurnOf p r.memory ts bs w u → TurnOf p m (t ∷ ts) (t ∷ bs) w u

-- 6.25 The turns bs from the words m lead cell l of d from the content x to u: to what the last of them that completed
-- and ran d kept, or to x if none did.
pub data Remembers (p : List ℕ) (d l : ℕ) : List ℕ → Value → List Input → Value → Type 0 where
  no_turn : {m : List ℕ} {x : Value} → Remembers p d l m x [] x
  and_then : {m : List ℕ} {x y u : Value} {t : Input} {bs : List Input} {r : Turn}
      → Walked p m t r → Becomes p m t d l x y → Remembers p d l r.memory y bs u → Remembers p d l m x (t ∷ bs) u

-- k words were allocated in the completed turns of a list that begins from the words m
pub data Grows (p : List ℕ) : List ℕ → List Input → ℕ → Type 0 where
  no_turn : {m : List ℕ} → Grows p m [] 0
  completed : {m : List ℕ} {t : Input} {ts : List Input} {r : Turn} {u k j : ℕ}
      → Walked p m t r → r.answer ≡ Ok u → Completed p m t k → Grows p r.memory ts j → Grows p m (t ∷ ts) (k + j)
  refused : {m : List ℕ} {t : Input} {ts : List Input} {r : Turn} {v : Refusal} {j : ℕ}
      → Walked p m t r → r.answer ≡ Err v → Grows p r.memory ts j → Grows p m (t ∷ ts) j

-- p the program, v the words that its start has left, ts the list of turns
pub record Claim (p v : List ℕ) (ts : List Input) : Type 0 where
  -- 6.34 Each turn's answer and words are the walk's.
  pub results : Walks p v ts (turns_of p v ts)
  -- what the walk of each turn is like
  pub every_turn : (bs : List Input) (w : List ℕ) (t : Input) → TurnOf p v ts bs w t → TurnClaim p w t
  -- 6.25 What a Fetch reads is where the turns before lead from the cell's first content.
  pub remembered : (bs : List Input) (w : List ℕ) (t : Input) → TurnOf p v ts bs w t
      → (s : State) (m : List ℕ) (o b : ℕ) (f : Value) → Point p w t s m o (gives (fetch b)) → CellIn p m o b f
      → Remembers p o b v f bs (value_at p m o b)
  -- 6.15 What u is made of.
  pub grown : (k : ℕ) × Grows p v ts k × (used (memory_after p v ts) ≡ main_at + size_of p (main_of p) + k)

-- ---- proved in proofs/Demand.antt, proofs/Once.antt and proofs/RefusedLeaves.antt: an element of each of these types

-- 6.34 Over any list of turns from a start.
abbrev pub Demand : Type 0
Demand =
    (p m : List ℕ) (ts : List Input) → IsAccepted p → number_of (start_of p m).answer ≡ 0
    → Claim p (start_of p m).memory ts

-- The same for one turn, on any sound image of an accepted program.
abbrev pub DemandOnce : Type 0
DemandOnce = (p w : List ℕ) (t : Input) → IsAccepted p → length w ≤ most_words → SoundImage p w → TurnClaim p w t

-- 6.34 A turn's walk has one result.
abbrev pub WalkedOnce : Type 0
WalkedOnce = (p w : List ℕ) (t : Input) (r s : Turn) → Walked p w t r → Walked p w t s → r ≡ s

-- 3.11 A turn on a sound image, completed or refused, leaves a sound image.
abbrev pub SoundnessKept : Type 0
SoundnessKept = (p w : List ℕ) (t : Input) → IsAccepted p → length w ≤ most_words → SoundImage p w
    → SoundImage p (turn_of p w t.readings t.sink_space).memory

-- 4.11 A refused turn changes no word, whatever it was handed, accepted and sound or not.
abbrev pub RefusedKeeps : Type 0
RefusedKeeps =
    (p m rd sk : List ℕ) → number_of (turn_of p m rd sk).answer ≢ 0
    → ((turn_of p m rd sk).memory ≡ m) × ((turn_of p m rd sk).sink_space ≡ sk)
