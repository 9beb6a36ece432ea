-- What the contracts of a turn's code speak of beside the definitions.
use Rattle.std.specs.Prelude.{ℕ, suc, ◌+◌, ◌*◌, ◌≤◌, ◌<◌, ◌≡◌, Bool, true, false, not, List, length, get_or, Result, Ok, Err}
use Rattle.value.specs.Test.{pick, ◌<?◌, sweep}
use Rattle.program.specs.Command.{Cmd, takes_words, Made, deployment, point, held, nought, made_by, cmd_of, cell, keep}
use Rattle.program.specs.Command.{alloc_mono, make_poly, constant, global, supply, react, gives, consume, sink, alloc_poly}
use Rattle.program.specs.Command.{primitive, fetch, none}
use Rattle.program.specs.Location.{head_words, command_loc, source_count, slot_at}
use Rattle.image.specs.Memory.{most_words, main_at, word, used, turns, reactor, size_at, slot, with_wired, most_depth}
use Rattle.remus.specs.Exec.{Eff, move, call, fail, exec}
use Rattle.remus.specs.Run.{Ran, ran, stopped, entered, commands, step_of, run_of, main_run}
use Rattle.remus.specs.Cells.{keep_of}
use Rattle.remus.specs.Undo.{undo_of}
use Rattle.answer.specs.Answer.{Ruling}
use Rattle.machine.specs.declared.Outcome.{Outcome}
use Rattle.machine.specs.declared.Outcome.TheVariants.{Given, Move, Call}
use Rattle.program.specs.Bytes.{reactors, commands_d, commands_in, main_of, commands_r, commands_at}
use Rattle.program.specs.Clauses.{Facts}
use Rattle.remus.specs.Steady.{Through, Orderly, Steady}
use Rattle.answer.specs.declared.Refusal.{Refusal}
use Rattle.answer.specs.declared.Refusal.TheVariants.{UnsoundImage}
use Rattle.image.specs.Passes.{sound_of}
use Rattle.image.specs.Passes.{Judged}
use Rattle.image.specs.Clauses.{Tiling}
use Rattle.remus.specs.Turn.{Turn, asked_of}
use Rattle.remus.specs.Preview.{Preview}
use Rattle.answer.specs.Answer.{Answer}

-- a command's outcome, and the words then
pub data Acted : Type 0 where
  did : Result Outcome Refusal → List ℕ → Acted

-- of a command's effect, m the words before it: a result is given by a command that has one, and a
-- command that fails leaves the words
unfoldable pub acted : List ℕ → Cmd → Eff → Acted
acted m c (move m') = did (Ok (pick (takes_words c) Given Move)) m'
acted m c (call m' d) = did (Ok (Call d)) m'
acted m c (fail w) = did (Err w) m

-- what a command comes to, as a function of the command
abbrev pub doing : List ℕ → List ℕ → ℕ → List ℕ → ℕ → ℕ → Cmd → Acted
doing p rd h m o i c = acted m c (exec p rd h m o i c)

-- the outcome r and the words m' are what command c does, whatever the readings
abbrev pub Acts : List ℕ → ℕ → List ℕ → ℕ → ℕ → Cmd → Result Outcome Refusal → List ℕ → Type 0
Acts p h m o i c r m' = (rd : List ℕ) → did r m' ≡ doing p rd h m o i c

-- the words of command i of o begin there
abbrev pub Here : List ℕ → List ℕ → ℕ → ℕ → ℕ → Type 0
Here p m o i at = at ≡ slot p m o (command_loc p (reactor m o) i)

-- a deployment at o is below u, where the next one goes
pub record Stands (m : List ℕ) (o : ℕ) : Type 0 where
  pub above : main_at ≤ o
  pub below : o < used m

-- a run's end with the words then
unfoldable pub ran_as : Ruling → List ℕ → Ran
ran_as (Ok tt) m = ran m
ran_as (Err w) m = stopped w m

-- a D command's end and the words m' are what command c does, whatever the readings, and whatever a nested run would do
abbrev pub Declares : List ℕ → ℕ → List ℕ → ℕ → ℕ → Cmd → Ruling → List ℕ → Type 0
Declares p h m o i c r m' = (enter : List ℕ → ℕ → Ran) (rd : List ℕ) → ran_as r m' ≡ entered enter m
    (exec p rd h m o i c)

-- one more than the turns fits a word
abbrev pub TimeFits : List ℕ → Type 0
TimeFits m = turns m < 4294967295

-- what a turn's words keep, so that u and the time fit a word
pub record Workable (m : List ℕ) : Type 0 where
  pub few : length m ≤ most_words
  pub past : main_at ≤ used m
  pub clock : TimeFits m

-- m' has as many words as m, the same deployment at a, and the same words from its end on
pub record Local (p m : List ℕ) (a : ℕ) (m' : List ℕ) : Type 0 where
  pub long : length m' ≡ length m
  pub same : reactor m' a ≡ reactor m a
  pub rest : (i : ℕ) → a + size_at p m a ≤ i → word m' i ≡ word m i

-- ---- cells

-- what a Cell makes
unfoldable pub is_held : Made → Bool
is_held (deployment x) = false
is_held (point x) = false
is_held (held x) = true
is_held nought = false

module _ (p : List ℕ) where
  -- D command j of reactor r is no Cell
  abbrev pub no_cell : ℕ → ℕ → Bool
  no_cell r j = not (is_held (made_by (cmd_of p r j)))

  -- one of them is
  unfoldable pub has_cell : ℕ → Bool
  has_cell r = sweep (no_cell r) 0 (commands_d p r) <? commands_d p r

  -- a reactor has one
  unfoldable pub has_cells : Bool
  has_cells = sweep (λ r. not (has_cell r)) 0 (reactors p) <? reactors p

  -- location b of reactor r is that of a Cell, its D command `command`
  pub record CellAt (r b : ℕ) : Type 0 where
    pub command : ℕ
    pub kind : ℕ
    pub content : ℕ
    pub in_d : command < commands_d p r
    pub located : b ≡ command_loc p r command
    pub is : cmd_of p r command ≡ cell kind content

  -- each Keep's b is a cell, as in every accepted program
  abbrev pub Remembering : Type 0
  Remembering = (r i a b : ℕ) → r < reactors p → i < commands_in p r → cmd_of p r i ≡ keep a b → CellAt r b

-- ---- the table of a reactor's slots, and what of its program the run goes by

-- entry l of t is how many locations before l have words
abbrev pub Placed : List ℕ → ℕ → List ℕ → ℕ → Type 0
Placed p r t l = head_words + 2 * get_or t l 0 ≡ slot_at p r l

-- so are all below n
abbrev pub PlacedTo : List ℕ → ℕ → List ℕ → ℕ → Type 0
PlacedTo p r t n = (l : ℕ) → l < n → Placed p r t l

-- by the table, the words of location l of the deployment at o do not lie past those at `here`
abbrev pub UpTo : List ℕ → ℕ → ℕ → ℕ → Type 0
UpTo t o here l = o + head_words + 2 * get_or t l 0 ≤ here

-- A command that has a result finds its words without a test: its own, at `here`, are among the n of the memory, and no
-- operand's lie past them.
abbrev pub Reaches : List ℕ → ℕ → ℕ → ℕ → Cmd → Type 0
Reaches t o here n (alloc_mono x) = Unit {0}
Reaches t o here n (make_poly x) = Unit {0}
Reaches t o here n (cell x v) = Unit {0}
Reaches t o here n (gives (constant x v)) = here + 1 < n
Reaches t o here n (gives (global x)) = here + 1 < n
Reaches t o here n (gives (consume x b)) = (here + 1 < n) × UpTo t o here b
Reaches t o here n (gives (primitive x a b c)) = (here + 1 < n) × UpTo t o here a × UpTo t o here b
Reaches t o here n (gives (fetch b)) = (here + 1 < n) × UpTo t o here b
Reaches t o here n (supply x a b) = Unit {0}
Reaches t o here n (react b) = Unit {0}
Reaches t o here n (sink x a) = Unit {0}
Reaches t o here n (alloc_poly a b) = (here + 1 < n) × UpTo t o here a × UpTo t o here b
Reaches t o here n (keep a b) = (here + 1 < n) × UpTo t o here a
Reaches t o here n none = Unit {0}

-- an accepted program and its facts: reactors with few locations, some R commands, and
-- all its commands within the bytes
pub record Loaded (p t : List ℕ) : Type 0 where
  pub facts : Facts p t
  pub inside : (r : ℕ) → r < reactors p → commands_at p r + 8 * commands_in p r ≤ length p
  pub short : (r : ℕ) → r < reactors p → source_count p r + commands_in p r ≤ 167
  pub some : (r : ℕ) → r < reactors p → 0 < commands_r p r
  pub main : main_of p < reactors p

-- ---- a run once its deployment is wired

-- p the program, rd the readings, h the depth of the deployment at o, with so many levels left below it
module _ (p rd : List ℕ) (f h o : ℕ) where
  -- a command with its nested run, and what is known before each
  abbrev pub stepping : ℕ → List ℕ → Ran
  stepping = step_of (run_of f p rd (h + 1)) p rd h o

  abbrev pub Knowing : ℕ → ℕ → List ℕ → Type 0
  Knowing r = Orderly p rd (Steady p rd f (h + 1)) h r o

  -- from the words m, the n commands from i on of a deployment of reactor r are left, and come to x
  pub record Left (x : Ran) (r n i : ℕ) (m : List ℕ) : Type 0 where
    pub run : x ≡ commands stepping n i m
    pub steady : Through stepping (Knowing r) n i m
    pub workable : Workable m

  -- D has been carried out, or the run has stopped there
  abbrev pub Declared : List ℕ → Ruling → List ℕ → Type 0
  Declared m₀ (Ok tt) m =
      Left (run_of (suc f) p rd h m₀ o) (reactor m₀ o) (commands_r p (reactor m₀ o)) (commands_d p (reactor m₀ o)) m
  Declared m₀ (Err w) m = run_of (suc f) p rd h m₀ o ≡ stopped w m

  -- and the deployment is wired
  abbrev pub Opened : List ℕ → Ruling → List ℕ → Type 0
  Opened m₀ (Ok tt) m = Declared m₀ (Ok tt) m × (with_wired m o 1 ≡ m)
  Opened m₀ (Err w) m = Declared m₀ (Err w) m

-- ---- the whole turn

-- an answer with the words then
unfoldable pub turned : Answer → List ℕ → List ℕ → Turn
turned r m sk = record { answer = r; memory = m; sink_space = sk }

-- what is against a turn on an image so judged: 9, or 10 to 13
unfoldable pub ready_of : List ℕ → List ℕ → List ℕ → List ℕ → Judged → Ruling
ready_of p m rd sk (Ok tt) = asked_of p m rd sk
ready_of p m rd sk (Err q) = Err (UnsoundImage q)

-- a preview's answer with the words then
unfoldable pub previewed : Answer → List ℕ → List ℕ → Preview
previewed a work sk = record { answer = a; work = work; sink_space = sk }

-- what the end of a completed turn goes by: each Keep has its cell, main comes first, and the deployments tile the
-- words, before what was kept is in the cells and after
pub record Ending (p m : List ℕ) : Type 0 where
  pub remembers : Remembering p
  pub first : reactor m main_at ≡ main_of p
  pub tiled : Tiling p m (used m) main_at
  pub kept_tiled : Tiling p (keep_of p (used m) m) (used (keep_of p (used m) m)) main_at
  pub kept_turns : turns (keep_of p (used m) m) ≡ turns m

-- what the turn's code goes by: main's run is steady, where what the turn brings is fine; the deployments tile the
-- words when it ends, and where it is refused the old ones do, and undoing gives the words before
pub record Safe (p rd m : List ℕ) : Type 0 where
  pub few : length m ≤ most_words
  pub past : main_at ≤ used m
  pub steady : (sk : List ℕ) → asked_of p m rd sk ≡ Ok tt → Steady p rd most_depth 1 m main_at
  pub ends : (m' : List ℕ) → main_run p rd m ≡ ran m' → Ending p m'
  pub stops : (w : Refusal) (m' : List ℕ) → main_run p rd m ≡ stopped w m' → Tiling p m' (used m) main_at
  pub undoes : (w : Refusal) (m' : List ℕ) → main_run p rd m ≡ stopped w m' → undo_of p (used m) m' ≡ m

-- of an accepted program and its facts t: they are all that the run goes by, and each sound image is safe, whatever
-- the readings
pub record Sure (p t : List ℕ) : Type 0 where
  pub loaded : Loaded p t
  pub safe : (m rd : List ℕ) → length m ≤ most_words → sound_of p m ≡ Ok tt → Safe p rd m
