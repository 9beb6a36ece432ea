-- What code that carries out a turn may go by while a deployment runs, so that it tests none of this and has no way for
-- what cannot come: the deployment begins within words 2 to u−1, its words are all there, and it keeps its reactor,
-- one of the program's, from its first command to its last; its D commands come first, then its R commands; no command
-- reads past its own location; an allocation is of one of the program's reactors; a Supply comes to a source that its
-- deployment has, and a Consume's deployment has one of the program's reactors; no run is deeper than 64. It holds in
-- each turn of an accepted program on a sound image: `steady` in proofs/Steady.antt.
use Rattle.std.specs.Prelude.{ℕ, zero, suc, ◌+◌, ◌-◌, ◌≤◌, ◌<◌, ◌≡◌, true, false, List, length}
use Rattle.value.specs.Value.{is_blank}
use Rattle.program.specs.Bytes.{reactors, commands_d, commands_in}
use Rattle.program.specs.Command.{Cmd, cmd_of, sequence_of, D, R, alloc_mono, make_poly, constant, global, supply, react}
use Rattle.program.specs.Command.{gives, consume, sink, alloc_poly, primitive, cell, fetch, keep, none}
use Rattle.program.specs.Location.{source_count, command_loc, size_of}
use Rattle.image.specs.Memory.{main_at, used, reactor, content, value_at}
use Rattle.remus.specs.Exec.{call, there, eff, opening, ready}
use Rattle.remus.specs.Run.{Ran, ran, step_of, run_of}

-- no operand of the command lies past location l. Where a primitive takes fewer than three, the others are 0
abbrev pub ReadsUpTo : ℕ → Cmd → Type 0
ReadsUpTo l (alloc_mono x) = Unit {0}
ReadsUpTo l (make_poly x) = Unit {0}
ReadsUpTo l (cell x v) = Unit {0}
ReadsUpTo l (gives (constant x v)) = Unit {0}
ReadsUpTo l (gives (global x)) = Unit {0}
ReadsUpTo l (gives (consume x b)) = b ≤ l
ReadsUpTo l (gives (primitive x a b c)) = (a ≤ l) × (b ≤ l) × (c ≤ l)
ReadsUpTo l (gives (fetch b)) = b ≤ l
ReadsUpTo l (supply x a b) = (a ≤ l) × (b ≤ l)
ReadsUpTo l (react b) = b ≤ l
ReadsUpTo l (sink x a) = a ≤ l
ReadsUpTo l (alloc_poly a b) = (a ≤ l) × (b ≤ l)
ReadsUpTo l (keep a b) = (a ≤ l) × (b ≤ l)
ReadsUpTo l none = Unit {0}

-- command i of o fits: r the reactor that o began with, m the words before the command, with o wired if D has ended
pub record Fits (p : List ℕ) (r : ℕ) (m : List ℕ) (o i : ℕ) : Type 0 where
  pub same : reactor m o ≡ r
  pub above : main_at ≤ o
  pub below : o < used m
  pub within : o + size_of p r ≤ length m
  pub declares : i < commands_d p r → sequence_of (cmd_of p r i) ≡ D
  pub runs : commands_d p r ≤ i → sequence_of (cmd_of p r i) ≡ R
  pub reads : ReadsUpTo (command_loc p r i) (cmd_of p r i)
  pub allocates : (x : ℕ) → cmd_of p r i ≡ alloc_mono x → x < reactors p
  pub operators : (a b : ℕ) → cmd_of p r i ≡ alloc_poly a b → is_blank (value_at p m o a) ≡ false
      → content p m o a < reactors p
  pub supplies : (x a b : ℕ) → cmd_of p r i ≡ supply x a b → there p m o b ≡ true
      → x < source_count p (reactor m (content p m o b))
  pub consumes : (x b : ℕ) → cmd_of p r i ≡ gives (consume x b) → there p m o b ≡ true
      → reactor m (content p m o b) < reactors p

-- `good` holds before each of the n commands from i on that `step` comes to
unfoldable pub Through : (ℕ → List ℕ → Ran) → (ℕ → List ℕ → Type 0) → ℕ → ℕ → List ℕ → Type 0
Through step good zero i m = Unit {0}
Through step good (suc n) i m = good i m × ((m' : List ℕ) → step i m ≡ ran m' → Through step good n (i + 1) m')

-- rd the readings
module _ (p rd : List ℕ) where
  -- command i of o, at depth h: m the words before it, and `enter` holds of the run that it calls
  pub record Orderly (enter : List ℕ → ℕ → Type 0) (h r o i : ℕ) (m : List ℕ) : Type 0 where
    pub same : reactor m o ≡ r
    pub fits : Fits p r (ready p m o i) o i
    pub calls : (m' : List ℕ) (d : ℕ) → eff p rd h m o i ≡ call m' d → enter m' d

  -- the run of o at depth h from the words m, with so many levels left as in run_of; it never comes to none
  unfoldable pub Steady : ℕ → ℕ → List ℕ → ℕ → Type 0
  Steady zero h m o = ⊥
  Steady (suc f) h m o =
      (reactor m o < reactors p)
      × Through (step_of (run_of f p rd (h + 1)) p rd h o) (Orderly (Steady f (h + 1)) h (reactor m o) o)
      (commands_in p (reactor m o) - opening p m o) (opening p m o) m
