-- 6.37 The values of a completed turn solve the equations of its commands, in each deployment that ran.
use Rattle.std.specs.Prelude.{ℕ, ◌≤◌, ◌<◌, ◌≡◌, true, false, List, length}
use Rattle.value.specs.Value.{deployment_mark, mark_of, value, blank, is_blank}
use Rattle.value.specs.Primitive as P
use Rattle.value.specs.declared.Value.{Value}
use Rattle.program.specs.Bytes.{reactors, main_of, commands_in}
use Rattle.program.specs.Command.{cmd_of, alloc_mono, alloc_poly, supply, react, sink, gives, constant, global, consume}
use Rattle.program.specs.Command.{primitive, fetch}
use Rattle.program.specs.Location.{command_loc, sink_loc}
use Rattle.load.specs.Check.{IsAccepted}
use Rattle.image.specs.Memory.{most_words, main_at, reactor, content, value_at}
use Rattle.image.specs.Sound.{SoundImage}
use Rattle.remus.specs.Exec.{global_value}
use Rattle.remus.specs.Walk.{run, State, Input}
use Rattle.remus.specs.Point.{◌∈◌}
use Rattle.remus.specs.Claim.{Leaves}

-- m the words as main leaves, Ran the deployments that ran, rd the readings, w the words before the turn
pub record Solution (p rd w m : List ℕ) (Ran : ℕ → Type 0) : Type 0 where
  pub main : Ran main_at
  pub main_is : reactor m main_at ≡ main_of p
  pub low : (o : ℕ) → Ran o → reactor m o < reactors p
  -- command j of a deployment o that ran: what stands at its own location, or at its sink
  pub constants : (o j x a : ℕ) → Ran o → j < commands_in p (reactor m o)
      → cmd_of p (reactor m o) j ≡ gives (constant x a)
      → value_at p m o (command_loc p (reactor m o) j) ≡ value (mark_of x) a
  pub globals : (o j x : ℕ) → Ran o → j < commands_in p (reactor m o)
      → cmd_of p (reactor m o) j ≡ gives (global x)
      → value_at p m o (command_loc p (reactor m o) j) ≡ global_value rd w x
  pub primitives : (o j x a b c : ℕ) → Ran o → j < commands_in p (reactor m o)
      → cmd_of p (reactor m o) j ≡ gives (primitive x a b c)
      → (t : Value) × (v : Value)
      × (value_at p m o (command_loc p (reactor m o) j) ≡ P.primitive x (value_at p m o a) t v)
      × (2 ≤ P.operands x → t ≡ value_at p m o b) × (3 ≤ P.operands x → v ≡ value_at p m o c)
  pub fetches : (o j b : ℕ) → Ran o → j < commands_in p (reactor m o)
      → cmd_of p (reactor m o) j ≡ gives (fetch b)
      → value_at p m o (command_loc p (reactor m o) j) ≡ value_at p m o b
  pub sinks : (o j x a : ℕ) → Ran o → j < commands_in p (reactor m o)
      → cmd_of p (reactor m o) j ≡ sink x a
      → value_at p m o (sink_loc p (reactor m o) x) ≡ value_at p m o a
  -- deployments: c is the one at operand b of o
  pub monos : (o j x : ℕ) → Ran o → j < commands_in p (reactor m o)
      → cmd_of p (reactor m o) j ≡ alloc_mono x
      → (c : ℕ) × (value_at p m o (command_loc p (reactor m o) j) ≡ value deployment_mark c) × (reactor m c ≡ x)
  pub polys : (o j a b : ℕ) → Ran o → j < commands_in p (reactor m o)
      → cmd_of p (reactor m o) j ≡ alloc_poly a b
      → (is_blank (value_at p m o a) ≡ true → value_at p m o (command_loc p (reactor m o) j) ≡ blank)
      × (is_blank (value_at p m o a) ≡ false
      → (c : ℕ) × (value_at p m o (command_loc p (reactor m o) j) ≡ value deployment_mark c)
      × (reactor m c ≡ content p m o a))
  pub supplies : (o j x a b c : ℕ) → Ran o → j < commands_in p (reactor m o)
      → cmd_of p (reactor m o) j ≡ supply x a b
      → value_at p m o b ≡ value deployment_mark c → value_at p m c x ≡ value_at p m o a
  pub reacts : (o j b c : ℕ) → Ran o → j < commands_in p (reactor m o)
      → cmd_of p (reactor m o) j ≡ react b → value_at p m o b ≡ value deployment_mark c → Ran c
  pub consumes : (o j x b c : ℕ) → Ran o → j < commands_in p (reactor m o)
      → cmd_of p (reactor m o) j ≡ gives (consume x b) → value_at p m o b ≡ value deployment_mark c
      → value_at p m o (command_loc p (reactor m o) j) ≡ value_at p m c (sink_loc p (reactor m c) x)

-- Proved in proofs/Solved.antt: an element of this type.
abbrev pub Solved : Type 0
Solved = (p w : List ℕ) (t : Input) (s : State) → IsAccepted p → length w ≤ most_words → SoundImage p w → Leaves p w t s
    → Solution p t.readings w s.words (λ d. run d ∈ s.notes)
