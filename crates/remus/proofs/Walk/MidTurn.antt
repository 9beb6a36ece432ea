-- What holds in the middle of a turn. `MidTurn` speaks of the words and the notes, with B the commands that are behind
-- (carried out in this turn, or skipped since their deployment was wired before) and E the deployments that are open or
-- have run. Each note, opening and unwired deployment has its cause in a command that is behind, so nothing comes
-- twice; causes stay, and so does all the rest.
use Rattle.std.specs.Prelude.{ℕ, ◌≤◌, ◌<◌, ◌≡◌, ◌⊎◌, false, List}
use Rattle.value.specs.Value.{blank, is_blank, deployment_mark}
use Rattle.program.specs.Bytes.{main_of, commands_d, commands_in}
use Rattle.program.specs.Command.{Cmd, cmd_of, alloc_mono, make_poly, supply, react, sink, alloc_poly, cell, keep, none}
use Rattle.program.specs.Command.{gives}
use Rattle.program.specs.Location.{source_count, command_loc, sink_loc, HasSlot, cmd_at}
use Rattle.program.specs.Kind.{kind_of, OfKind}
use Rattle.image.specs.Memory.{most_depth, main_at, reactor, wired, next, mark, content, value_at}
use Rattle.image.specs.Sound.{Deployed, OnChain, MonoSlot, PointSlot, CellSlot, Owner, Depth}
use Rattle.image.proofs.Memory.Changes.{Good}
use Rattle.image.proofs.Memory.Slots.{SlotRight, MadeOrBlank}
use Rattle.remus.specs.Cells.{kept}
use Rattle.remus.specs.Walk.{Note, location}
use Rattle.remus.specs.Point.{◌∈◌}

-- a location of this command, or of a port (none), keeps a value
abbrev pub Valued : Cmd → Type 0
Valued (alloc_mono x) = ⊥
Valued (make_poly x) = ⊥
Valued (cell x v) = ⊥
Valued (gives g) = Unit {0}
Valued (supply x a b) = Unit {0}
Valued (react b) = Unit {0}
Valued (sink x a) = Unit {0}
Valued (alloc_poly a b) = ⊥
Valued (keep a b) = ⊥
Valued none = Unit {0}

-- the command's location can hold a deployment
abbrev pub Deploys : Cmd → Type 0
Deploys (alloc_mono x) = Unit {0}
Deploys (make_poly x) = ⊥
Deploys (cell x v) = ⊥
Deploys (gives g) = ⊥
Deploys (supply x a b) = ⊥
Deploys (react b) = ⊥
Deploys (sink x a) = ⊥
Deploys (alloc_poly a b) = Unit {0}
Deploys (keep a b) = ⊥
Deploys none = ⊥

module _ (p : List ℕ) where
  -- the location of command j of o, and the command
  abbrev pub own : List ℕ → ℕ → ℕ → ℕ
  own m o j = command_loc p (reactor m o) j

  abbrev pub cmd : List ℕ → ℕ → ℕ → Cmd
  cmd m o j = cmd_of p (reactor m o) j

  -- an AllocPoly's slot is blank, or holds a deployment on the chain of its branch point e
  abbrev pub Chosen : List ℕ → ℕ → ℕ → ℕ → Type 0
  Chosen m o l e = (value_at p m o l ≡ blank)
      ⊎ ((mark p m o l ≡ deployment_mark) × OnChain p m (content p m o e) (content p m o l))

  -- what a note says of location l of d
  pub record Noted (m : List ℕ) (d l : ℕ) : Type 0 where
    pub deployed : Deployed p m d
    pub has_slot : HasSlot p (reactor m d) l
    pub kind : Valued (cmd_at p (reactor m d) l) → OfKind p (kind_of p (reactor m d) l) (value_at p m d l)

  -- in slot l of o, a Keep's that has run, a value waits that is of cell b's kind
  pub record Pends (m : List ℕ) (o l b : ℕ) : Type 0 where
    pub full : is_blank (value_at p m o l) ≡ false
    pub kind : OfKind p (kind_of p (reactor m o) b) (kept (value_at p m o l))

  -- command j of o is a Keep: of operand a, in cell b
  pub record KeepAt (m : List ℕ) (o j a b : ℕ) : Type 0 where
    pub deployed : Deployed p m o
    pub inside : j < commands_in p (reactor m o)
    pub is : cmd m o j ≡ keep a b

  -- D command j of o is a Cell: of kind x, with v in it at first
  pub record CellAt (m : List ℕ) (o j x v : ℕ) : Type 0 where
    pub deployed : Deployed p m o
    pub low : j < commands_d p (reactor m o)
    pub is : cmd m o j ≡ cell x v

  -- a Keep's slot is blank, or what it kept waits there
  abbrev pub Keepable : List ℕ → Type 0
  Keepable m = (o j a b : ℕ) → KeepAt m o j a b → (value_at p m o (own m o j) ≡ blank) ⊎ Pends m o (own m o j) b

  -- what command c of o, at location l, leaves
  abbrev pub Done : List ℕ → List Note → (ℕ → Type 0) → ℕ → ℕ → Cmd → Type 0
  Done m ns E o l (alloc_mono x) = MonoSlot p m o l x
  Done m ns E o l (make_poly x) = PointSlot p m o l x
  Done m ns E o l (cell x v) = CellSlot p m o l x
  Done m ns E o l (gives g) = location o l ∈ ns
  Done m ns E o l (supply x a b) = mark p m o b ≡ deployment_mark → location (content p m o b) x ∈ ns
  Done m ns E o l (react b) = mark p m o b ≡ deployment_mark → E (content p m o b)
  Done m ns E o l (sink x a) = location o (sink_loc p (reactor m o) x) ∈ ns
  Done m ns E o l (alloc_poly a b) = location o l ∈ ns
  Done m ns E o l (keep a b) = Pends m o l b
  Done m ns E o l none = Unit {0}

  -- a command that is behind, with the deployment d at its operand; Q says of its reactor, index
  -- and operand which command it is
  pub record Cause (m : List ℕ) (B : ℕ → ℕ → Type 0) (Q : ℕ → ℕ → ℕ → Type 0) (d : ℕ) : Type 0 where
    pub owner : ℕ
    pub command : ℕ
    pub operand : ℕ
    pub behind : B owner command
    pub marked : mark p m owner operand ≡ deployment_mark
    pub names : content p m owner operand ≡ d
    pub is : Q (reactor m owner) command operand

  abbrev pub Supplying : ℕ → ℕ → ℕ → ℕ → Type 0
  Supplying x r j b = (a : ℕ) × (cmd_of p r j ≡ supply x a b)

  abbrev pub Reacting : ℕ → ℕ → ℕ → Type 0
  Reacting r j b = cmd_of p r j ≡ react b

  abbrev pub Making : ℕ → ℕ → ℕ → Type 0
  Making r j b = (b ≡ command_loc p r j) × Deploys (cmd_of p r j)

  pub record MidTurn (m : List ℕ) (ns : List Note) (B : ℕ → ℕ → Type 0) (E : ℕ → Type 0) : Type 0 where
    -- the words
    pub good : Good p m
    pub main : Deployed p m main_at
    pub first : reactor m main_at ≡ main_of p
    pub last : next m main_at ≡ 0
    pub two : (d : ℕ) → Deployed p m d → (wired m d ≡ 0) ⊎ (wired m d ≡ 1)
    pub made : (o j : ℕ) → Deployed p m o → j < commands_d p (reactor m o) → MadeOrBlank p m o j
    pub slots : (o j : ℕ) → Deployed p m o → wired m o ≡ 1 → j < commands_d p (reactor m o)
        → SlotRight p m o (own m o j) (cmd m o j)
    pub fresh : (o j : ℕ) → Deployed p m o → wired m o ≡ 0 → j < commands_d p (reactor m o) → (B o j → ⊥)
        → value_at p m o (own m o j) ≡ blank
    pub polys : (o j a e : ℕ) → Deployed p m o → j < commands_in p (reactor m o) → cmd m o j ≡ alloc_poly a e
        → Chosen m o (own m o j) e
    pub one_owner : (o j o' j' d : ℕ) → Deployed p m d → Owner p m o j d → Owner p m o' j' d → (o ≡ o') × (j ≡ j')
    pub depth : (d : ℕ) → Deployed p m d → (k : ℕ) × Depth p m d k × (k ≤ most_depth)
    -- what is behind
    pub scope : (o j : ℕ) → B o j → Deployed p m o × (j < commands_in p (reactor m o))
    pub lower : (o j k : ℕ) → B o j → k < j → B o k
    pub done : (o j : ℕ) → B o j → Done m ns E o (own m o j) (cmd m o j)
    -- notes, openings, new deployments, and their causes
    pub noted : (d l : ℕ) → location d l ∈ ns → Noted m d l
    pub entered : (d : ℕ) → E d → Deployed p m d
    pub given : (d x : ℕ) → E d → x < source_count p (reactor m d) → location d x ∈ ns
    pub supplied : (d x : ℕ) → location d x ∈ ns → x < source_count p (reactor m d) → Cause m B (Supplying x) d
    pub opened : (d : ℕ) → E d → (d ≡ main_at) ⊎ Cause m B Reacting d
    pub sunk : (d x : ℕ) → location d (sink_loc p (reactor m d) x) ∈ ns
        → (j : ℕ) × (a : ℕ) × B d j × (cmd m d j ≡ sink x a)
    -- a noted cell's Keep is behind; the slot of one that is not is blank
    pub noted_cell : (d b x v : ℕ) → location d b ∈ ns → cmd_at p (reactor m d) b ≡ cell x v
        → (j : ℕ) × (a : ℕ) × B d j × (cmd m d j ≡ keep a b)
    pub idle : (o j a b : ℕ) → KeepAt m o j a b → (B o j → ⊥) → value_at p m o (own m o j) ≡ blank
    pub born : (d : ℕ) → Deployed p m d → wired m d ≡ 0 → (d ≡ main_at) ⊎ Cause m B Making d
