-- A point of the walk is the moment before a step: what the next command reads (6.29), whether it can be carried out
-- (6.31), and what it allocates (6.9).
use Rattle.std.specs.Prelude.{ℕ, ◌+◌, ◌≤◌, ◌<◌, ◌≡◌, ◌≢◌, true, false, List, ◌∷◌}
use Rattle.value.specs.Value.{blank, is_blank, deployment_mark}
use Rattle.value.specs.Primitive.{operands, Offered}
use Rattle.program.specs.Bytes.{reactors, globals, global_kind, shape_of, commands_in}
use Rattle.program.specs.Command.{Cmd, cmd_of, alloc_mono, make_poly, constant, global, supply, react, consume, sink}
use Rattle.program.specs.Command.{alloc_poly, primitive, cell, fetch, keep, none, gives}
use Rattle.program.specs.Location.{source_count, sink_count, sink_loc, size_of, HasSlot, cmd_at, shape_there}
use Rattle.program.specs.Kind.{kind_of, OfKind}
use Rattle.image.specs.Memory.{used, reactor, mark, content, value_at, size_at}
use Rattle.image.specs.Sound.{Deployed, OnChain, PointSlot, CellSlot}
use Rattle.remus.specs.Exec.{global_value, there, ready}
use Rattle.remus.specs.Walk.{Note, location, run, Frame, State, go, step}

infix 40 ◌∈◌
pub data ◌∈◌ (n : Note) : List Note → Type 0 where
  first : {ns : List Note} → n ∈ (n ∷ ns)
  later : {x : Note} {ns : List Note} → n ∈ ns → n ∈ (x ∷ ns)

-- In state s the topmost deployment o is not at its end, and c is its next command. In the words m it is wired, if D
-- has ended (6.4).
pub record Before (p : List ℕ) (s : State) (m : List ℕ) (o : ℕ) (c : Cmd) : Type 0 where
  pub index : ℕ
  pub lower : List Frame
  pub top : s.pile ≡ record { at = o; next = index } ∷ lower
  pub goes_on : index ≢ commands_in p (reactor s.words o)
  pub is : cmd_of p (reactor s.words o) index ≡ c
  pub wiring : ready p s.words o index ≡ m

-- 6.32 d is a deployment of one of the program's reactors, all of it within the words in use.
pub record Within (p m : List ℕ) (d : ℕ) : Type 0 where
  pub deployed : Deployed p m d
  pub legal : reactor m d < reactors p
  pub inside : d + size_at p m d ≤ used m

-- At a point: m the words, ns the notes, o the topmost deployment.
module _ (p m : List ℕ) (ns : List Note) (o : ℕ) where
  -- 6.31 What is at a deployment operand b: blank, at an AllocPoly that has been carried out; or a deployment, of the
  -- AllocMono's reactor or of the branch point's shape.
  pub data Operand (b : ℕ) : Type 0 where
    left_blank : (a c : ℕ) → cmd_at p (reactor m o) b ≡ alloc_poly a c → location o b ∈ ns
        → value_at p m o b ≡ blank → Operand b
    of_mono : (x : ℕ) → cmd_at p (reactor m o) b ≡ alloc_mono x → mark p m o b ≡ deployment_mark
        → Within p m (content p m o b) → reactor m (content p m o b) ≡ x → Operand b
    of_point : (a c : ℕ) → cmd_at p (reactor m o) b ≡ alloc_poly a c
        → mark p m o b ≡ deployment_mark → Within p m (content p m o b)
        → shape_of p (reactor m (content p m o b)) ≡ shape_there p (reactor m o) c → Operand b

  -- P of the deployment at b, if there is one
  abbrev pub Where : ℕ → (ℕ → Type 0) → Type 0
  Where b P = there p m o b ≡ true → P (content p m o b)

  -- 3.19 A cell, whose slot holds a value of its kind.
  abbrev pub Cell : ℕ → Type 0
  Cell b = (x : ℕ) × (v : ℕ) × (cmd_at p (reactor m o) b ≡ cell x v) × CellSlot p m o b x

  -- 6.31 What lets a command be carried out. A branch point has a chain as 3.18 asks. A deployment operand is as
  -- `Operand` says, and where there is one, it has the port; Supply comes to a source without a note, React when all
  -- sources have theirs and it has not run, Consume when it has. An own sink has no note yet. A primitive is one that
  -- programs may have. Fetch and Keep name a `Cell`, which at Keep has no note yet.
  abbrev pub Can : Cmd → Type 0
  Can (alloc_mono x) = Unit {0}
  Can (make_poly x) = Unit {0}
  Can (cell x v) = Unit {0}
  Can (gives (constant x v)) = Unit {0}
  Can (gives (global x)) = Unit {0}
  Can (gives (consume x b)) = Operand b × Where b (λ d. (x < sink_count p (reactor m d)) × (run d ∈ ns))
  Can (gives (primitive x a b c)) = Offered x
  Can (gives (fetch b)) = Cell b
  Can (supply x a b) = Operand b × Where b (λ d. (x < source_count p (reactor m d)) × (location d x ∈ ns → ⊥))
  Can (react b) = Operand b
      × Where b (λ d. ((x : ℕ) → x < source_count p (reactor m d) → location d x ∈ ns) × (run d ∈ ns → ⊥))
  Can (sink x a) = location o (sink_loc p (reactor m o) x) ∈ ns → ⊥
  Can (alloc_poly a b) = PointSlot p m o b (shape_there p (reactor m o) b)
  Can (keep a b) = Cell b × (location o b ∈ ns → ⊥)
  Can none = ⊥

  -- 6.29 What a command reads, but for a global and a cell: location l of d.
  pub data Reads : Cmd → ℕ → ℕ → Type 0 where
    supplied : {x a b : ℕ} → Reads (supply x a b) o a
    sunk : {x a : ℕ} → Reads (sink x a) o a
    operator : {a b : ℕ} → Reads (alloc_poly a b) o a
    taken : {x b : ℕ} → there p m o b ≡ true
        → Reads (gives (consume x b)) (content p m o b) (sink_loc p (reactor m (content p m o b)) x)
    set_aside : {a b : ℕ} → Reads (keep a b) o a
    operand_1 : {x a b c : ℕ} → 1 ≤ operands x → Reads (gives (primitive x a b c)) o a
    operand_2 : {x a b c : ℕ} → 2 ≤ operands x → Reads (gives (primitive x a b c)) o b
    operand_3 : {x a b c : ℕ} → 3 ≤ operands x → Reads (gives (primitive x a b c)) o c

  -- 6.30 What is read has a note, or is a reading or the time. Each is of its kind, which kind_of says of a location and
  -- the program's bytes say of a global.
  pub record ReadsWell (rd : List ℕ) (c : Cmd) : Type 0 where
    pub noted : (d l : ℕ) → Reads c d l → location d l ∈ ns
    pub kinds : (d l : ℕ) → Reads c d l → OfKind p (kind_of p (reactor m d) l) (value_at p m d l)
    pub outside : (x : ℕ) → c ≡ gives (global x) → (x ≤ globals p) × OfKind p (global_kind p x) (global_value rd m x)
    -- a Fetch reads its cell; what that holds is said in `TurnClaim` and `Claim`
    pub fetched : (b : ℕ) → c ≡ gives (fetch b) → OfKind p (kind_of p (reactor m o) b) (value_at p m o b)
    -- what is read lies in a deployment within the used words, at a location that has words
    pub inside : (d l : ℕ) → Reads c d l → Within p m d × HasSlot p (reactor m d) l

-- 6.9 Which commands are allocations; q is the reactor to be deployed.
pub data Allocation (p m : List ℕ) (o : ℕ) : Cmd → ℕ → Type 0 where
  mono : {x : ℕ} → Allocation p m o (alloc_mono x) x
  poly : {a b : ℕ} → is_blank (value_at p m o a) ≡ false
      → ((d : ℕ) → OnChain p m (content p m o b) d → reactor m d ≢ content p m o a)
      → Allocation p m o (alloc_poly a b) (content p m o a)

-- the words that the step from s allocates
pub data StepAllocates (p : List ℕ) (s : State) : ℕ → Type 0 where
  a_deployment : {m : List ℕ} {o q : ℕ} {c : Cmd} → Before p s m o c → Allocation p m o c q
      → StepAllocates p s (size_of p q)
  nothing : ((m : List ℕ) (o q : ℕ) (c : Cmd) → Before p s m o c → Allocation p m o c q → ⊥) → StepAllocates p s 0

-- the words allocated on the walk from s
pub data WalkAllocates (p rd : List ℕ) (s : State) : State → ℕ → Type 0 where
  stay : WalkAllocates p rd s s 0
  on : {t u : State} {k j : ℕ} → WalkAllocates p rd s t k → step p rd t ≡ go u → StepAllocates p t j
      → WalkAllocates p rd s u (k + j)
