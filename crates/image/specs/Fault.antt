-- 5.19 Where an image that is not sound is at fault. Faults are told apart in this order: the frame, which is words 0
-- and 1, the tiling with main first, and the words from u on; each deployment's own words; how often each is named;
-- depths. The place of a frame and of a depth is 0, of any other the lowest deployment that has the fault.
use Rattle.std.specs.Prelude.{ℕ, ◌+◌, ◌≤◌, ◌<◌, ◌≡◌, ◌↔◌, ◌≢◌, List, length, Err}
use Rattle.value.specs.Value.{blank}
use Rattle.program.specs.Bytes.{reactors, most_reactors, commands_d, main_of}
use Rattle.program.specs.Command.{cmd_of, alloc_mono, make_poly, cell}
use Rattle.program.specs.Location.{command_loc, size_of, HasSlot}
use Rattle.image.specs.Memory.{most_words, most_turns, most_depth, main_at, word, used, turns, reactor, wired, next}
use Rattle.image.specs.Memory.{value_at}
use Rattle.image.specs.Sound.{Tiles, Deployed, InD, MonoSlot, PointSlot, CellSlot, NamedOnce, Depth}
use Rattle.image.specs.Passes.{sound_of}

module _ (p m : List ℕ) where
  pub record Framed : Type 0 where
    pub fits : used m ≤ length m
    pub few_turns : turns m ≤ most_turns
    pub tiles : Tiles p m (used m) main_at
    pub main : Deployed p m main_at
    pub first : reactor m main_at ≡ main_of p
    pub rest : (i : ℕ) → used m ≤ i → word m i ≡ 0

  -- the D slots of d: a child or a chain that is wrong is the fault of the deployment whose slot names it, a cell's
  -- content of the one that has it
  pub record SlotsRight (d : ℕ) : Type 0 where
    pub monos : (j x : ℕ) → j < commands_d p (reactor m d) → cmd_of p (reactor m d) j ≡ alloc_mono x →
        MonoSlot p m d (command_loc p (reactor m d) j) x
    pub points : (j x : ℕ) → j < commands_d p (reactor m d) → cmd_of p (reactor m d) j ≡ make_poly x →
        PointSlot p m d (command_loc p (reactor m d) j) x
    pub cells : (j x v : ℕ) → j < commands_d p (reactor m d) → cmd_of p (reactor m d) j ≡ cell x v →
        CellSlot p m d (command_loc p (reactor m d) j) x

  -- d's own words, once a turn is completed; of next, main's alone, since another's is its owner's chain
  pub record Own (d : ℕ) : Type 0 where
    pub is_wired : wired m d ≡ 1
    pub empty : (l : ℕ) → HasSlot p (reactor m d) l → (InD p m (reactor m d) l → ⊥) → value_at p m d l ≡ blank
    pub slots : SlotsRight d
    pub last : d ≡ main_at → next m d ≡ 0

  -- main's own words, before any turn is completed
  pub record FreshMain : Type 0 where
    pub unwired : wired m main_at ≡ 0
    pub empty : (l : ℕ) → HasSlot p (main_of p) l → value_at p m main_at l ≡ blank
    pub last : next m main_at ≡ 0

  -- nothing has to name main
  abbrev pub Named : ℕ → Type 0
  Named d = d ≢ main_at → NamedOnce p m d

  abbrev pub Shallow : ℕ → Type 0
  Shallow d = (k : ℕ) × Depth p m d k × (k ≤ most_depth)

  -- P holds of every deployment
  abbrev pub All : (ℕ → Type 0) → Type 0
  All P = (d : ℕ) → Deployed p m d → P d

  -- d is the lowest deployment of which P does not hold
  pub record Lowest (P : ℕ → Type 0) (d : ℕ) : Type 0 where
    pub deployed : Deployed p m d
    pub wrong : P d → ⊥
    pub lower : (e : ℕ) → Deployed p m e → e < d → P e

  -- with turns 0: main's own words, then a second deployment
  pub data FreshFault : ℕ → Type 0 where
    main : (FreshMain → ⊥) → FreshFault main_at
    second : FreshMain → Deployed p m (main_at + size_of p (main_of p)) → FreshFault (main_at + size_of p (main_of p))

  -- with turns above 0: a deployment's own words, then one not named exactly once, then a depth
  pub data GrownFault : ℕ → Type 0 where
    own : {d : ℕ} → Lowest Own d → GrownFault d
    named : {d : ℕ} → All Own → Lowest Named d → GrownFault d
    depth : All Own → All Named → (All Shallow → ⊥) → GrownFault 0

  pub data FaultAt : ℕ → Type 0 where
    frame : (Framed → ⊥) → FaultAt 0
    fresh : {q : ℕ} → Framed → turns m ≡ 0 → FreshFault q → FaultAt q
    grown : {q : ℕ} → Framed → turns m ≢ 0 → GrownFault q → FaultAt q

-- Exact place, for a program of no more reactors than the check accepts. Proved in proofs/Exact/Place.antt.
abbrev pub ExactPlace : List ℕ → Type 0
ExactPlace p =
    reactors p ≤ most_reactors → (m : List ℕ) → length m ≤ most_words →
    (q : ℕ) → (sound_of p m ≡ Err q) ↔ FaultAt p m q
