-- What has to be known of the walk inside one turn, p the program, w the words before it, t what it brings: the
-- hypotheses from which the turn's claim follows.
use Rattle.std.specs.Prelude.{ℕ, ◌+◌, ◌-◌, ◌≤◌, ◌<◌, ◌≡◌, ◌≢◌, List, length, Ok}
use Rattle.value.specs.declared.Value.{Value}
use Rattle.program.specs.Bytes.{main_of}
use Rattle.program.specs.Command.{Cmd, fetch, gives}
use Rattle.program.specs.Location.{sink_count, sink_loc, size_of}
use Rattle.answer.specs.declared.Refusal.{Refusal}
use Rattle.answer.specs.declared.Refusal.TheVariants.{NoRoom, TooDeep}
use Rattle.image.specs.Memory.{most_depth, main_at, used, turns, value_at}
use Rattle.image.specs.Sound.{Tiles, Deployed, Depth}
use Rattle.remus.specs.Run.{ran, stopped, main_run}
use Rattle.remus.specs.Turn.{asked_of}
use Rattle.remus.specs.Walk.{State, Input, location, begun, stop, step}
use Rattle.remus.specs.Point.{◌∈◌, Within, Can, ReadsWell, Allocation, WalkAllocates}
use Rattle.remus.specs.Claim.{During, Point, Leaves, CellIn, Begins}
use Rattle.remus.proofs.Walk.Top.{Onward}
use Rattle.remus.proofs.History.{Finish}

module _ (p w : List ℕ) (t : Input) where
  -- how the walk ends, and the recursive run with it
  pub data Ending : Type 0 where
    leaves : (s : State) → Leaves p w t s → main_run p t.readings w ≡ ran s.words → Ending
    stops : (s : State) (v : Refusal) (m : List ℕ) → During p w t s → step p t.readings s ≡ stop v
        → main_run p t.readings w ≡ stopped v m → Ending

  -- why the walk stops in state s: at an allocation, with 15, or else with 14
  pub data Stop (s : State) : Refusal → Type 0 where
    deep : {q : ℕ} (m : List ℕ) (o : ℕ) (c : Cmd) → Point p w t s m o c → Allocation p m o c q
        → length s.pile + 1 ≡ 65 → Stop s (TooDeep q)
    full : {q : ℕ} (m : List ℕ) (o : ℕ) (c : Cmd) → Point p w t s m o c → Allocation p m o c q
        → length s.pile + 1 ≢ 65 → length w - used m < size_of p q → Stop s (NoRoom q)

  pub record Inside : Type 0 where
    pub tiled : (s : State) (m : List ℕ) (o : ℕ) (c : Cmd) → Point p w t s m o c → Tiles p m (used m) main_at
    pub topmost : (s : State) (m : List ℕ) (o : ℕ) (c : Cmd) → Point p w t s m o c
        → Within p m o × Depth p m o (length s.pile) × (length s.pile ≤ most_depth)
    pub carried : (s : State) (m : List ℕ) (o : ℕ) (c : Cmd) → Point p w t s m o c → Can p m s.notes o c
    pub values : (s : State) (m : List ℕ) (o : ℕ) (c : Cmd) → Point p w t s m o c
        → ReadsWell p m s.notes o t.readings c
    pub fetched : (s : State) (m : List ℕ) (o b : ℕ) (v : Value) → Point p w t s m o (gives (fetch b))
        → CellIn p m o b v → Begins p w o b v (value_at p m o b)
    -- deployments stay
    pub inner : (s : State) (m : List ℕ) (o : ℕ) (c : Cmd) → Point p w t s m o c → Onward p w m × Deployed p m o
    pub onward : (s : State) → During p w t s → Onward p w s.words
    -- every sink of main is noted as it leaves
    pub written : (s : State) → Leaves p w t s → (x : ℕ) → x < sink_count p (main_of p)
        → location main_at (sink_loc p (main_of p) x) ∈ s.notes
    pub walk_ends : asked_of p w t.readings t.sink_space ≡ Ok tt → Ending
    -- it stops for these reasons, and where there is one
    pub stopping : (s : State) (v : Refusal) → During p w t s → step p t.readings s ≡ stop v → Stop s v
    pub stopped_by : (s : State) (v : Refusal) → Stop s v → step p t.readings s ≡ stop v
    -- what it leaves if main does
    pub finish : (s : State) → Leaves p w t s → Finish p w t s
    -- u grows by what is allocated; length and clock stay
    pub made : (s : State) → During p w t s
        → (k : ℕ) × WalkAllocates p t.readings (begun p w) s k × (used s.words ≡ used w + k)
    pub same_length : (s : State) → During p w t s → length s.words ≡ length w
    pub same_turns : (s : State) → During p w t s → turns s.words ≡ turns w
