-- One turn of an accepted program on a sound image, for any readings and sink space: every state of its walk has the
-- invariant (`holds`); at each point the topmost has its depth (`topmost`), and the next command can be carried out
-- (`carried`) and reads well (`values`), a Fetch what its cell held as the turn began (`fetched`); deployments stay
-- (`onward_from`, `inner`); the walk ends, as the recursive run does (`walk_ends`); a step stops at an allocation that
-- is too deep or has no room, and only there (`stops`, `stops_deep`, `stops_full`); as main leaves, its sinks are noted
-- (`written`), what was kept waits (`keepable_end`) and the image is whole (`whole`); the used words grow by what is
-- allocated (`made`).
use Rattle.std.specs.Prelude.{ℕ, ◌+◌, ◌-◌, ◌≤◌, ◌<◌, ◌≡◌, refl, ◌⊎◌, ◌≢◌, List, [], Ok}
use Rattle.std.proofs.Common.{sym, ◌∙◌, ap, subst, inl, inr}
use Rattle.std.specs.Prelude.{◌∷◌, length}
use Rattle.std.proofs.Common.{arith}
use Rattle.value.specs.declared.Value.{Value}
use Rattle.program.specs.Bytes.{main_of, commands_in}
use Rattle.program.specs.Command.{Cmd, sequence_of, fetch, gives}
use Rattle.program.specs.Location.{sink_count, sink_loc, size_of, HasSlot}
use Rattle.program.proofs.Slots.{slot_d}
use Rattle.load.specs.Rules.{Rules}
use Rattle.answer.specs.declared.Refusal.{Refusal}
use Rattle.answer.specs.declared.Refusal.TheVariants.{NoRoom, TooDeep}
use Rattle.image.specs.Memory.{most_depth, main_at, used, turns, reactor, value_at}
use Rattle.image.specs.Sound.{Tiles, Deployed, Depth, SoundImage}
use Rattle.image.proofs.Whole.{Whole}
use Rattle.image.proofs.Memory.Tiles.{in_reactor}
use Rattle.image.proofs.Memory.Changes.{Same, same_value}
use Rattle.remus.specs.Run.{Ran, ran, stopped, main_run}
use Rattle.remus.specs.Turn.{asked_of}
use Rattle.remus.specs.Walk.{Note, location, Frame, State, Next, go, stop, over, step, Reach, stay, on, begun}
use Rattle.remus.specs.Walk.{Input}
use Rattle.remus.specs.Point.{◌∈◌, Within, Can, ReadsWell, Allocation, StepAllocates, WalkAllocates}
use Rattle.remus.specs.Point.{stay as none_made, on as and_made}
use Rattle.remus.specs.Claim.{During, Point, AllocatesAt, Leaves, CellIn, Begins}
use Rattle.remus.proofs.Walk.Facts.{r_late, Facts, facts}
use Rattle.remus.proofs.Walk.MidTurn.{cmd, Keepable}
use Rattle.remus.proofs.Walk.Pile.{frame, state, first as top_open, Behind, Inv, height_bound}
use Rattle.remus.proofs.Walk.Top.{Onward, onward_on, top_frame, lower_heights}
use Rattle.remus.proofs.Walk.Past.{cell_moved, CellOf, its_cell, Past, recalled, past_on}
use Rattle.remus.proofs.Walk.StepsKeep.{ready_kept}
use Rattle.remus.proofs.Walk.Outcome.{Stopping, deep, full}
use Rattle.remus.proofs.Walk.Walking.{Legal, Stops, Comes, same_point, one_allocation, step_outcome}
use Rattle.remus.proofs.Walk.Readings.{globals_legal}
use Rattle.remus.proofs.Walk.Begin as Begin
use Rattle.remus.proofs.Walk.End.{sinks_noted, keepable, whole_end}
use Rattle.remus.proofs.Walk.Points.{within, can_here, reads_here}
use Rattle.remus.proofs.Walk.Meets.{Meets, reached, run_meets}

-- p the program, w the words before the turn, t what it brings
module _ (p : List ℕ) (rules : Rules p) (w : List ℕ) (few : length w ≤ 16384) (sound : SoundImage p w) (t : Input) where
  pub known : Facts p
  known = facts p rules

  -- ---- the invariant

  pub begun_holds : Inv p w (begun p w)
  begun_holds = Begin.begun_holds p known w sound

  module _ (allowed : asked_of p w t.readings t.sink_space ≡ Ok tt) where
    legal : Legal p t.readings
    legal = globals_legal p w t.readings t.sink_space allowed

    pub step_comes : (s : State) → Inv p w s → Comes p w s (step p t.readings s)
    step_comes s v = step_outcome p known t.readings legal s v

    pub step_keeps : {s s' : State} → Inv p w s → step p t.readings s ≡ go s' → Inv p w s'
    step_keeps {s} {s'} v e = let c : Comes p w s (go s') = rw e at (step_comes s v) in c.inv

  pub holds : {s : State} → During p w t s → Inv p w s
  holds d = (reached p t.readings known (legal d.allowed) begun_holds d.comes).0

  pub same_length : (s : State) → During p w t s → length s.words ≡ length w
  same_length s d = (holds d).len

  pub same_clock : (s : State) → During p w t s → turns s.words ≡ turns w
  same_clock s d = (holds d).clock

  -- ---- what the states remember

  pub onward_from : {s : State} → During p w t s → Onward p w s.words
  unfolding begun
  onward_from d = (reached p t.readings known (legal d.allowed) begun_holds d.comes).1

  pub past : {s : State} → During p w t s → Past p w t s
  past d = by d.comes
    where
      by : {x : State} → Reach p t.readings (begun p w) x → Past p w t x
      by stay = Begin.begun_past p known w sound t
      by (on {t = y} {u = z} r e) =
          let g : During p w t y = record { allowed = d.allowed; comes = r } in
          let c : Comes p w y (go z) = rw e at (step_comes d.allowed y (holds g)) in
          past_on p w t known (Begin.two p known w sound) y z g (holds g) (onward_from g) c.onward c.passed (by r)

  -- ---- points

  -- the invariant on the words before the next command, with the pile at height h
  pub record At (m : List ℕ) (o : ℕ) (c : Cmd) (ns : List Note) (h : ℕ) : Type 0 where
    pub index : ℕ
    pub lower : List Frame
    pub inv : Inv p w (state m (frame o index ∷ lower) ns)
    pub less : index < commands_in p (reactor m o)
    pub is : cmd p m o index ≡ c
    pub height : length lower + 1 ≡ h

  -- the invariant with the topmost in sight, which is not at its end
  top_inv : {s : State} {m : List ℕ} {o : ℕ} {c : Cmd} (q : Point p w t s m o c)
      → Inv p w (state s.words (frame o q.before.index ∷ q.before.lower) s.notes)
  top_inv {s} q =
      subst (λ (fs : List Frame). Inv p w (state s.words fs s.notes)) q.before.top (holds q.during)

  top_less : {s : State} {m : List ℕ} {o : ℕ} {c : Cmd} (q : Point p w t s m o c)
      → q.before.index < commands_in p (reactor s.words o)
  top_less q = omega (arith, (top_frame p (top_inv q)).bound, q.before.goes_on)

  pub at : (s : State) (m : List ℕ) (o : ℕ) (c : Cmd) → Point p w t s m o c → At m o c s.notes (length s.pile)
  at s m o c q =
      let b = q.before in
      let less = top_less q in
      let r = ready_kept p known (top_inv q) less in
      subst (λ (x : List ℕ). At x o c s.notes (length s.pile)) b.wiring
      (record {
        index = b.index;
        lower = b.lower;
        inv = r.inv;
        less = rw r.same less;
        is = rw r.same b.is;
        height = rw b.top (omega arith);
      })

  pub tiled : (s : State) (m : List ℕ) (o : ℕ) (c : Cmd) → Point p w t s m o c → Tiles p m (used m) main_at
  tiled s m o c q = (at s m o c q).inv.mid.good.tiles

  pub topmost : (s : State) (m : List ℕ) (o : ℕ) (c : Cmd) → Point p w t s m o c
      → Within p m o × Depth p m o (length s.pile) × (length s.pile ≤ most_depth)
  topmost s m o c q =
      let a = at s m o c q in (
        within p known a.inv a.less (top_frame p a.inv).deployed,
        subst (Depth p m o) a.height (lower_heights p a.inv.piled.heights).0,
        height_bound p (holds q.during),
      )

  pub carried : (s : State) (m : List ℕ) (o : ℕ) (c : Cmd) → Point p w t s m o c → Can p m s.notes o c
  carried s m o c q = let a = at s m o c q in can_here p known a.inv a.less c a.is

  pub values : (s : State) (m : List ℕ) (o : ℕ) (c : Cmd) → Point p w t s m o c →
      ReadsWell p m s.notes o t.readings c
  values s m o c q =
      let a = at s m o c q in reads_here p known a.inv a.less t.readings (legal q.during.allowed) c a.is

  -- a Fetch reads what its cell held as the turn began
  pub fetched : (s : State) (m : List ℕ) (o b : ℕ) (v : Value) → Point p w t s m o (gives (fetch b)) → CellIn p m o b v
      → Begins p w o b v (value_at p m o b)
  unfolding sequence_of
  fetched s m o b v q c =
      let k = q.before in
      let n = top_inv q in
      let r = ready_kept p known n (top_less q) in
      let i = (top_frame p n).deployed in
      let z = subst (λ (x : List ℕ). reactor x o ≡ reactor s.words o) k.wiring r.same in
      let f : CellOf p s.words o b v = its_cell known n.mid.good.tiles (cell_moved c i (sym z)) in
      let st = (known.static (reactor s.words o) (in_reactor p n.mid.good.tiles i)).0 in
      let late = r_late st k.index k.is refl in
      let behind = subst (λ (fs : List Frame). Behind p s.words fs s.notes o f.index) (sym k.top)
      (inl (k.index, top_open refl refl, omega (arith, late, f.is.low))) in
      let has_slot = subst (HasSlot p (reactor s.words o)) (sym f.place) (slot_d p _ f.index f.is.low) in
      let same = subst (λ (x : List ℕ). Same p s.words x o b) k.wiring (r.slots o b i has_slot) in
      subst (Begins p w o b v) (sym (same_value p o b same)) (recalled p w t (past q.during) f (inl behind))

  -- deployments of the turn's beginning are there at each point, and so is the topmost
  pub inner : (s : State) (m : List ℕ) (o : ℕ) (c : Cmd) → Point p w t s m o c → Onward p w m × Deployed p m o
  inner s m o c q =
      let n = top_inv q in
      let r = ready_kept p known n (top_less q) in
      subst (λ (x : List ℕ). Onward p w x × Deployed p x o) q.before.wiring
      (onward_on (onward_from q.during) r.on_from, r.on_from.kept o (top_frame p n).deployed)

  -- ---- main leaves

  pub left : {s : State} → Leaves p w t s → Inv p w (state s.words [] s.notes)
  left {s} l = subst (λ (fs : List Frame). Inv p w (state s.words fs s.notes)) l.empty (holds l.during)

  pub written : (s : State) → Leaves p w t s → (x : ℕ) → x < sink_count p (main_of p) →
      location main_at (sink_loc p (main_of p) x) ∈ s.notes
  written s l = sinks_noted p known (left l)

  pub whole : (s : State) → Leaves p w t s → Whole p s.words
  whole s l = whole_end p known (left l)

  pub keepable_end : (s : State) → Leaves p w t s → Keepable p s.words
  keepable_end s l = keepable p known (left l)

  -- ---- the walk's end, and the run's

  pub walk_ends : asked_of p w t.readings t.sink_space ≡ Ok tt →
      ((s : State) × Leaves p w t s × (main_run p t.readings w ≡ ran s.words)) ⊎ ((s : State) × (v : Refusal)
      × (m : List ℕ) × During p w t s × (step p t.readings s ≡ stop v) × (main_run p t.readings w ≡ stopped v m))
  unfolding main_run begun
  walk_ends f = by (main_run p t.readings w) refl
      (run_meets p t.readings known (legal f) most_depth 1 w main_at [] [] begun_holds refl (omega arith))
    where
      by : (r : Ran) → main_run p t.readings w ≡ r → Meets p t.readings (begun p w) [] r →
          ((s : State) × Leaves p w t s × (main_run p t.readings w ≡ ran s.words))
          ⊎ ((s : State) × (v : Refusal) × (m : List ℕ) × During p w t s × (step p t.readings s ≡ stop v)
          × (main_run p t.readings w ≡ stopped v m))
      by (ran m) e k =
          inl (state m [] k.0, record { during = record { allowed = f; comes = k.1 }; empty = refl }, e)
      by (stopped v m) e k = inr (k.0, v, m, record { allowed = f; comes = k.1 }, k.2, e)

  -- ---- stops

  -- the turn ends with v at an allocation of q: too deep, or without room
  abbrev pub Refused : Refusal → ℕ → ℕ → List ℕ → Type 0
  Refused v q h m = ((v ≡ TooDeep q) × (h + 1 ≡ 65))
      ⊎ ((v ≡ NoRoom q) × (h + 1 ≢ 65) × (length w - used m < size_of p q))

  ready_length : (s : State) (m : List ℕ) (o : ℕ) (c : Cmd) → Point p w t s m o c → length m ≡ length w
  ready_length s m o c q = (at s m o c q).inv.len

  pub stops : (s : State) (v : Refusal) → During p w t s → step p t.readings s ≡ stop v →
      (q : ℕ) × (h : ℕ) × (m : List ℕ) × (a : AllocatesAt p w t q h m) × (a.state ≡ s) × Refused v q h m
  stops s v d e = by x x.why refl
    where
      x : Stops p s v
      x = let c : Comes p w s (stop v) = rw e at (step_comes d.allowed s (holds d)) in c

      allocates : (k : Stops p s v) (q : ℕ) → Allocation p k.words k.owner k.command q →
          AllocatesAt p w t q (length s.pile) k.words
      allocates k q a =
          record {
            state = s;
            owner = k.owner;
            command = k.command;
            point = record { during = d; before = k.before };
            is = a;
            height = refl;
          }

      by : (k : Stops p s v) {y : Refusal} → Stopping p k.words (length s.pile) k.owner k.command y →
          y ≡ v → (q : ℕ) × (h : ℕ) × (m : List ℕ) × (a : AllocatesAt p w t q h m) × (a.state ≡ s) × Refused v q h m
      by k (deep q a l) z = (q, length s.pile, k.words, allocates k q a, refl, inl (sym z, l))
      by k (full q a n l) z =
          let g = ready_length s k.words k.owner k.command (record { during = d; before = k.before }) in
          (q, length s.pile, k.words, allocates k q a, refl, inr (sym z, n, rw (← g) l))

  -- what an allocation that is too deep, or without room, makes of the step
  stops_as : (q h : ℕ) (m : List ℕ) (a : AllocatesAt p w t q h m) (v : Refusal) → Refused v q h m →
      step p t.readings a.state ≡ stop v
  stops_as q h m a v r = by (step p t.readings a.state) refl
      (step_comes a.point.during.allowed a.state (holds a.point.during))
    where
      g : length m ≡ length w
      g = ready_length a.state m a.owner a.command a.point

      roomy : (length a.state.pile + 1 ≢ 65) × (size_of p q ≤ length m - used m) → Refused v q h m → ⊥
      roomy k (inl z) = k.0 (let y = a.height in omega (arith, z.1))
      roomy k (inr z) = let y = g in omega (arith, k.1, z.2)

      same_one : {y : Refusal} (k : Stops p a.state y) (q' : ℕ) →
          Allocation p k.words k.owner k.command q' → q' ≡ q
      same_one k q' b =
          let e = same_point k.before a.point.before in
          let e₀ = e.0 in
          let e₁ = e.1 in
          let e₂ = e.2 in
          one_allocation (rw (e₀, e₁, e₂) at b) a.is

      same : {y : Refusal} (k : Stops p a.state y) {z : Refusal} →
          Stopping p k.words (length a.state.pile) k.owner k.command z → Refused v q h m → z ≡ v
      same k (deep q' b l) (inl z) = ap TooDeep (same_one k q' b) ∙ sym z.0
      same k (deep q' b l) (inr z) = absurd (z.1 (let y = a.height in omega arith))
      same k (full q' b n l) (inl z) = absurd (n (let y = a.height in omega (arith, z.1)))
      same k (full q' b n l) (inr z) = ap NoRoom (same_one k q' b) ∙ sym z.0

      by : (n : Next) → step p t.readings a.state ≡ n → Comes p w a.state n →
          step p t.readings a.state ≡ stop v
      by (go s) e c = absurd (roomy (c.roomy m a.owner q a.command a.point.before a.is) r)
      by (stop y) e c = e ∙ ap stop (same c c.why r)
      by (over s) e c = let f = a.point.before.top in let z : ◌≡◌ {A = ℕ} 0 1 = cc in absurd (omega arith)

  pub stops_deep : (q h : ℕ) (m : List ℕ) (a : AllocatesAt p w t q h m) → h + 1 ≡ 65 →
      step p t.readings a.state ≡ stop (TooDeep q)
  stops_deep q h m a l = stops_as q h m a (TooDeep q) (inl (refl, l))

  pub stops_full : (q h : ℕ) (m : List ℕ) (a : AllocatesAt p w t q h m) → h + 1 ≢ 65 → length w - used m < size_of p q →
      step p t.readings a.state ≡ stop (NoRoom q)
  stops_full q h m a n l = stops_as q h m a (NoRoom q) (inr (refl, n, l))

  -- ---- what is allocated

  pub made : (s : State) → During p w t s →
      (k : ℕ) × WalkAllocates p t.readings (begun p w) s k × (used s.words ≡ used w + k)
  unfolding begun
  made s d = by d.comes
    where
      by : {x : State} → Reach p t.readings (begun p w) x →
          (k : ℕ) × WalkAllocates p t.readings (begun p w) x k × (used x.words ≡ used w + k)
      by stay = (0, none_made, omega arith)
      by (on {t = y} {u = z} r e) = more (by r) c.made.0 c.made.1 c.made.2
        where
          c : Comes p w y (go z)
          c = rw e at (step_comes d.allowed y (holds (record { allowed = d.allowed; comes = r })))

          more : (k : ℕ) × WalkAllocates p t.readings (begun p w) y k × (used y.words ≡ used w + k) →
              (j : ℕ) → StepAllocates p y j → used z.words ≡ used y.words + j →
              (k : ℕ) × WalkAllocates p t.readings (begun p w) z k × (used z.words ≡ used w + k)
          more q j n l = let f = q.2 in (q.0 + j, and_made q.1 e n, omega arith)
