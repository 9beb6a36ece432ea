-- A step from a state with the invariant: what every command comes to (`every_command`), and so every step
-- (`step_outcome`), with what it leaves of slots and wirings (`Passed`).
use Rattle.std.specs.Prelude.{ℕ, suc, ◌+◌, ◌-◌, ◌≤◌, ◌<◌, ◌≡◌, refl, ◌⊎◌, ◌≢◌, Bool, true}
use Rattle.std.proofs.Common.{sym, ◌∙◌, ap, inl, inr}
use Rattle.std.specs.Prelude.{false, List, [], ◌∷◌, ◌++◌, length}
use Rattle.std.proofs.Common.{arith}
use Rattle.value.specs.Test.{◌=?◌}
use Rattle.value.proofs.Tests.{eq?, eq×?, same?}
use Rattle.program.specs.Bytes.{globals, global_kind, commands_d, commands_in}
use Rattle.program.specs.Command.{Cmd, cmd_of, takes_words, alloc_mono, make_poly, supply, react, sink, alloc_poly, cell}
use Rattle.program.specs.Command.{keep, none, gives}
use Rattle.program.specs.Location.{size_of}
use Rattle.program.proofs.Slots.{slot_command, takes_cell}
use Rattle.program.specs.Kind.{OfKind}
use Rattle.answer.specs.declared.Refusal.{Refusal}
use Rattle.image.specs.Memory.{used, reactor, wired, content}
use Rattle.image.specs.Sound.{Deployed}
use Rattle.image.proofs.Memory.Changes.{Same, same_self, same_on, This-slot}
use Rattle.remus.specs.Exec.{Eff, move, call, fail, global_value, there, exec, eff, opening, ready}
use Rattle.remus.specs.Walk.{Note, run, Frame, State, Next, go, stop, over, supplied_note, notes_of, onto, step_at}
use Rattle.remus.specs.Walk.{step_on, step}
use Rattle.remus.specs.Point.{◌∈◌, first, later, Before, Allocation, mono, poly, StepAllocates, a_deployment}
use Rattle.remus.specs.Point.{nothing}
use Rattle.remus.proofs.Walk.Facts.{Facts}
use Rattle.remus.proofs.Walk.MidTurn.{own, cmd, CellAt}
use Rattle.remus.proofs.Walk.Pile.{frame, state, Open, first as top, later as under, no_note, Behind, Inv}
use Rattle.remus.proofs.Walk.Top.{Onward, onward_self, onward_on, top_frame, not_behind, leave_back}
use Rattle.remus.proofs.Walk.Writes.{Writes, Gave}
use Rattle.remus.proofs.Walk.Locations.{declared_in, not_cell}
use Rattle.remus.proofs.Walk.Stores.{run_past}
use Rattle.remus.proofs.Walk.Operands.{some_command}
use Rattle.remus.proofs.Walk.StepsKeep.{opening_raw, opening-wired, NowWired, Ready, ready_kept}
use Rattle.remus.proofs.Walk.StepsKeep.{leave_kept}
use Rattle.remus.proofs.Walk.Outcome.{Growth, no_words, words, Stopping, Carried, Outcome, give_outcome}
use Rattle.remus.proofs.Walk.Outcome.{supply_outcome, react_outcome, sink_outcome}
use Rattle.remus.proofs.Walk.CommandsD.{point_outcome, cell_outcome, mono_outcome}
use Rattle.remus.proofs.Walk.Cells.{keep_outcome}
use Rattle.remus.proofs.Walk.Choosing.{poly_outcome}

-- every global is of its declared kind, whatever the words
abbrev pub Legal : List ℕ → List ℕ → Type 0
Legal p rd = (m : List ℕ) (x : ℕ) → x ≤ globals p → OfKind p (global_kind p x) (global_value rd m x)

module _ (p : List ℕ) (u : Facts p) (rd : List ℕ) (legal : Legal p rd) where
  module _ {w m : List ℕ} {ns : List Note} {o i : ℕ} {fs : List Frame} (v : Inv p w (state m (frame o i ∷ fs) ns))
      (h : i < commands_in p (reactor m o)) (then : commands_d p (reactor m o) ≤ i → wired m o ≡ 1) where
    every_command : (c : Cmd) → cmd p m o i ≡ c
        → Outcome p w m o i fs c (notes_of p m o i c ++ ns) (exec p rd (suc (length fs)) m o i c)
    unfolding exec notes_of
    every_command (alloc_mono x) e = mono_outcome p u v h then x rd e _ _ refl refl
    every_command (make_poly x) e = point_outcome p u v h then x rd e
    every_command (cell x a) e = cell_outcome p u v h then x a rd e
    every_command (gives y) e = give_outcome p u rd legal v h then y e
    every_command (supply x a b) e = supply_outcome p u rd legal v h then x a b _ refl e
    every_command (react b) e = react_outcome p u rd legal v h then b _ refl e
    every_command (sink x a) e = sink_outcome p u rd legal v h then x a e
    every_command (alloc_poly a b) e = poly_outcome p u v h then a b e rd _ refl
    every_command (keep a b) e = keep_outcome p u v h then a b e rd
    every_command none e = absurd (some_command p u v h e)

-- ---- no command notes a run

no_supply_run : (p : List ℕ) (t : Bool) (a l : ℕ) {d : ℕ} → run d ∈ supplied_note p t a l → ⊥
unfolding supplied_note
no_supply_run p true a l z = no_note (run_past z)
no_supply_run p false a l z = no_note z

pub no_run : (p m : List ℕ) (o i : ℕ) (c : Cmd) {d : ℕ} → run d ∈ notes_of p m o i c → ⊥
unfolding notes_of
no_run p m o i (alloc_mono x) z = no_note z
no_run p m o i (make_poly x) z = no_note z
no_run p m o i (cell x v) z = no_note z
no_run p m o i (gives g) z = no_note (run_past z)
no_run p m o i (supply x a b) z = no_supply_run p (there p m o b) (content p m o b) x z
no_run p m o i (react b) z = no_note z
no_run p m o i (sink x a) z = no_note (run_past z)
no_run p m o i (alloc_poly a b) z = no_note (run_past z)
no_run p m o i (keep a b) z = no_note (run_past z)
no_run p m o i none z = no_note z

noted_before : {n : Note} (xs : List Note) {ns : List Note} → (n ∈ xs → ⊥) → n ∈ (xs ++ ns) → n ∈ ns
noted_before [] f z = z
noted_before (x ∷ xs) f first = absurd (f first)
noted_before (x ∷ xs) f (later z) = noted_before xs (λ k. f (later k)) z

-- ---- steps

abbrev top_of : List Frame → Frame
top_of [] = frame 0 0
top_of (f ∷ fs) = f

pub same_top : {o i o' i' : ℕ} {fs fs' : List Frame} → frame o i ∷ fs ≡ frame o' i' ∷ fs' → (o ≡ o') × (i ≡ i')
same_top e = (ap (λ (fs : List Frame). (top_of fs).at) e, ap (λ (fs : List Frame). (top_of fs).next) e)

-- a state's next command is one, and so are the words before it
pub same_point : {p : List ℕ} {s : State} {m m' : List ℕ} {o o' : ℕ} {c c' : Cmd} → Before p s m o c
    → Before p s m' o' c' → (m ≡ m') × (o ≡ o') × (c ≡ c')
same_point {p} {s} {m} {m'} {o} {o'} {c} {c'} a b =
    let top = same_top (sym a.top ∙ b.top) in
    let at : o ≡ o' = top.0 in
    let next : a.index ≡ b.index = top.1 in
    (sym a.wiring ∙ rw (at, next) b.wiring, at, sym a.is ∙ rw (at, next) b.is)

-- at its end a deployment has no next command
pub at_end : {p m : List ℕ} {o i : ℕ} {fs : List Frame} {ns : List Note} → i ≡ commands_in p (reactor m o)
    → {m' : List ℕ} {o' : ℕ} {c : Cmd} → Before p (state m (frame o i ∷ fs) ns) m' o' c → ⊥
at_end {p} {m} {o} {i} e {o' = o'} b =
    let top = same_top b.top in
    let at : o ≡ o' = top.0 in
    let next : i ≡ b.index = top.1 in
    let n : b.index ≢ commands_in p (reactor m o) = rw (← at) at b.goes_on in
    n (sym next ∙ e)

-- the step stops at an allocation
pub record Stops (p : List ℕ) (s : State) (v : Refusal) : Type 0 where
  pub words : List ℕ
  pub owner : ℕ
  pub command : Cmd
  pub before : Before p s words owner command
  pub why : Stopping p words (length s.pile) owner command v

-- what the step from s allocates has its room, and a depth below 65
abbrev pub Roomy : List ℕ → State → Type 0
Roomy p s = (m : List ℕ) (o q : ℕ) (c : Cmd) → Before p s m o c → Allocation p m o c q
    → (length s.pile + 1 ≢ 65) × (size_of p q ≤ length m - used m)

-- a command allocates one reactor
pub one_allocation : {p m : List ℕ} {o q q' : ℕ} {c : Cmd} → Allocation p m o c q → Allocation p m o c q' → q ≡ q'
one_allocation mono mono = refl
one_allocation (poly a b) (poly c d) = refl

-- in state s, command j of a is behind
abbrev pub BehindIn : List ℕ → State → ℕ → ℕ → Type 0
BehindIn p s a j = Behind p s.words s.pile s.notes a j

-- a command behind in t was so in s, or was skipped as its deployment was wired, or is the one carried out
pub data Newly (p : List ℕ) (s t : State) (a j : ℕ) : Type 0 where
  before : BehindIn p s a j → Newly p s t a j
  skipped : Deployed p s.words a → wired s.words a ≡ 1 → j < commands_d p (reactor s.words a) → Newly p s t a j
  by_now : (m : List ℕ) (b : Before p s m a (cmd p s.words a j)) → b.index ≡ j → Deployed p s.words a
      → reactor m a ≡ reactor s.words a → Gave p m t.words a j (cmd p s.words a j) → Newly p s t a j

-- what a step from s to t leaves of slots and wirings
pub record Passed (p : List ℕ) (s t : State) : Type 0 where
  pub wireds : (d : ℕ) → Deployed p s.words d → wired s.words d ≡ 1 → wired t.words d ≡ 1
  pub back : (d : ℕ) → Deployed p t.words d → wired t.words d ≡ 1
      → Deployed p s.words d
      × ((wired s.words d ≡ 1) ⊎ ((j : ℕ) → j < commands_d p (reactor s.words d) → BehindIn p s d j))
  pub newly : (a j : ℕ) → BehindIn p t a j → Newly p s t a j
  pub firm : (a j : ℕ) → BehindIn p s a j → takes_words (cmd p s.words a j) ≡ true
      → ((x : ℕ) → cmd p s.words a j ≢ make_poly x) → Same p s.words t.words a (own p s.words a j)
  pub cells : (a j x v : ℕ) → CellAt p s.words a j x v → wired s.words a ≡ 1
      → Same p s.words t.words a (own p s.words a j)

-- a step from s to t; w the words before the turn
pub record Goes (p w : List ℕ) (s t : State) : Type 0 where
  pub inv : Inv p w t
  pub onward : Onward p s.words t.words
  pub made : (k : ℕ) × StepAllocates p s k × (used t.words ≡ used s.words + k)
  pub roomy : Roomy p s
  pub passed : Passed p s t

-- what a step from s comes to
abbrev pub Comes : List ℕ → List ℕ → State → Next → Type 0
Comes p w s (go t) = Goes p w s t
Comes p w s (stop v) = Stops p s v
Comes p w s (over t) = s.pile ≡ []

module _ (p : List ℕ) (u : Facts p) (rd : List ℕ) (legal : Legal p rd) where
  module _ {w m : List ℕ} {ns : List Note} {o i : ℕ} {fs : List Frame} (v : Inv p w (state m (frame o i ∷ fs) ns)) where
    abbrev here : State
    here = state m (frame o i ∷ fs) ns

    leaves : i ≡ commands_in p (reactor m o) → Comes p w here (go (state m fs (run o ∷ ns)))
    leaves e =
        record {
          inv = leave_kept p u v e;
          onward = onward_self;
          made = (0, nothing (λ m' o' q c b a. at_end e b), omega arith);
          roomy = λ m' o' q c b a. absurd (at_end e b);
          passed = record {
            wireds = λ d t q. q;
            back = λ d t q. (t, inl q);
            newly = λ a j b. before (leave_back p v e a j b);
            firm = λ a j b c n. same_self p;
            cells = λ a j x y c z. same_self p;
          };
        }

    module _ (h : i < commands_in p (reactor m o)) where
      abbrev m₁ : List ℕ
      m₁ = ready p m o i

      abbrev c₀ : Cmd
      c₀ = cmd_of p (reactor m o) i

      r : Ready p u v m₁
      r = ready_kept p u v h

      point : Before p here m₁ o c₀
      point = record { index = i; lower = fs; top = refl; goes_on = λ z. omega (arith, h, z); is = refl; wiring = refl }

      onwards : {m' : List ℕ} → Onward p m₁ m' → Onward p m m'
      onwards f = onward_on r.on_from f

      -- an allocation of the next command
      at_point : {m₂ : List ℕ} {o₂ q : ℕ} {c : Cmd} → Before p here m₂ o₂ c → Allocation p m₂ o₂ c q
          → Allocation p m₁ o c₀ q
      at_point b a =
          let z = same_point b point in
          let e₀ = z.0 in
          let e₁ = z.1 in
          let e₂ = z.2 in
          rw (e₀, e₁, e₂) at a

      made : {m' : List ℕ} → Growth p m₁ (suc (length fs)) o c₀ m'
          → (k : ℕ) × StepAllocates p here k × (used m' ≡ used m + k)
      made (no_words e f) =
          (0, nothing (λ m₂ o₂ q c b a. f q (at_point b a)), let z = r.size in omega arith)
      made (words q a e n l) = (size_of p q, a_deployment point a, let z = r.size in omega arith)

      roomy : {m' : List ℕ} → Growth p m₁ (suc (length fs)) o c₀ m' → Roomy p here
      roomy (no_words e f) m₂ o₂ q c b a = absurd (f q (at_point b a))
      roomy (words q₁ a₁ e n l) m₂ o₂ q c b a =
          let e₀ = (same_point b point).0 in
          let k = one_allocation (at_point b a) a₁ in
          (n, rw (e₀, k) l)

      abbrev notes : List Note
      notes = notes_of p m₁ o i c₀ ++ ns

      ran_then : {d : ℕ} → run d ∈ notes → run d ∈ ns
      ran_then = noted_before (notes_of p m₁ o i c₀) (no_run p m₁ o i c₀)

      t₀ : Deployed p m o
      t₀ = (top_frame p v).deployed

      -- every command that is behind in t is told of
      abbrev AllNewly : State → Type 0
      AllNewly t = (a j : ℕ) → BehindIn p t a j → Newly p here t a j

      -- all of D is behind the first R command
      d_behind : (d j : ℕ) → d ≡ o → i ≡ commands_d p (reactor m o) → j < commands_d p (reactor m d) → BehindIn p here d j
      d_behind d j e q l = let l₂ : j < commands_d p (reactor m o) = rw e at l in inl (i, top (sym e) refl, omega arith)

      -- the command carried out
      here_now : (m' : List ℕ) (pile : List Frame) (j : ℕ) → j ≡ i → Gave p m₁ m' o i c₀
          → Newly p here (state m' pile notes) o j
      unfolding point
      here_now m' pile j e g = rw e (by_now m₁ point refl t₀ r.same g)

      ran_before : (m' : List ℕ) → Onward p m m' → (a j : ℕ) → run a ∈ ns → j < commands_in p (reactor m' a)
          → BehindIn p here a j
      ran_before m' on a j k l = inr (k, rw (on.reactors a (v.piled.ran a k).0) at l)

      -- of an old open deployment
      in_old : {a k : ℕ} (m' : List ℕ) (pile : List Frame) (j : ℕ) → Open a k (frame o (i + 1) ∷ fs) → j < k
          → Gave p m₁ m' o i c₀ → Newly p here (state m' pile notes) a j
      in_old {k = k} m' pile j (under z) l g = before (inl (k, under z, l))
      in_old {a} m' pile j (top e z) l g = by (same? j i)
        where
          by : (j ≡ i) ⊎ (j ≢ i) → Newly p here (state m' pile notes) a j
          by (inl q) = rw (← e) (here_now m' pile j q g)
          by (inr q) = before (inl (i, top e refl, omega arith))

      on_move : (m' : List ℕ) → Onward p m m' → Gave p m₁ m' o i c₀ → AllNewly (state m' (frame o (i + 1) ∷ fs) notes)
      on_move m' on g a j (inr b) = before (ran_before m' on a j (ran_then b.0) b.1)
      on_move m' on g a j (inl b) = in_old m' (frame o (i + 1) ∷ fs) j b.1 b.2 g

      on_call : (m' : List ℕ) (d : ℕ) → Onward p m m' → m' ≡ m₁
          → Inv p w (state m' (frame d (opening p m' d) ∷ frame o (i + 1) ∷ fs) notes) → Gave p m₁ m' o i c₀
          → AllNewly (state m' (frame d (opening p m' d) ∷ frame o (i + 1) ∷ fs) notes)
      on_call m' d on e n g a j (inr b) = before (ran_before m' on a j (ran_then b.0) b.1)
      on_call m' d on e n g a j (inl b) = by b.1 b.2
        where
          pile : List Frame
          pile = frame d (opening p m' d) ∷ frame o (i + 1) ∷ fs

          opened_there : Deployed p m' d
          opened_there = (n.piled.frames d (opening p m' d) (top refl refl)).deployed

          there : Deployed p m d
          there = r.back d (rw e at opened_there)

          -- D was skipped
          opened : j < opening p m' d → (wired m' d ≡ 0) ⊎ (wired m' d ≡ 1) → Newly p here (state m' pile notes) d j
          opened l (inl q) = absurd (omega (arith, opening_raw p m' d q))
          opened l (inr q) = side (r.wireds d there)
            where
              low : j < commands_d p (reactor m d)
              low = let y = opening-wired p m' d q in let z = on.reactors d there in omega (arith, ap (commands_d p) z)

              side : NowWired p m m₁ o i d → Newly p here (state m' pile notes) d j
              side (inl z) = let q₂ : wired m₁ d ≡ 1 = rw e at q in skipped there (sym z ∙ q₂) low
              side (inr z) = before (d_behind d j z.0 z.1 low)

          by : {k : ℕ} → Open a k (frame d (opening p m' d) ∷ frame o (i + 1) ∷ fs) → j < k
              → Newly p here (state m' pile notes) a j
          by (top f z) l = rw (← f) (opened (omega arith) (n.mid.two d opened_there))
          by (under z) l = in_old m' pile j z l g

      passed : (m' : List ℕ) (pile : List Frame) → Writes p m₁ m' o i → AllNewly (state m' pile notes)
          → Passed p here (state m' pile notes)
      passed m' pile wr new =
          record {
            wireds = λ d t q. wr.wireds d (r.on_from.kept d t) ∙ wire d q (r.wireds d t);
            back = λ d t q. was d q (wr.back d t);
            newly = new;
            firm = λ a j b c n.
                let k = v.mid.scope a j b in
                join a j k.0 k.1 c (λ z. let z₀ = z.0 in let z₁ = z.1 in not_behind p v (rw (z₀, z₁) at b)) n;
            cells = λ a j x y c z.
                join a j c.deployed (omega (arith, c.low, declared_in p (reactor m a))) (takes_cell c.is)
                (λ k.
                let k₀ = k.0 in
                let k₁ = k.1 in
                let l : i < commands_d p (reactor m o) = rw (k₀, k₁) at c.low in
                let z₂ : wired m o ≡ 1 = rw k₀ at z in
                omega (arith, (top_frame p v).raw l))
                (λ n e. not_cell x y n (sym c.is ∙ e));
          }
        where
          wire : (d : ℕ) → wired m d ≡ 1 → NowWired p m m₁ o i d → wired m₁ d ≡ 1
          wire d q (inl z) = z ∙ q
          wire d q (inr z) = z.2

          was : (d : ℕ) → wired m' d ≡ 1 → Deployed p m₁ d ⊎ (wired m' d ≡ 0)
              → Deployed p m d × ((wired m d ≡ 1) ⊎ ((j : ℕ) → j < commands_d p (reactor m d) → BehindIn p here d j))
          was d q (inr z) = absurd (omega arith)
          was d q (inl t) = (r.back d t, side (r.wireds d (r.back d t)))
            where
              side : NowWired p m m₁ o i d
                  → (wired m d ≡ 1) ⊎ ((j : ℕ) → j < commands_d p (reactor m d) → BehindIn p here d j)
              side (inl z) = inl (sym z ∙ sym (wr.wireds d t) ∙ q)
              side (inr z) = inr (λ j l. d_behind d j z.0 z.1 l)

          join : (a j : ℕ) → Deployed p m a → j < commands_in p (reactor m a) → takes_words (cmd p m a j) ≡ true
              → (This-slot p o i a j → ⊥) → ((x : ℕ) → cmd p m a j ≢ make_poly x) → Same p m m' a (own p m a j)
          join a j t l w n k =
              let q = r.on_from.reactors a t in
              let x = r.slots a (own p m a j) t (slot_command p (reactor m a) j l w) in
              let y = wr.others a j (r.on_from.kept a t) (rw q l) (rw q w) n (rw q k) in
              same_on p x (rw q at y)

      goes : (m' : List ℕ) (pile : List Frame) → Carried p w m₁ m' o i (suc (length fs)) c₀ pile notes
          → AllNewly (state m' pile notes) → Goes p w here (state m' pile notes)
      goes m' pile f new =
          record {
            inv = f.inv;
            onward = onwards f.forth;
            made = made f.grown;
            roomy = roomy f.grown;
            passed = passed m' pile f.wrote new;
          }

      by_effect : (x : Eff) → Outcome p w m₁ o i fs c₀ notes x → Comes p w here (onto p o i fs notes x)
      unfolding onto
      by_effect (move m') f = goes m' (frame o (i + 1) ∷ fs) f (on_move m' (onwards f.forth) f.gave)
      by_effect (call m' d) f =
          let g = f.0 in
          goes m' (frame d (opening p m' d) ∷ frame o (i + 1) ∷ fs) g
          (on_call m' d (onwards g.forth) f.1 g.inv g.gave)
      by_effect (fail y) f = record { words = m₁; owner = o; command = c₀; before = point; why = f }

      acts : Comes p w here (onto p o i fs notes (eff p rd (suc (length fs)) m o i))
      unfolding eff
      acts = by_effect _ (every_command p u rd legal r.inv (rw r.same h) r.wired_then c₀ (rw r.same refl))

    by_test : (t : Bool) → (i =? commands_in p (reactor m o)) ≡ t → Comes p w here (step_at p rd t m o i fs ns)
    unfolding step_at
    by_test true e = leaves (eq? e)
    by_test false e = acts (let n = eq×? e in let b = (top_frame p v).bound in omega arith)

  by_pile : {w m : List ℕ} (fs : List Frame) {ns : List Note} → Inv p w (state m fs ns)
      → Comes p w (state m fs ns) (step_on p rd m fs ns)
  unfolding step_on
  by_pile [] v = refl
  by_pile (f ∷ fs) v = by_test v _ refl

  pub step_outcome : {w : List ℕ} (s : State) → Inv p w s → Comes p w s (step p rd s)
  unfolding step
  step_outcome s v = by_pile s.pile v
