-- Each command, and so each run, leaves words on which u and the time fit a word.
-- Assumes nothing.
use Rattle.std.specs.Prelude.{ℕ, zero, suc, ◌+◌, ◌≤◌, ◌<◌, ◌≡◌, Bool, true, false, List, [], ◌∷◌, Ok}
use Rattle.std.proofs.Common.{sym, subst, ⊎_elim}
use Rattle.std.specs.Prelude.{length, set}
use Rattle.std.proofs.Common.{arith}
use lib.ListN.{length-set}
use lib.Seq.{set_out}
use Rattle.value.specs.declared.Value.{Value}
use Rattle.value.proofs.Tests.{pick_any, below}
use Rattle.program.specs.Command.{Cmd, cmd_of, alloc_mono, make_poly, supply, react, sink, alloc_poly, cell, keep, none}
use Rattle.program.specs.Command.{gives}
use Rattle.program.proofs.Slots.{slot_least}
use Rattle.image.specs.Memory.{main_at, word, used, turns, reactor, content, with_used, with_wired, slot, store, deploy}
use Rattle.remus.specs.Exec.{Eff, move, call, fail, exec, allocated, branched, chosen, operated, supplied, reacted}
use Rattle.remus.specs.Exec.{ready, eff}
use Rattle.remus.specs.Run.{Ran, ran, stopped, and_then, entered, commands, step_of, run_of}
use Rattle.remus.proofs.Undo.Back.{word_set, word_unset}
use Rattle.machine.specs.Clauses.{Workable, ran_as}

-- ---- words

keeps_set : (m : List ℕ) (i v : ℕ) → 2 ≤ i → Workable m → Workable (set m i v)
unfolding used turns
keeps_set m i v h w =
    record {
      few = simp length-set w.few;
      past = rw (word_unset m i v 0 (λ e. omega arith)) w.past;
      clock = rw (word_unset m i v 1 (λ e. omega arith)) w.clock;
    }

keeps_store : (p m : List ℕ) (a l : ℕ) (v : Value) → Workable m → Workable (store p m a l v)
unfolding store slot
keeps_store p m a l v w =
    let k = slot_least p (reactor m a) l in
    keeps_set _ _ _ (omega arith) (keeps_set _ _ _ (omega arith) w)

clock_one : (m : List ℕ) → Workable m → turns (set m 1 1) < 4294967295
unfolding turns
clock_one m w =
    ⊎_elim (λ (q : 1 < length m). rw (word_set m 1 1 q) (omega arith))
    (λ (q : length m ≤ 1). rw (set_out m 1 1 q) w.clock) (below 1 (length m))

pub keeps_wired : (m : List ℕ) (o : ℕ) → Workable m → Workable (with_wired m o 1)
unfolding with_wired used
keeps_wired m zero w =
    record {
      few = simp length-set w.few;
      past = rw (word_unset m 1 1 0 (λ e. omega arith)) w.past;
      clock =
          clock_one m w;
    }
keeps_wired m (suc o) w = keeps_set m (suc o + 1) 1 (omega arith) w

not_empty : (m : List ℕ) → main_at ≤ used m → 0 < length m
unfolding used word
not_empty [] h = absurd (omega arith)
not_empty (x ∷ m) h = omega arith

keeps_used : (m : List ℕ) (u : ℕ) → 2 ≤ u → Workable m → Workable (with_used m u)
unfolding with_used used turns
keeps_used m u h w =
    record {
      few = simp length-set w.few;
      past = rw (word_set m 0 u (not_empty m w.past)) h;
      clock = rw (word_unset m 0 u 1 (λ e. omega arith)) w.clock;
    }

keeps_place : (p m : List ℕ) (r old : ℕ) → Workable m → Workable (deploy p m r old)
unfolding deploy
keeps_place p m r old w =
    let h = w.past in
    keeps_used _ _ (omega arith)
    (keeps_set _ _ _ (omega arith) (keeps_set _ _ _ (omega arith) (keeps_set _ _ _ (omega arith) w)))

-- ---- a command

abbrev Kept : Eff → Type 0
Kept (move m) = Workable m
Kept (call m d) = Workable m
Kept (fail v) = Unit {0}

module _ (p rd : List ℕ) (h : ℕ) (m : List ℕ) (o i : ℕ) (w : Workable m) where
  allocated_keeps : (s t : Bool) (x : ℕ) → Kept (allocated p rd h m o i s t x)
  unfolding allocated
  allocated_keeps true t x = tt
  allocated_keeps false false x = tt
  allocated_keeps false true x = keeps_store p _ o _ _ (keeps_place p m x 0 w)

  branched_keeps : (s t : Bool) (q b : ℕ) → Kept (branched p rd h m o i s t q b)
  unfolding branched
  branched_keeps true t q b = tt
  branched_keeps false false q b = tt
  branched_keeps false true q b = keeps_store p _ o _ _ (keeps_store p _ o b _ (keeps_place p m q (content p m o b) w))

  chosen_keeps : (d q b : ℕ) → Kept (chosen p rd h m o i d q b)
  unfolding chosen
  chosen_keeps zero q b = branched_keeps _ _ q b
  chosen_keeps (suc d) q b = keeps_store p m o _ _ w

  operated_keeps : (t : Bool) (q b : ℕ) → Kept (operated p rd h m o i t q b)
  unfolding operated
  operated_keeps true q b = keeps_store p m o _ _ w
  operated_keeps false q b = chosen_keeps _ q b

  supplied_keeps : (t : Bool) (x a b : ℕ) → Kept (supplied p rd h m o i t x a b)
  unfolding supplied
  supplied_keeps true x a b = keeps_store p m _ _ _ w
  supplied_keeps false x a b = w

  reacted_keeps : (t : Bool) (b : ℕ) → Kept (reacted p rd h m o i t b)
  unfolding reacted
  reacted_keeps true b = w
  reacted_keeps false b = w

  exec_keeps : (c : Cmd) → Kept (exec p rd h m o i c)
  unfolding exec
  exec_keeps (alloc_mono x) = allocated_keeps _ _ x
  exec_keeps (make_poly x) = keeps_store p m o _ _ w
  exec_keeps (cell x v) = keeps_store p m o _ _ w
  exec_keeps (gives y) = keeps_store p m o _ _ w
  exec_keeps (supply x a b) = supplied_keeps _ x a b
  exec_keeps (react b) = reacted_keeps _ b
  exec_keeps (sink x a) = keeps_store p m o _ _ w
  exec_keeps (alloc_poly a b) = operated_keeps _ _ b
  exec_keeps (keep a b) = keeps_store p m o _ _ w
  exec_keeps none = w

pub ready_keeps : (p m : List ℕ) (o i : ℕ) → Workable m → Workable (ready p m o i)
unfolding ready
ready_keeps p m o i w = pick_any Workable _ (λ e. keeps_wired m o w) (λ e. w)

eff_keeps : (p rd : List ℕ) (h : ℕ) (m : List ℕ) (o i : ℕ) → Workable m → Kept (eff p rd h m o i)
unfolding eff
eff_keeps p rd h m o i w = exec_keeps p rd h (ready p m o i) o i (ready_keeps p m o i w) (cmd_of p (reactor m o) i)

-- ---- a run

abbrev pub Worked : Ran → Type 0
Worked (ran m) = Workable m
Worked (stopped v m) = Workable m

then_keeps : (more : List ℕ → Ran) → ((m : List ℕ) → Workable m → Worked (more m)) → (r : Ran) → Worked r → Worked
    (and_then more r)
unfolding and_then
then_keeps more f (ran m) w = f m w
then_keeps more f (stopped v m) w = w

entered_keeps : (enter : List ℕ → ℕ → Ran) → ((m : List ℕ) (d : ℕ) → Workable m → Worked (enter m d)) → (m : List ℕ) →
    Workable m → (e : Eff)
    → Kept e → Worked (entered enter m e)
unfolding entered
entered_keeps enter f m w (move m') k = k
entered_keeps enter f m w (call m' d) k = f m' d k
entered_keeps enter f m w (fail v) k = w

commands_keep : (step : ℕ → List ℕ → Ran) → ((i : ℕ) (m : List ℕ) → Workable m → Worked (step i m)) → (n i : ℕ)
    (m : List ℕ) → Workable m
    → Worked (commands step n i m)
unfolding commands
commands_keep step f zero i m w = w
commands_keep step f (suc n) i m w = then_keeps (commands step n (i + 1)) (commands_keep step f n (i + 1)) (step i m)
    (f i m w)

module _ (p rd : List ℕ) where
  step_keeps : (enter : List ℕ → ℕ → Ran) → ((m : List ℕ) (d : ℕ) → Workable m → Worked (enter m d)) → (h o i : ℕ)
      (m : List ℕ) → Workable m
      → Worked (step_of enter p rd h o i m)
  unfolding step_of
  step_keeps enter f h o i m w = entered_keeps enter f (ready p m o i) (ready_keeps p m o i w) (eff p rd h m o i)
      (eff_keeps p rd h m o i w)

  pub run_keeps : (f h : ℕ) (m : List ℕ) (o : ℕ) → Workable m → Worked (run_of f p rd h m o)
  unfolding run_of
  run_keeps zero h m o w = w
  run_keeps (suc f) h m o w =
      commands_keep _ (λ i m₁ w₁. step_keeps (run_of f p rd (h + 1)) (λ m₂ d w₂. run_keeps f (h + 1) m₂ d w₂) h o i m₁
      w₁) _ _ m w

  -- the words after a command of a run
  pub workable_after : (f k h o i : ℕ) (m m₁ : List ℕ) → Workable m → ran_as (Ok tt) m₁ ≡ step_of (run_of f p rd k) p rd h o
      i m → Workable m₁
  unfolding ran_as
  workable_after f k h o i m m₁ w e = subst Worked (sym e) (step_keeps (run_of f p rd k) (run_keeps f k) h o i m w)

-- the words that a command leaves to the deployment it opens
pub workable_opened : (p rd : List ℕ) (h : ℕ) (m : List ℕ) (o i d : ℕ) (m₁ : List ℕ) → Workable m → eff p rd h m o i ≡
    call m₁ d
    → Workable m₁
workable_opened p rd h m o i d m₁ w e = subst Kept e (eff_keeps p rd h m o i w)
