-- The recursive run keeps what is unbroken, however it ends.
use Rattle.std.specs.Prelude.{ℕ, zero, suc, ◌+◌, ◌≤◌, ◌<◌, ◌≡◌, refl, ◌≢◌, List}
use Rattle.std.proofs.Common.{ap, arith}
use Rattle.value.specs.Test.{◌=?◌, ◌<?◌}
use Rattle.value.proofs.Tests.{cases, lt?, lt×?, eq×, eq?, eq×?, no, picks}
use Rattle.program.specs.Bytes.{commands_d, commands_in}
use Rattle.program.specs.Command.{cmd_of}
use Rattle.load.specs.Rules.{Rules}
use Rattle.image.specs.Memory.{reactor, wired, with_wired}
use Rattle.image.specs.Sound.{Deployed}
use Rattle.image.proofs.Memory.Changes.{wiring}
use Rattle.remus.specs.Exec.{Eff, move, call, fail, exec, eff, opening, ready}
use Rattle.remus.specs.Run.{Ran, ran, stopped, and_then, entered, commands, step_of, run_of}
use Rattle.remus.proofs.Undo.Unbroken.{Unbroken, later_refl, later_trans}
use Rattle.remus.proofs.Undo.Writes.{Kept, wire_kept}
use Rattle.remus.proofs.Undo.Effects.{Keeps, exec_keeps}
use Rattle.remus.proofs.Undo.Declares.{Opened, opened_in_r, Declared, declare_keeps}

module _ (p : List ℕ) where
  kept_refl : (m : List ℕ) → Unbroken p m → Kept p m m
  kept_refl m f = record { firm = f; later = later_refl p m }

  kept_then : {m m₁ m₂ : List ℕ} → Kept p m m₁ → Kept p m₁ m₂ → Kept p m m₂
  kept_then a b = record { firm = b.firm; later = later_trans p a.later b.later }

  -- what a run from m keeps; P of the words if it comes to its end
  abbrev pub After : List ℕ → (List ℕ → Type 0) → Ran → Type 0
  After m P (ran m') = Kept p m m' × P m'
  After m P (stopped v m') = Kept p m m'

  after_then : {m m₁ : List ℕ} (P : List ℕ → Type 0) → Kept p m m₁ → (x : Ran) → After m₁ P x → After m P x
  after_then P a (ran m') b = (kept_then a b.0, b.1)
  after_then P a (stopped v m') b = kept_then a b

  -- ---- a deployment opens

  opens : (m : List ℕ) (o : ℕ) → Unbroken p m → Deployed p m o → Opened p m o (opening p m o)
  unfolding opening
  opens m o f t =
      (picks (Opened p m o) (wired m o =? 0) 0 (commands_d p (reactor m o))).1 (
        λ e. record {
          deployed = t;
          unwired = λ n. eq? e;
          points = λ n j x l q. absurd (omega arith);
          past = λ n. absurd (omega arith);
        },
        λ e.
            record {
              deployed = t;
              unwired = λ n. absurd (omega arith);
              points = λ n j x l q. f.points o j x t (eq×? e) l q;
              past = λ n. absurd (omega arith);
            },
      )

  opens_low : (m : List ℕ) (o : ℕ) → opening p m o ≤ commands_in p (reactor m o)
  unfolding opening commands_in
  opens_low m o = (picks (λ (i : ℕ). i ≤ commands_in p (reactor m o)) (wired m o =? 0) 0 (commands_d p (reactor m o))).1
      (λ e. omega arith, λ e. omega arith)

  -- ---- a command

  -- the words in which command i of o is carried out
  module _ (m : List ℕ) (o i : ℕ) (f : Unbroken p m) (s : Opened p m o i) where
    ready_early : i < commands_d p (reactor m o) → m ≡ ready p m o i
    unfolding ready
    ready_early h = no _ (eq× (omega arith)) refl

    ready_kept : commands_d p (reactor m o) ≤ i → Kept p m (ready p m o i) × (wired (ready p m o i) o ≢ 0)
    unfolding ready
    ready_kept h =
        (picks (λ (x : List ℕ). Kept p m x × (wired x o ≢ 0)) (i =? commands_d p (reactor m o)) (with_wired m o 1) m).1 (
          λ e.
              let z : i ≡ commands_d p (reactor m o) = eq? e in (
                wire_kept p m o f s.deployed (λ j x l q. s.points (omega arith) j x (omega arith) q),
                omega (arith, (wiring p m o f.good s.deployed).wired_here),
              ),
          λ e. let z : i ≢ commands_d p (reactor m o) = eq×? e in (kept_refl m f, s.past (omega arith)),
        )

  -- `enter` keeps what is unbroken
  abbrev Nested : (List ℕ → ℕ → Ran) → Type 0
  Nested enter = (m : List ℕ) (d : ℕ) → Unbroken p m → Deployed p m d → After m (λ x. Unit {0}) (enter m d)

  in_d : (enter : List ℕ → ℕ → Ran) (m : List ℕ) (o i : ℕ) → Unbroken p m → (e : Eff) → Declared p m o i e
      → After m (λ x. Opened p x o (i + 1)) (entered enter m e)
  unfolding entered
  in_d enter m o i f (move m') k = k
  in_d enter m o i f (call m' d) k = absurd k
  in_d enter m o i f (fail v) k = kept_refl m f

  module _ (enter : List ℕ → ℕ → Ran) (nested : Nested enter) (m : List ℕ) (o i : ℕ) (f : Unbroken p m)
      (t : Deployed p m o) (w : wired m o ≢ 0) (late : commands_d p (reactor m o) ≤ i) where
    goes_on : (x : Ran) → After m (λ x. Unit {0}) x → After m (λ x. Opened p x o (i + 1)) x
    goes_on (ran m') k = (k.0, opened_in_r p k.0.later t w late)
    goes_on (stopped v m') k = k

    in_r : (e : Eff) → Keeps p m e → After m (λ x. Opened p x o (i + 1)) (entered enter m e)
    unfolding entered
    in_r (move m') k = (k, opened_in_r p k.later t w late)
    in_r (call m' d) k = rw k.0 (goes_on (enter m d) (nested m d f k.1))
    in_r (fail v) k = kept_refl m f

  module _ (rules : Rules p) (rd : List ℕ) where
    step_keeps : (enter : List ℕ → ℕ → Ran) → Nested enter → (h o i : ℕ) (m : List ℕ) → Unbroken p m → Opened p m o i
        → i < commands_in p (reactor m o) → After m (λ x. Opened p x o (i + 1)) (step_of enter p rd h o i m)
    unfolding step_of eff
    step_keeps enter nested h o i m f s k =
        cases (i <? commands_d p (reactor m o))
        (λ t.
        let l : i < commands_d p (reactor m o) = lt? t in
        rw (← ready_early m o i f s l) (in_d enter m o i f _ (declare_keeps p rules rd h m o i f s l)))
        (λ t.
        let l : commands_d p (reactor m o) ≤ i = lt×? t in
        let g = ready_kept m o i f s l in
        let n = ready p m o i in
        let d : Deployed p n o = g.0.later.kept o s.deployed in
        let e : reactor n o ≡ reactor m o = g.0.later.reactors o s.deployed in
        let late : commands_d p (reactor n o) ≤ i = rw e l in
        let z = exec p rd h n o i (cmd_of p (reactor m o) i) in
        let x : Keeps p n z = exec_keeps p rules rd h n o i g.0.firm d (rw e k) late g.1
        (cmd_of p (reactor m o) i) (ap (λ (r : ℕ). cmd_of p r i) e) in
        after_then (λ x. Opened p x o (i + 1)) g.0 (entered enter n z)
        (in_r enter nested n o i g.0.firm d g.1 late z x))

    commands_keep : (enter : List ℕ → ℕ → Ran)
        → Nested enter → (h o n i : ℕ) (m : List ℕ) → Unbroken p m → Opened p m o i → i + n ≡ commands_in p (reactor m o)
        → After m (λ x. Unit {0}) (commands (step_of enter p rd h o) n i m)
    unfolding commands and_then
    commands_keep enter nested h o zero i m f s e = (kept_refl m f, tt)
    commands_keep enter nested h o (suc n) i m f s e =
        by (step_of enter p rd h o i m) (step_keeps enter nested h o i m f s (omega arith))
        (λ m' f' s' e'. commands_keep enter nested h o n (i + 1) m' f' s' e')
      where
        by : (x : Ran) → After m (λ x. Opened p x o (i + 1)) x
            → ((m' : List ℕ) → Unbroken p m' → Opened p m' o (i + 1) → i + 1 + n ≡ commands_in p (reactor m' o)
            → After m' (λ x. Unit {0}) (commands (step_of enter p rd h o) n (i + 1) m'))
            → After m (λ x. Unit {0}) (and_then (commands (step_of enter p rd h o) n (i + 1)) x)
        by (ran m') k rest =
            let n' = commands (step_of enter p rd h o) n (i + 1) m' in
            after_then (λ x. Unit {0}) k.0 n'
            (rest m' k.0.firm k.1 (rw (k.0.later.reactors o s.deployed) (omega arith)))
        by (stopped v m') k rest = k

    pub run_keeps : (f h : ℕ) → Nested (run_of f p rd h)
    unfolding run_of
    run_keeps zero h m o k t = kept_refl m k
    run_keeps (suc f) h m o k t = commands_keep (run_of f p rd (h + 1)) (run_keeps f (h + 1)) h o _ (opening p m o) m k
        (opens m o k t) (omega (arith, opens_low m o))
