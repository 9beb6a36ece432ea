-- Which command stands where in a reactor of a tree's program: first AllocMonos of lower reactors, then the commands of
-- its expressions, then its Sinks.
use Rattle.std.specs.Prelude.{ℕ, ◌+◌, ◌-◌, ◌≤◌, ◌<◌, ◌≡◌, refl, ◌⊎◌, List, ◌++◌, length, get_or}
use Rattle.std.proofs.Common.{sym, ◌∙◌, ap, inl, inr}
use Rattle.std.proofs.Common.{arith}
use Rattle.value.proofs.Tests.{below}
use Rattle.program.specs.Bytes.{commands_d, commands_in}
use Rattle.program.specs.Command.{Cmd, cmd_of, sequence_of, R, alloc_mono, make_poly, cell, gives, supply, react, sink}
use Rattle.program.specs.Command.{alloc_poly, keep}
use Rattle.program.specs.Command as C
use Rattle.program.specs.Location.{source_count}
use Rattle.haai.specs.Syntax as S
use Rattle.haai.specs.Syntax.{Operator, sign, Expr, Exprs, parameter, apply, none, also, Definition}
use Rattle.haai.specs.Emit.{allocates, declares, declares_all, calls, steps_all, locations_of, runs_all, sinks_from}
use Rattle.haai.specs.Emit.{declared, running, first_r, sequence_d, sequence_r, commands_of}
use Rattle.haai.proofs.Lists.{length_sinks, sinks_at_lem, length_locations, length_runs_all}
use Rattle.haai.proofs.Formed.{nth, FitOperator, Fit, FitAll, Stretch, stretch_left, stretch_right, Laid}
use Rattle.haai.proofs.Formed.{WellFormed}
use Rattle.haai.proofs.Program.{length_commands}
use Rattle.haai.proofs.Emitted.{Every, every_append, every_at, every_runs_all, every_command}

-- an R command that is no Sink
abbrev pub Plain : Cmd → Type 0
Plain (alloc_mono x) = ⊥
Plain (make_poly x) = ⊥
Plain (cell x v) = ⊥
Plain (gives w) = Unit {0}
Plain (supply x a b) = Unit {0}
Plain (react b) = Unit {0}
Plain (sink x a) = ⊥
Plain (alloc_poly a b) = ⊥
Plain (keep a b) = ⊥
Plain C.none = ⊥

pub plain_r : (c : Cmd) → Plain c → sequence_of c ≡ R
unfolding sequence_of
plain_r (alloc_mono x) h = absurd h
plain_r (make_poly x) h = absurd h
plain_r (cell x v) h = absurd h
plain_r (gives w) h = refl
plain_r (supply x a b) h = refl
plain_r (react b) h = refl
plain_r (sink x a) h = absurd h
plain_r (alloc_poly a b) h = absurd h
plain_r (keep a b) h = absurd h
plain_r C.none h = absurd h

-- a command that a text can have
abbrev pub Written : Cmd → Type 0
Written (alloc_mono x) = Unit {0}
Written (make_poly x) = ⊥
Written (cell x v) = ⊥
Written (gives w) = Unit {0}
Written (supply x a b) = Unit {0}
Written (react b) = Unit {0}
Written (sink x a) = Unit {0}
Written (alloc_poly a b) = ⊥
Written (keep a b) = ⊥
Written C.none = ⊥

-- an AllocMono of a reactor below k
abbrev Lower : ℕ → Cmd → Type 0
Lower k c = (j : ℕ) × (c ≡ alloc_mono j) × (j < k)

module _ (ds : List Definition) (g s k : ℕ) where
  lower_allocates : (f : Operator) (n : ℕ) → FitOperator ds g s k f n → Every (Lower k) (allocates f)
  unfolding allocates
  lower_allocates (sign o) n fit = tt
  lower_allocates (S.reactor j) n fit = ((j, refl, fit.0), tt)

  mutual
    unfolding declares

    lower_declares : (e : Expr) → Fit ds g s k e → Every (Lower k) (declares e)
    lower_declares (parameter i) fit = tt
    lower_declares (S.global x) fit = tt
    lower_declares (S.constant n) fit = tt
    lower_declares (apply f es) fit =
        every_append (Lower k) (declares_all es) (allocates f) (lower_declares_all es fit.0)
        (lower_allocates f (S.count_of es) fit.1)

    lower_declares_all : (es : Exprs) → FitAll ds g s k es → Every (Lower k) (declares_all es)
    lower_declares_all none fit = tt
    lower_declares_all (also es e) fit =
        every_append (Lower k) (declares_all es) (declares e) (lower_declares_all es fit.0)
        (lower_declares e fit.1)

-- ---- the three parts of reactor k

-- a stretch's n-th command
pub stretch_at : (p : List ℕ) (r i : ℕ) (cs : List Cmd) → Stretch p r i cs → (j n : ℕ) → j ≡ i + n → n < length cs
    → cmd_of p r j ≡ get_or cs n C.none
stretch_at p r i cs h j n e l = ap (λ (x : ℕ). cmd_of p r x) e ∙ (h n l).0

module _ (p : List ℕ) (ds : List Definition) (k : ℕ) where
  abbrev pub exprs : Exprs
  exprs = (nth ds k).body

  -- where the expressions' values are
  abbrev pub values : List ℕ
  values = locations_of (source_count p k + commands_d p k) 0 exprs

  abbrev pub runs_of : List Cmd
  runs_of = runs_all (source_count p k) (source_count p k + commands_d p k) exprs 0 0

  -- the first Sink
  abbrev pub sinks_at : ℕ
  sinks_at = commands_d p k + steps_all exprs

  pub data Where (i : ℕ) : Type 0 where
    in_d : i < commands_d p k → (j : ℕ) → cmd_of p k i ≡ alloc_mono j → j < k → Where i
    in_r : commands_d p k ≤ i → i < sinks_at → Plain (cmd_of p k i) → Where i
    in_sink : (y : ℕ) → i ≡ sinks_at + y → y < S.count_of exprs → cmd_of p k i ≡ sink y (get_or values y 0) → Where i

module _ (p : List ℕ) (ds : List Definition) (g : ℕ) (laid : Laid p ds) (formed : WellFormed ds g) (k : ℕ)
    (low : k < length ds) where
  abbrev es : Exprs
  es = exprs p ds k

  abbrev s : ℕ
  s = source_count p k

  abbrev N : ℕ
  N = commands_d p k

  abbrev ls : List ℕ
  ls = values p ds k

  abbrev rs : List Cmd
  rs = runs_of p ds k

  abbrev first : ℕ
  first = sinks_at p ds k

  pub fit : FitAll ds g s k es
  fit = rw (laid.count_of_sources k low) (formed.bodies k low)

  pub count_d : N ≡ length (declares_all es)
  unfolding declared calls
  count_d = laid.d_count k low

  whole : Stretch p k 0 (declares_all es ++ (rs ++ sinks_from 0 ls))
  unfolding commands_of sequence_d sequence_r first_r declared calls
  whole = let a = laid.count_of_sources k low in let b = laid.d_count k low in rw (a, b) (laid.commands k low)

  pub declared_there : Stretch p k 0 (declares_all es)
  declared_there = stretch_left p k 0 (declares_all es) (rs ++ sinks_from 0 ls) whole

  rest : Stretch p k N (rs ++ sinks_from 0 ls)
  rest = let c = count_d in stretch_right p k 0 N (declares_all es) (rs ++ sinks_from 0 ls) (omega arith) whole

  pub runs_there : Stretch p k N rs
  runs_there = stretch_left p k N rs (sinks_from 0 ls) rest

  pub length_rs : length rs ≡ steps_all es
  length_rs = length_runs_all s (s + N) es 0 0

  last : Stretch p k first (sinks_from 0 ls)
  last = let c = length_rs in stretch_right p k N first rs (sinks_from 0 ls) (omega arith) rest

  pub sink_there : (y : ℕ) → y < S.count_of es → cmd_of p k (first + y) ≡ sink y (get_or ls y 0)
  sink_there y h =
      let c : length ls ≡ S.count_of es = length_locations (s + N) 0 es in
      let d = length_sinks 0 ls in
      let z : 0 + y ≡ y = omega arith in
      (last y (omega arith)).0 ∙ sinks_at_lem 0 ls y (omega arith) ∙ ap (λ (x : ℕ). sink x (get_or ls y 0)) z

  pub in_all : commands_in p k ≡ first + S.count_of es
  unfolding declared running calls
  in_all = let a = laid.total k low in let b = length_commands (nth ds k) in let c = count_d in omega arith

  -- what holds of every command of the definition
  pub every_here : (P : Cmd → Type 0) → Every P (commands_of (nth ds k)) → (i : ℕ) → i < commands_in p k → P (cmd_of p k i)
  every_here P e i h =
      let a = laid.total k low in
      let q = stretch_at p k 0 (commands_of (nth ds k)) (laid.commands k low) i i (omega arith) (omega arith) in
      rw q (every_at P (commands_of (nth ds k)) e i (omega arith))

  pub written : (i : ℕ) → i < commands_in p k → Written (cmd_of p k i)
  written =
      every_here Written
      (every_command Written ds g s k (λ x h. tt) (λ n h. tt) (λ o a b h. tt) (λ x a b. tt) (λ b. tt) (λ b. tt)
      (λ j. tt) (λ x a. tt) (nth ds k) fit)

  d_case : (i : ℕ) → i < N → Where p ds k i
  d_case i h =
      let c = count_d in
      let e = every_at (Lower k) (declares_all es) (lower_declares_all ds g s k es fit) i (omega arith) in
      let q = stretch_at p k 0 (declares_all es) declared_there i i (omega arith) (omega arith) in
      in_d h e.0 (q ∙ e.1) e.2

  r_case : (i : ℕ) → N ≤ i → i < first → Where p ds k i
  r_case i h l =
      let c = length_rs in
      let e =
      every_at Plain rs
      (every_runs_all Plain ds g s k (λ y q. tt) (λ n q. tt) (λ o a b q. tt) (λ y a b. tt) (λ b. tt) (λ b. tt) es s
      (s + N) 0 0 fit) (i - N) (omega arith) in
      let q = stretch_at p k N rs runs_there i (i - N) (omega arith) (omega arith) in
      in_r h l (rw q e)

  pub stands : (i : ℕ) → i < commands_in p k → Where p ds k i
  stands i h = by (below i N)
    where
      after : N ≤ i → (i < first) ⊎ (first ≤ i) → Where p ds k i
      after l (inl m) = r_case i l m
      after l (inr m) =
          let a = in_all in
          let z : first + (i - first) ≡ i = omega arith in
          in_sink (i - first) (sym z) (omega arith)
          (ap (λ (y : ℕ). cmd_of p k y) (sym z) ∙ sink_there (i - first) (omega arith))

      by : (i < N) ⊎ (N ≤ i) → Where p ds k i
      by (inl l) = d_case i l
      by (inr l) = after l (below i first)
