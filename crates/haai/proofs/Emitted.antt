-- What holds of every emitted command: a property goes through the lists by `Every`. Here: constants fit in four bytes,
-- so the program is laid out as its tree (`laid`).
use Rattle.std.specs.Prelude.{ℕ, zero, suc, ◌+◌, ◌≤◌, ◌<◌, ◌≡◌, List, [], ◌∷◌, ◌++◌, length, get_or}
use Rattle.std.proofs.Common.{◌∙◌, ap, arith}
use Rattle.value.specs.Value.{number_kind}
use Rattle.program.specs.Command.{Cmd, cmd_of, alloc_mono, gives, supply, react, sink, constant, global, consume}
use Rattle.program.specs.Command.{primitive}
use Rattle.program.specs.Command as C
use Rattle.program.specs.Encode.{Small}
use Rattle.haai.specs.Syntax as S
use Rattle.haai.specs.Syntax.{Operator, sign, Expr, Exprs, parameter, apply, none, also, Definition, Text}
use Rattle.haai.specs.Emit.{allocates, declares, declares_all, calls, steps_all, locations_of, supplies, applied}
use Rattle.haai.specs.Emit.{runs, runs_all, sinks_from, first_r, sequence_d, sequence_r, commands_of, program_of}
use Rattle.haai.proofs.Formed.{nth, FitOperator, Fit, FitAll, Laid, WellFormed}
use Rattle.haai.proofs.Program.{reactors_are, declared_is, sources_are, sinks_are, commands_in_lem, command_is}

abbrev pub Every : (Cmd → Type 0) → List Cmd → Type 0
Every P [] = Unit {0}
Every P (c ∷ cs) = P c × Every P cs

pub every_append : (P : Cmd → Type 0) (xs ys : List Cmd) → Every P xs → Every P ys → Every P (xs ++ ys)
every_append P [] ys a b = b
every_append P (x ∷ xs) ys a b = (a.0, every_append P xs ys a.1 b)

pub every_at : (P : Cmd → Type 0) (cs : List Cmd) → Every P cs → (i : ℕ) → i < length cs → P (get_or cs i C.none)
every_at P [] a i h = absurd (omega arith)
every_at P (c ∷ cs) a zero h = a.0
every_at P (c ∷ cs) a (suc i) h = every_at P cs a.1 i (omega arith)

-- ---- a property of all, from that of each form
module _ (P : Cmd → Type 0) (mono : (k : ℕ) → P (alloc_mono k)) where
  every_allocates : (f : Operator) → Every P (allocates f)
  unfolding allocates
  every_allocates (sign o) = tt
  every_allocates (S.reactor k) = (mono k, tt)

  mutual
    unfolding declares

    every_declares : (e : Expr) → Every P (declares e)
    every_declares (parameter i) = tt
    every_declares (S.global g) = tt
    every_declares (S.constant n) = tt
    every_declares (apply f es) =
        every_append P (declares_all es) (allocates f) (every_declares_all es) (every_allocates f)

    every_declares_all : (es : Exprs) → Every P (declares_all es)
    every_declares_all none = tt
    every_declares_all (also es e) =
        every_append P (declares_all es) (declares e) (every_declares_all es) (every_declares e)

module _ (P : Cmd → Type 0) (ds : List Definition) (g s k : ℕ)
    (of_global : (x : ℕ) → x ≤ g → P (gives (global x)))
    (of_constant : (n : ℕ) → n < 4294967296 → P (gives (constant number_kind n)))
    (of_sign : (o a b : ℕ) → o < 4 → P (gives (primitive o a b 0)))
    (of_supply : (x a b : ℕ) → P (supply x a b)) (of_react : (b : ℕ) → P (react b))
    (of_consume : (b : ℕ) → P (gives (consume 0 b))) where
  every_supplies : (b x : ℕ) (ls : List ℕ) → Every P (supplies b x ls)
  unfolding supplies
  every_supplies b x [] = tt
  every_supplies b x (l ∷ ls) = (of_supply x l b, every_supplies b (x + 1) ls)

  every_applied : (b : ℕ) (ls : List ℕ) (f : Operator) (n : ℕ) → FitOperator ds g s k f n → Every P (applied b ls f)
  unfolding applied
  every_applied b ls (sign o) n fit = (of_sign o _ _ fit.0, tt)
  every_applied b ls (S.reactor j) n fit =
      every_append P (supplies b 0 ls) (react b ∷ gives (consume 0 b) ∷ []) (every_supplies b 0 ls)
      (of_react b, (of_consume b, tt))

  mutual
    unfolding runs

    every_runs : (e : Expr) (t base d r : ℕ) → Fit ds g s k e → Every P (runs t base e d r)
    every_runs (parameter i) t base d r fit = tt
    every_runs (S.global x) t base d r fit = (of_global x fit, tt)
    every_runs (S.constant n) t base d r fit = (of_constant n fit, tt)
    every_runs (apply f es) t base d r fit =
        every_append P (runs_all t base es d r) (applied (t + (d + calls es)) (locations_of base r es) f)
        (every_runs_all es t base d r fit.0)
        (every_applied (t + (d + calls es)) (locations_of base r es) f (S.count_of es) fit.1)

    pub every_runs_all : (es : Exprs) (t base d r : ℕ) → FitAll ds g s k es → Every P (runs_all t base es d r)
    every_runs_all none t base d r fit = tt
    every_runs_all (also es e) t base d r fit =
        every_append P (runs_all t base es d r) (runs t base e (d + calls es) (r + steps_all es))
        (every_runs_all es t base d r fit.0)
        (every_runs e t base (d + calls es) (r + steps_all es) fit.1)

  every_sinks : ((x a : ℕ) → P (sink x a)) → (x : ℕ) (ls : List ℕ) → Every P (sinks_from x ls)
  unfolding sinks_from
  every_sinks of_sink x [] = tt
  every_sinks of_sink x (l ∷ ls) = (of_sink x l, every_sinks of_sink (x + 1) ls)

  pub every_command : ((j : ℕ) → P (alloc_mono j)) → ((x a : ℕ) → P (sink x a)) → (f : Definition)
      → FitAll ds g s k f.body → Every P (commands_of f)
  unfolding commands_of sequence_d sequence_r
  every_command of_mono of_sink f fit =
      let ls = locations_of (first_r f) 0 f.body in
      let rs = runs_all f.parameters (first_r f) f.body 0 0 in
      every_append P (declares_all f.body) (rs ++ sinks_from 0 ls) (every_declares_all P of_mono f.body)
      (every_append P rs (sinks_from 0 ls) (every_runs_all f.body f.parameters (first_r f) 0 0 fit)
      (every_sinks of_sink 0 ls))

-- constants fit in four bytes
pub small : (ds : List Definition) (g k : ℕ) (f : Definition) → FitAll ds g f.parameters k f.body
    → Every Small (commands_of f)
small ds g k f fit =
    every_command Small ds g f.parameters k (λ x h. tt) (λ n h. h) (λ o a b h. omega arith) (λ x a b. tt) (λ b. tt)
    (λ b. tt) (λ j. tt) (λ x a. tt) f fit

pub laid : (x : Text) → 1 ≤ length x.definitions → WellFormed x.definitions x.sources
    → Laid (program_of x) x.definitions
laid x some formed =
    record {
      count = reactors_are x;
      some = some;
      count_of_sources = λ k h. sources_are x k h;
      count_of_sinks = λ k h. sinks_are x k h;
      d_count = λ k h. declared_is x k h;
      total = λ k h. commands_in_lem x k h;
      commands = λ k h i l.
          let f = nth x.definitions k in
          let z : 0 + i ≡ i = omega arith in
          let q = every_at Small (commands_of f) (small x.definitions x.sources k f (formed.bodies k h)) i l in
          let c = commands_in_lem x k h in
          (ap (λ (y : ℕ). cmd_of (program_of x) k y) z ∙ command_is x k i h l q, omega arith);
    }
