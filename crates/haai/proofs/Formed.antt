-- Well-formed trees, and programs that are laid out as a tree says: stretches of a reactor's commands.
use Rattle.std.specs.Prelude.{ℕ, ◌+◌, ◌-◌, ◌≤◌, ◌<◌, ◌≡◌, List, ◌∷◌, ◌++◌, length, get_or}
use Rattle.std.proofs.Common.{sym, ◌∙◌, ap, arith}
use lib.ListN.{length-append, get_or-append}
use lib.Seq.{get_or-append-add}
use Rattle.program.specs.Bytes.{reactors, commands_d, commands_in}
use Rattle.program.specs.Command.{Cmd, cmd_of}
use Rattle.program.specs.Command as C
use Rattle.program.specs.Location.{source_count, sink_count}
use Rattle.haai.specs.Syntax as S
use Rattle.haai.specs.Syntax.{Operator, sign, Expr, Exprs, parameter, apply, none, also, Definition, Text}
use Rattle.haai.specs.Names.{no_definition}
use Rattle.haai.specs.Emit.{declared, running, commands_of}

abbrev pub nth : List Definition → ℕ → Definition
nth ds k = get_or ds k no_definition

-- ---- well-formed expressions: ds the definitions, g the sources, s the parameters, k the reactor's number

module _ (ds : List Definition) (g s k : ℕ) where
  abbrev pub FitOperator : Operator → ℕ → Type 0
  FitOperator (sign o) n = (o < 4) × (n ≡ 2)
  FitOperator (S.reactor j) n = (j < k) × (n ≡ (nth ds j).parameters) × (S.count_of (nth ds j).body ≡ 1)

  abbrev mutual
    pub Fit : Expr → Type 0
    Fit (parameter i) = i < s
    Fit (S.global x) = x ≤ g
    Fit (S.constant n) = n < 4294967296
    Fit (apply f es) = FitAll es × FitOperator f (S.count_of es)

    pub FitAll : Exprs → Type 0
    FitAll none = Unit {0}
    FitAll (also es e) = FitAll es × Fit e

-- ---- a stretch of a reactor's commands

-- the commands of reactor r from i on are cs
abbrev pub Stretch : List ℕ → ℕ → ℕ → List Cmd → Type 0
Stretch p r i cs = (n : ℕ) → n < length cs → (cmd_of p r (i + n) ≡ get_or cs n C.none) × (i + n < commands_in p r)

pub stretch_left : (p : List ℕ) (r i : ℕ) (cs ds : List Cmd) → Stretch p r i (cs ++ ds) → Stretch p r i cs
stretch_left p r i cs ds h n l =
    let q = length-append cs ds in let f = h n (omega arith) in (f.0 ∙ get_or-append cs ds C.none n l, f.1)

pub stretch_right : (p : List ℕ) (r i j : ℕ) (cs ds : List Cmd) → j ≡ i + length cs → Stretch p r i (cs ++ ds)
    → Stretch p r j ds
stretch_right p r i j cs ds e h n l =
    let q = length-append cs ds in
    let f = h (length cs + n) (omega arith) in
    let z : i + (length cs + n) ≡ j + n = omega arith in
    (ap (λ (x : ℕ). cmd_of p r x) (sym z) ∙ f.0 ∙ get_or-append-add cs ds n C.none, let y = f.1 in omega arith)

pub stretch_head : (p : List ℕ) (r i : ℕ) (c : Cmd) (cs : List Cmd) → Stretch p r i (c ∷ cs)
    → (cmd_of p r i ≡ c) × (i < commands_in p r)
stretch_head p r i c cs h =
    let f = h 0 (omega arith) in
    let z : i + 0 ≡ i = omega arith in
    (ap (λ (x : ℕ). cmd_of p r x) (sym z) ∙ f.0, let y = f.1 in omega arith)

-- ---- programs

-- reactor k of p is definition k
pub record Laid (p : List ℕ) (ds : List Definition) : Type 0 where
  pub count : reactors p ≡ length ds
  pub some : 1 ≤ length ds
  pub count_of_sources : (k : ℕ) → k < length ds → source_count p k ≡ (nth ds k).parameters
  pub count_of_sinks : (k : ℕ) → k < length ds → sink_count p k ≡ S.count_of (nth ds k).body
  pub d_count : (k : ℕ) → k < length ds → commands_d p k ≡ declared (nth ds k)
  pub total : (k : ℕ) → k < length ds → commands_in p k ≡ length (commands_of (nth ds k))
  pub commands : (k : ℕ) → k < length ds → Stretch p k 0 (commands_of (nth ds k))

pub record WellFormed (ds : List Definition) (g : ℕ) : Type 0 where
  pub bodies : (k : ℕ) → k < length ds → FitAll ds g (nth ds k).parameters k (nth ds k).body
  pub main_bare : (nth ds (length ds - 1)).parameters ≡ 0

-- the counts of a tree that a program can have
pub record Bounded (x : Text) : Type 0 where
  pub few_sources : x.sources ≤ 31
  pub some : 1 ≤ length x.definitions
  pub few : length x.definitions ≤ 32
  pub few_parameters : (k : ℕ) → k < length x.definitions → (nth x.definitions k).parameters ≤ 7
  pub some_sink : (k : ℕ) → k < length x.definitions → 1 ≤ S.count_of (nth x.definitions k).body
  pub few_sinks : (k : ℕ) → k < length x.definitions → S.count_of (nth x.definitions k).body ≤ 7
  pub few_d : (k : ℕ) → k < length x.definitions → declared (nth x.definitions k) ≤ 32
  pub few_r : (k : ℕ) → k < length x.definitions → running (nth x.definitions k) ≤ 128
