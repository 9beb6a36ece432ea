-- A whole expression, an operator, an applied operator and a whole definition each keep the tree as it is kept.
use Rattle.std.specs.Prelude.{ℕ, suc, ◌+◌, ◌-◌, ◌*◌, ◌≤◌, ◌<◌, ◌≡◌, refl, ◌⊎◌}
use Rattle.std.proofs.Common.{sym, ◌∙◌, ap, ap₂, subst, inl}
use Rattle.std.proofs.Common.{inr, arith}
use Rattle.std.specs.Prelude.{not, List, [], ◌∷◌, ◌++◌, length, get_or, set}
use lib.ListN.{length-append, length-set}
use lib.Seq.{get_or-set_same, get_or-set_other}
use Rattle.value.specs.Test.{pick, ◌<?◌}
use Rattle.value.proofs.Tests.{eq!, eq×, lt!, lt×, yes, no, below, not_true, not_false}
use Rattle.haai.specs.declared.Size.{Size}
use Rattle.haai.specs.declared.Application.{Application}
use Rattle.haai.specs.Word.{among}
use Rattle.haai.specs.Syntax as S
use Rattle.haai.specs.Syntax.{Expr, Exprs, apply, none, also, count_of, Definition}
use Rattle.haai.specs.declared.Operator.{Operator}
use Rattle.haai.specs.declared.Operator.TheVariants.{Sign, Reactor as AReactor}
use Rattle.haai.specs.Names.{Opened, Known, meant, no_definition, with_pile, with_operand, add_expr, add_operator}
use Rattle.haai.specs.Names.{add_definition}
use Rattle.haai.specs.Emit.{allocates, declares, declares_all, calls, own_steps, steps, steps_all, declared, running}
use Rattle.haai.specs.Places.{applied_by}
use Rattle.haai.specs.Tables.{counted, no_size, size_at, no_application, opened_at, own_calls, own_runs, Grove, grove}
use Rattle.haai.specs.Tables.{spent, levelled, innermost, with_operand as with_one, whole_grove, open_grove, close_grove}
use Rattle.haai.specs.Tables.{defined_tree, size_of, SizeIs, Sizes}
use Rattle.haai.specs.declared.Tree.{Tree}
use Rattle.haai.proofs.Lists.{snoc_less, snoc_last}
use Rattle.haai.proofs.Fitting.{guard_any}
use Rattle.haai.proofs.Counts.{counted_exact, counted_most, counted_more}
use Rattle.haai.proofs.Grown.{calls_open, steps_open, PileIs, Grown}

abbrev pub GrownIn : Known → List Size → Grove → Type 0
GrownIn k tb (grove u pl) = Grown k u tb pl

-- ---- the commands of an expression

-- an expression's AllocMonos
abbrev pub calls_one : Expr → ℕ
calls_one e = length (declares e)

calls_also : (es : Exprs) (e : Expr) → calls (also es e) ≡ calls es + calls_one e
unfolding calls declares_all
calls_also es e = length-append (declares_all es) (declares e)

pub calls_apply : (f : S.Operator) (es : Exprs) → calls_one (apply f es) ≡ calls es + length (allocates f)
unfolding calls declares
calls_apply f es = length-append (declares_all es) (allocates f)

pub meant_calls : (k : Known) (w : List ℕ) → calls_one (meant k w) ≡ 0
unfolding meant declares
meant_calls k w =
    guard_any (λ (e : Expr). calls_one e ≡ 0) (not (among k.parameters w)) _ _
    (λ p. guard_any (λ (e : Expr). calls_one e ≡ 0) (not (among k.sources w)) _ _ (λ q. refl) (λ q. refl))
    (λ p. refl)

pub meant_steps : (k : Known) (w : List ℕ) → steps (meant k w) ≡ pick (among k.parameters w) 0 1
unfolding meant steps
meant_steps k w =
    guard_any Of (not (among k.parameters w)) _ _
    (λ p.
    guard_any Of (not (among k.sources w)) _ _
    (λ q. no 0 (not_true _ p) refl)
    (λ q. no 0 (not_true _ p) refl))
    (λ p. yes 1 (not_false _ p) refl)
  where
    Of : Expr → Type 0
    Of e = steps e ≡ pick (among k.parameters w) 0 1

pub own_calls_lem : (f : Operator) → own_calls f ≡ length (allocates (applied_by f))
unfolding own_calls applied_by allocates
own_calls_lem (Sign o) = refl
own_calls_lem (AReactor j) = refl

pub own_runs_lem : (f : Operator) (n : ℕ) → counted (own_runs f (counted n)) ≡ counted (own_steps (applied_by f) n)
unfolding own_runs applied_by own_steps
own_runs_lem (Sign o) n = refl
own_runs_lem (AReactor j) n =
    counted_exact (counted (counted n + 2)) (counted_most (counted n + 2)) ∙ counted_more (counted n) n 2 2 refl refl

-- ---- the pile

pub pile_kept : (pl : List Application) (i : ℕ) (a : Application) (os : List Opened) → length os ≤ i → PileIs pl os
    → PileIs (set pl i a) os
unfolding opened_at
pile_kept pl i a [] l h = tt
pile_kept pl i a (o ∷ os) l h =
    let e = get_or-set_other pl i (length os) a no_application (λ e. omega arith) in
    rw e (h.0, h.1, h.2, pile_kept pl i a os (omega arith) h.3)

-- the application at i, which is the innermost one of o and os
pub pile_put : (pl : List Application) (i : ℕ) (a : Application) (o : Opened) (os : List Opened) → i ≡ length os
    → i < length pl
    → applied_by a.operator ≡ o.operator
    → a.at ≡ o.at
    → a.operands ≡ counted (count_of o.operands)
    → PileIs pl os
    → PileIs (set pl i a) (o ∷ os)
unfolding opened_at
pile_put pl i a o os e l f g n h =
    let z : get_or (set pl i a) (length os) no_application ≡ a
    = ap (λ (j : ℕ). get_or (set pl i a) j no_application) (sym e) ∙ get_or-set_same pl i a no_application l in
    rw z (f, g, n, pile_kept pl i a os (omega arith) h)

innermost_at : (u : Tree) (pl : List Application) → innermost u pl ≡ opened_at pl (u.level - 1)
unfolding innermost
innermost_at u pl = refl

-- ---- a whole expression

module _ (k : Known) (f : ℕ) (e : Expr) (u : Tree) (tb : List Size) (pl : List Application) where
  -- the counts already have the expression's commands, and os are the applications around it
  pub grown_whole : (os : List Opened) → u.definitions ≡ length k.definitions
      → u.count ≡ counted (count_of k.body)
      → u.level ≡ length os
      → u.calls ≡ counted (calls_open k.body os + calls_one e)
      → u.steps ≡ counted (steps_open k.body os + steps e)
      → Sizes tb k.definitions
      → PileIs pl os
      → length tb ≡ 32
      → length pl ≡ 16
      → length os ≤ 16
      → GrownIn (add_expr k f os e) tb (whole_grove u pl)
  unfolding whole_grove with_one add_expr with_pile with_operand calls_open steps_open steps_all count_of pick
  grown_whole [] ds c l cs st rows pile lt lp m =
      rw (eq! l)
      (record {
        definitions = ds;
        count = counted_more u.count (count_of k.body) 1 1 c refl;
        level = l;
        calls = cs ∙ ap counted (sym (calls_also k.body e));
        steps = st;
        sizes = rows;
        pile = tt;
        long_table = lt;
        long_pile = lp;
      })
  grown_whole (o ∷ os) ds c l cs st rows pile lt lp m =
      let i = u.level - 1 in
      let p : i ≡ length os = omega arith in
      let a = innermost u pl in
      let same : a ≡ opened_at pl (length os) = innermost_at u pl ∙ ap (opened_at pl) p in
      let q : counted (a.operands + 1) ≡ counted (count_of o.operands + 1)
      = counted_more a.operands (count_of o.operands) 1 1 (ap (λ (y : Application). y.operands) same ∙ pile.2) refl in
      let g = calls_also o.operands e in
      rw (eq× {a = u.level} {b = 0} (λ z. omega arith))
      (record {
        definitions = ds;
        count = c;
        level = l;
        calls = cs ∙ ap counted (omega arith);
        steps = st ∙ ap counted (omega arith);
        sizes = rows;
        pile =
            pile_put pl i (with_one a) (with_operand o e) os p (omega arith)
            (ap (λ (y : Application). applied_by y.operator) same ∙ pile.0)
            (ap (λ (y : Application). y.at) same ∙ pile.1)
            q
            pile.3;
        long_table = lt;
        long_pile = length-set pl i (with_one a) ∙ lp;
      })

-- ---- an operator, and its application

pub grown_open : (k : Known) (q : ℕ) (f : Operator) (o : S.Operator) (u : Tree) (tb : List Size)
    (pl : List Application) → applied_by f ≡ o → Grown k u tb pl → length k.pile < 16
    → GrownIn (add_operator k q o) tb (open_grove u f q pl)
unfolding open_grove levelled add_operator with_pile calls_open steps_open calls declares_all steps_all count_of
grown_open k q f o u tb pl e h m =
    let l = h.level in
    let lp = h.long_pile in
    let a : Application = record { operator = f; at = q; operands = 0 } in
    record {
      definitions = h.definitions;
      count = h.count;
      level = let z = counted_exact (u.level + 1) (omega arith) in omega arith;
      calls = h.calls ∙ ap counted (omega arith);
      steps = h.steps ∙ ap counted (omega arith);
      sizes = h.sizes;
      pile =
          pile_put pl u.level a (record { operator = o; at = q; operands = none }) k.pile l (omega arith) e refl
          (sym (counted_exact 0 (omega arith))) h.pile;
      long_table = h.long_table;
      long_pile = length-set pl u.level a ∙ lp;
    }

-- the innermost application, where os are the others
pub innermost_is : (k : Known) (u : Tree) (tb : List Size) (pl : List Application) → Grown k u tb pl → (o : Opened)
    (os : List Opened) → k.pile ≡ o ∷ os → innermost u pl ≡ opened_at pl (length os)
innermost_is k u tb pl h o os e =
    let l = h.level in
    let m : length k.pile ≡ suc (length os) = ap (λ (x : List Opened). length x) e in
    let p : u.level - 1 ≡ length os = omega arith in innermost_at u pl ∙ ap (opened_at pl) p

pub grown_close : (k : Known) (f : ℕ) (u : Tree) (tb : List Size) (pl : List Application) → Grown k u tb pl
    → (o : Opened) (os : List Opened) → k.pile ≡ o ∷ os → length k.pile ≤ 16
    → GrownIn (add_expr k f os (apply o.operator o.operands)) tb (close_grove u pl)
unfolding close_grove spent levelled calls_open steps_open steps
grown_close k f u tb pl h o os e m =
    let n : length k.pile ≡ suc (length os) = ap (λ (x : List Opened). length x) e in
    let l = h.level in
    let g = o.operator in
    let es = o.operands in
    let pile : PileIs pl (o ∷ os) = subst (PileIs pl) e h.pile in
    let a = innermost u pl in
    let same = innermost_is k u tb pl h o os e in
    let code : applied_by a.operator ≡ g = ap (λ (y : Application). applied_by y.operator) same ∙ pile.0 in
    let many : a.operands ≡ counted (count_of es) = ap (λ (y : Application). y.operands) same ∙ pile.2 in
    let cs : u.calls ≡ counted (calls_open k.body os + calls es)
    = h.calls ∙ ap (λ (x : List Opened). counted (calls_open k.body x)) e in
    let st : u.steps ≡ counted (steps_open k.body os + steps_all es)
    = h.steps ∙ ap (λ (x : List Opened). counted (steps_open k.body x)) e in
    let c = calls_apply g es in
    let d = own_calls_lem a.operator ∙ ap (λ (y : S.Operator). length (allocates y)) code in
    let r : counted (own_runs a.operator a.operands) ≡ counted (own_steps g (count_of es))
    = ap (λ (y : ℕ). counted (own_runs a.operator y)) many
    ∙ own_runs_lem a.operator (count_of es)
    ∙ ap (λ (y : S.Operator). counted (own_steps y (count_of es))) code in
    grown_whole k f (apply g es) _ tb pl os h.definitions h.count (omega arith)
    (counted_more u.calls (calls_open k.body os + calls es) _ _ cs (ap counted d) ∙ ap counted (omega arith))
    (counted_more u.steps (steps_open k.body os + steps_all es) _ _ st r ∙ ap counted (omega arith))
    h.sizes
    pile.3
    h.long_table
    h.long_pile
    (omega arith)

-- ---- a whole definition

calls_flat : (b : Exprs) (os : List Opened) → length os ≡ 0 → calls_open b os ≡ calls b
unfolding calls_open
calls_flat b [] e = refl
calls_flat b (o ∷ os) e = absurd (omega arith)

steps_flat : (b : Exprs) (os : List Opened) → length os ≡ 0 → steps_open b os ≡ steps_all b
unfolding steps_open
steps_flat b [] e = refl
steps_flat b (o ∷ os) e = absurd (omega arith)

-- one size more
sizes_more : (tb : List Size) (z : Size) (ds : List Definition) (d : Definition) (n : ℕ) → n < length tb
    → n ≡ length ds
    → Sizes tb ds
    → SizeIs z d
    → Sizes (set tb n z) (ds ++ (d ∷ []))
unfolding size_at
sizes_more tb z ds d n few e sizes new j l = by (below j (length ds))
  where
    by : (j < length ds) ⊎ (length ds ≤ j)
        → SizeIs (get_or (set tb n z) j no_size) (get_or (ds ++ (d ∷ [])) j no_definition)
    by (inl m) =
        let q = snoc_less ds d no_definition (length ds) j refl m in
        let p = get_or-set_other tb n j z no_size (λ w. omega arith) in rw (q, p) (sizes j m)
    by (inr m) =
        let a = length-append ds (d ∷ []) in
        let i : j ≡ n = omega arith in
        let q = snoc_last ds d no_definition (length ds) j refl (omega arith) in
        let p = ap (λ (x : ℕ). get_or (set tb n z) x no_size) i ∙ get_or-set_same tb n z no_size few in rw (q, p) new

pub grown_define : (k : Known) (u : Tree) (tb : List Size) (pl : List Application) → Grown k u tb pl → (s : ℕ)
    → s ≡ length k.parameters
    → length k.definitions < 32
    → count_of k.body ≤ 7
    → length k.pile ≡ 0
    → Grown (add_definition k) (defined_tree u) (set tb u.definitions (size_of u s)) pl
unfolding add_definition defined_tree size_of declared running
grown_define k u tb pl h s e few sinks flat =
    let ds = k.definitions in
    let d : Definition = record { parameters = length k.parameters; body = k.body } in
    let m = h.definitions in
    let a = length-append ds (d ∷ []) in
    let g = counted_exact (u.definitions + 1) (omega arith) in
    let long = h.long_table in
    let small : u.definitions < length tb = omega arith in
    let count : u.count ≡ count_of k.body = h.count ∙ counted_exact (count_of k.body) (omega arith) in
    let st : u.steps ≡ counted (steps_all k.body) = h.steps ∙ ap counted (steps_flat k.body k.pile flat) in
    let new : SizeIs (size_of u s) d =
    record {
      parameters = e;
      sinks = count;
      calls = h.calls ∙ ap counted (calls_flat k.body k.pile flat);
      runs = counted_more u.steps (steps_all k.body) u.count (count_of k.body) st (ap counted count);
    } in
    record {
      definitions = omega arith;
      count = h.count;
      level = h.level;
      calls = h.calls;
      steps = h.steps;
      sizes = sizes_more tb _ ds d u.definitions small m h.sizes new;
      pile = h.pile;
      long_table = length-set tb u.definitions (size_of u s) ∙ long;
      long_pile = h.long_pile;
    }
