-- Where the pass over names finds no fault, the tree is well-formed. `Sane` holds after any words in their roles.
use Rattle.std.specs.Prelude.{ℕ, ◌≤◌, ◌<◌, ◌≡◌, refl, ◌⊎◌, Bool, true, false, not, List, [], ◌∷◌, ◌++◌}
use Rattle.std.proofs.Common.{inl, inr}
use Rattle.std.specs.Prelude.{length}
use Rattle.std.proofs.Common.{arith}
use lib.ListN.{length-append}
use Rattle.value.specs.Test.{pick, ◌<?◌, ◌=?◌, guard}
use Rattle.value.proofs.Tests.{not_false, lt?, lt×?, eq?, both?, pick_any, below}
use Rattle.haai.specs.Word.{position, among, signs}
use Rattle.haai.specs.Grammar.{Item}
use Rattle.haai.specs.Syntax as S
use Rattle.haai.specs.Syntax.{Operator, sign, Expr, Exprs, parameter, global, constant, apply, none, also}
use Rattle.haai.specs.Syntax.{Definition}
use Rattle.haai.specs.Names.{Opened, Known, nothing, unless, fresh, meant, fit_operand, operator_of, no_definition}
use Rattle.haai.specs.Names.{definition_of, callable, takes, add_source, add_reactor, add_parameter, with_pile}
use Rattle.haai.specs.Names.{with_operand, add_expr, add_operator, closed, add_definition, learn, learn_all}
use Rattle.haai.specs.declared.Role.{Role}
use Rattle.haai.specs.declared.Role.TheVariants.{Source, Reactor, Parameter, Operand, Constant}
use Rattle.haai.specs.declared.Role.TheVariants.{Operator as AnOperator, Apply, Define, Fixed}
use Rattle.haai.proofs.Lists.{snoc_less, snoc_last}
use Rattle.haai.proofs.Formed.{nth, FitOperator, Fit, FitAll}

-- ---- the lowest fault

unless_le : (t : Bool) (q f : ℕ) → unless t q f ≤ f
unfolding unless
unless_le t q f =
    pick_any (λ x. x ≤ f) t (λ e. omega arith)
    (λ e. pick_any (λ x. x ≤ f) (q <? f) (λ l. let h : q < f = lt? l in omega arith) (λ l. omega arith))

pub unless_clean : (t : Bool) (q f n : ℕ) → q < n → f ≤ n → unless t q f ≡ n → (t ≡ true) × (f ≡ n)
unfolding unless pick
unless_clean true q f n h l e = (refl, e)
unless_clean false q f n h l e =
    absurd (pick_any (λ x. x ≡ n → ⊥) (q <? f) (λ m z. omega arith) (λ m z. let w : f ≤ q = lt×? m in omega arith) e)

-- ---- more definitions, sources, parameters

module _ (ds es : List Definition) (g h s t k l : ℕ) (same : (j : ℕ) → j < k → nth es j ≡ nth ds j) (gh : g ≤ h)
    (st : s ≤ t) (kl : k ≤ l) where
  operator_on : (f : Operator) (n : ℕ) → FitOperator ds g s k f n → FitOperator es h t l f n
  operator_on (sign o) n q = q
  operator_on (S.reactor j) n q = let e = same j q.0 in (let w = q.0 in omega arith, rw e q.1, rw e q.2)

  mutual
    fit_on : (e : Expr) → Fit ds g s k e → Fit es h t l e
    fit_on (parameter i) q = omega arith
    fit_on (global x) q = omega arith
    fit_on (constant n) q = q
    fit_on (apply f xs) q = (fit_all_on xs q.0, operator_on f (S.count_of xs) q.1)

    fit_all_on : (xs : Exprs) → FitAll ds g s k xs → FitAll es h t l xs
    fit_all_on none q = tt
    fit_all_on (also xs e) q = (fit_all_on xs q.0, fit_on e q.1)

-- ---- what is known

abbrev CallFit : List Definition → Operator → Type 0
CallFit ds (sign o) = o < 4
CallFit ds (S.reactor j) = (j < length ds) × (S.count_of (nth ds j).body ≡ 1)

-- an open application, among definitions ds, g sources and s parameters
abbrev OpenFit : List Definition → ℕ → ℕ → Opened → Type 0
OpenFit ds g s o = FitAll ds g s (length ds) o.operands × CallFit ds o.operator

abbrev pub EveryOpen : (Opened → Type 0) → List Opened → Type 0
EveryOpen P [] = Unit {0}
EveryOpen P (o ∷ os) = P o × EveryOpen P os

every_open : (P Q : Opened → Type 0) → ((o : Opened) → P o → Q o) → (os : List Opened) → EveryOpen P os → EveryOpen Q os
every_open P Q f [] q = tt
every_open P Q f (o ∷ os) q = (f o q.0, every_open P Q f os q.1)

abbrev Here : Known → Exprs → Type 0
Here k xs = FitAll k.definitions (length k.sources) (length k.parameters) (length k.definitions) xs

abbrev pub Now : Known → Expr → Type 0
Now k e = Fit k.definitions (length k.sources) (length k.parameters) (length k.definitions) e

pub record Clean (k : Known) : Type 0 where
  pub bodies : (j : ℕ) → j < length k.definitions
      → FitAll k.definitions (length k.sources) (nth k.definitions j).parameters j
      (nth k.definitions j).body
  pub body : Here k k.body
  pub pile : EveryOpen (OpenFit k.definitions (length k.sources) (length k.parameters)) k.pile

pub record Sane (n : ℕ) (k : Known) : Type 0 where
  pub most : k.fault ≤ n
  pub places : EveryOpen (λ o. o.at < n) k.pile
  pub clean : k.fault ≡ n → Clean k

-- a whole expression
add_expr_sane : (n : ℕ) (k : Known) (f : ℕ) (os : List Opened) (e : Expr) → f ≤ n → EveryOpen (λ o. o.at < n) os
    → (f ≡ n → Clean k × EveryOpen (OpenFit k.definitions (length k.sources) (length k.parameters)) os
    × Now k e)
    → Sane n (add_expr k f os e)
unfolding add_expr with_pile with_operand
add_expr_sane n k f [] e most places clean =
    record {
      most = most;
      places = tt;
      clean = λ z. let c = clean z in record { bodies = c.0.bodies; body = (c.0.body, c.2); pile = tt };
    }
add_expr_sane n k f (o ∷ os) e most places clean =
    record {
      most = most;
      places = places;
      clean = λ z.
          let c = clean z in
          record { bodies = c.0.bodies; body = c.0.body; pile = (((c.1.0.0, c.2), c.1.0.1), c.1.1) };
    }

pub guard_any : {A : Type 0} (Q : A → Type 0) (t : Bool) (bad : A) (more : Unit {0} → A) → (t ≡ true → Q (more tt))
    → (t ≡ false → Q bad) → Q (guard t bad more)
unfolding guard
guard_any Q true bad more f g = f refl
guard_any Q false bad more f g = g refl

meant_fits : (k : Known) (w : List ℕ) → Now k (meant k w)
unfolding meant among
meant_fits k w =
    guard_any (Now k) (not (among k.parameters w)) _ _
    (λ e. guard_any (Now k) (not (among k.sources w)) _ _ (λ e. omega arith)
    (λ e. let h : position k.sources w < length k.sources = lt? (not_false _ e) in omega arith))
    (λ e. lt? (not_false _ e))

-- the same, among more
module _ (ds es : List Definition) (g h s t : ℕ) (same : (j : ℕ) → j < length ds → nth es j ≡ nth ds j) (gh : g ≤ h)
    (st : s ≤ t) (more : length ds ≤ length es) where
  call_on : (f : Operator) → CallFit ds f → CallFit es f
  call_on (sign o) r = r
  call_on (S.reactor j) r = let e = same j r.0 in (let w = r.0 in omega arith, rw e r.1)

  open_on : (os : List Opened) → EveryOpen (OpenFit ds g s) os → EveryOpen (OpenFit es h t) os
  open_on =
      every_open (OpenFit ds g s) (OpenFit es h t) (λ o r. (
        fit_all_on ds es g h s t (length ds) (length es) same gh st more o.operands r.0,
        call_on o.operator r.1,
      ))

module _ (n : ℕ) (k : Known) (q : ℕ) (w : List ℕ) (h : q < n) (sane : Sane n k) where
  abbrev ds : List Definition
  ds = k.definitions

  abbrev g : ℕ
  g = length k.sources

  abbrev s : ℕ
  s = length k.parameters

  lower_fault : (t : Bool) → unless t q k.fault ≤ n
  lower_fault t = let a = unless_le t q k.fault in let b = sane.most in omega arith

  was_clean : (t : Bool) → unless t q k.fault ≡ n → (t ≡ true) × Clean k
  was_clean t z = let c = unless_clean t q k.fault n h sane.most z in (c.0, sane.clean c.1)

  operator_fits : callable k (operator_of k w) ≡ true → CallFit ds (operator_of k w)
  unfolding operator_of among callable definition_of
  operator_fits e =
      guard_any (λ o. callable k o ≡ true → CallFit ds o) (not (among signs w)) _ _
      (λ z c. let b = both? c in (lt? b.0, eq? b.1))
      (λ z c. lt? (not_false _ z)) e

  more_sources : g ≤ length (k.sources ++ (w ∷ []))
  more_sources = let a = length-append k.sources (w ∷ []) in omega arith

  more_parameters : s ≤ length (k.parameters ++ (w ∷ []))
  more_parameters = let a = length-append k.parameters (w ∷ []) in omega arith

  source_sane : Sane n (add_source k q w)
  unfolding add_source
  source_sane =
      record {
        most = lower_fault (fresh k.sources w);
        places = sane.places;
        clean = λ z.
            let c = (was_clean (fresh k.sources w) z).1 in
            let g₂ = length (k.sources ++ (w ∷ [])) in
            record {
              bodies =
                  λ j l. fit_all_on ds ds g g₂ (nth ds j).parameters (nth ds j).parameters j j (λ i m. refl)
                  more_sources (omega arith) (omega arith) (nth ds j).body (c.bodies j l);
              body =
                  fit_all_on ds ds g g₂ s s (length ds) (length ds) (λ i m. refl) more_sources (omega arith)
                  (omega arith) k.body c.body;
              pile = open_on ds ds g g₂ s s (λ i m. refl) more_sources (omega arith) (omega arith) k.pile c.pile;
            };
      }

  reactor_sane : Sane n (add_reactor k q w)
  unfolding add_reactor
  reactor_sane =
      record {
        most = lower_fault (fresh (k.sources ++ (k.reactors ++ k.others)) w);
        places = tt;
        clean = λ z.
            let c = (was_clean (fresh (k.sources ++ (k.reactors ++ k.others)) w) z).1 in
            record { bodies = c.bodies; body = tt; pile = tt };
      }

  parameter_sane : Sane n (add_parameter k q w)
  unfolding add_parameter
  parameter_sane =
      let t = fresh (k.sources ++ (k.reactors ++ k.parameters)) w in
      record {
        most = lower_fault t;
        places = sane.places;
        clean = λ z.
            let c = (was_clean t z).1 in
            let s₂ = length (k.parameters ++ (w ∷ [])) in
            record {
              bodies = c.bodies;
              body =
                  fit_all_on ds ds g g s s₂ (length ds) (length ds) (λ i m. refl) (omega arith) more_parameters
                  (omega arith) k.body c.body;
              pile =
                  open_on ds ds g g s s₂ (λ i m. refl) (omega arith) more_parameters (omega arith) k.pile c.pile;
            };
      }

  operand_sane : Sane n (add_expr k (unless (fit_operand k w) q k.fault) k.pile (meant k w))
  operand_sane =
      add_expr_sane n k (unless (fit_operand k w) q k.fault) k.pile (meant k w) (lower_fault (fit_operand k w))
      sane.places (λ z. let c = (was_clean (fit_operand k w) z).1 in (c, c.pile, meant_fits k w))

  constant_sane : (v : ℕ) → v < 4294967296 → Sane n (add_expr k k.fault k.pile (constant v))
  constant_sane v l =
      add_expr_sane n k k.fault k.pile (constant v) sane.most sane.places
      (λ z. let c = sane.clean z in (c, c.pile, l))

  operator_sane : Sane n (add_operator k q (operator_of k w))
  unfolding add_operator with_pile
  operator_sane =
      let t = callable k (operator_of k w) in
      record {
        most = lower_fault t;
        places = (h, sane.places);
        clean = λ z.
            let c = was_clean t z in
            record { bodies = c.1.bodies; body = c.1.body; pile = ((tt, operator_fits c.0), c.1.pile) };
      }

-- an application is closed
fits_count : (k : Known) (f : Operator) (m g s : ℕ) → CallFit k.definitions f → m ≡ takes k f
    → FitOperator k.definitions g s (length k.definitions) f m
unfolding takes definition_of
fits_count k (sign o) m g s r e = (r, e)
fits_count k (S.reactor j) m g s r e = (r.0, e, r.1)

closed_sane : (n : ℕ) (k : Known) → Sane n k → (os : List Opened) → k.pile ≡ os → Sane n (closed k os)
unfolding closed
closed_sane n k sane [] e = sane
closed_sane n k sane (o ∷ os) e =
    let pl : EveryOpen (λ o. o.at < n) (o ∷ os) = rw e at sane.places in
    let t = S.count_of o.operands =? takes k o.operator in
    add_expr_sane n k (unless t o.at k.fault) os (apply o.operator o.operands)
    (let a = unless_le t o.at k.fault in let b = sane.most in omega arith) pl.1
    (λ z.
    let u = unless_clean t o.at k.fault n pl.0 sane.most z in
    let c = sane.clean u.1 in
    let g = length k.sources in
    let s = length k.parameters in
    let pc : EveryOpen (OpenFit k.definitions g s) (o ∷ os) = rw e at c.pile in
    (c, pc.1, (pc.0.0, fits_count k o.operator (S.count_of o.operands) g s pc.0.1 (eq? u.0))))

-- one definition more
module _ (k : Known) (c : Clean k) where
  abbrev d : Definition
  d = record { parameters = length k.parameters; body = k.body }

  abbrev old : List Definition
  old = k.definitions

  abbrev new : List Definition
  new = old ++ (d ∷ [])

  abbrev gs : ℕ
  gs = length k.sources

  abbrev ps : ℕ
  ps = length k.parameters

  as_old : (j : ℕ) → j < length old → nth new j ≡ nth old j
  as_old j l = snoc_less old d no_definition (length old) j refl l

  longer : length old ≤ length new
  longer = let a = length-append old (d ∷ []) in omega arith

  body_of : (j : ℕ) → (j < length old) ⊎ (length old ≤ j) → j < length new
      → FitAll new gs (nth new j).parameters j (nth new j).body
  body_of j (inl m) l =
      let e = as_old j m in
      let p = (nth old j).parameters in
      rw e
      (fit_all_on old new gs gs p p j j (λ i u. as_old i (omega arith)) (omega arith) (omega arith) (omega arith)
      (nth old j).body (c.bodies j m))
  body_of j (inr m) l =
      let a = length-append old (d ∷ []) in
      let z : j ≡ length old = omega arith in
      let e : nth new j ≡ d = snoc_last old d no_definition (length old) j refl z in
      rw e
      (fit_all_on old new gs gs ps ps (length old) j as_old (omega arith) (omega arith) (omega arith) k.body
      c.body)

  grown : Clean (add_definition k)
  unfolding add_definition
  grown =
      record {
        bodies = λ j l. body_of j (below j (length old)) l;
        body =
            fit_all_on old new gs gs ps ps (length old) (length new) as_old (omega arith) (omega arith) longer k.body
            c.body;
        pile = open_on old new gs gs ps ps as_old (omega arith) (omega arith) longer k.pile c.pile;
      }

definition_sane : (n : ℕ) (k : Known) → Sane n k → Sane n (add_definition k)
unfolding add_definition
definition_sane n k sane = record { most = sane.most; places = sane.places; clean = λ z. grown k (sane.clean z) }

-- a constant is a word of 32 bits
abbrev pub RoleOk : Role → Type 0
RoleOk Source = Unit {0}
RoleOk Reactor = Unit {0}
RoleOk Parameter = Unit {0}
RoleOk Operand = Unit {0}
RoleOk (Constant v) = v < 4294967296
RoleOk AnOperator = Unit {0}
RoleOk Apply = Unit {0}
RoleOk Define = Unit {0}
RoleOk Fixed = Unit {0}

pub learn_sane : (n : ℕ) (k : Known) (q : ℕ) (w : List ℕ) (r : Role) → q < n → RoleOk r → Sane n k
    → Sane n (learn k q w r)
unfolding learn
learn_sane n k q w Source h o sane = source_sane n k q w h sane
learn_sane n k q w Reactor h o sane = reactor_sane n k q w h sane
learn_sane n k q w Parameter h o sane = parameter_sane n k q w h sane
learn_sane n k q w Operand h o sane = operand_sane n k q w h sane
learn_sane n k q w (Constant v) h o sane = constant_sane n k q w h sane v o
learn_sane n k q w AnOperator h o sane = operator_sane n k q w h sane
learn_sane n k q w Apply h o sane = closed_sane n k sane k.pile refl
learn_sane n k q w Define h o sane = definition_sane n k sane
learn_sane n k q w Fixed h o sane = sane

abbrev pub ItemsOk : ℕ → List Item → Type 0
ItemsOk n [] = Unit {0}
ItemsOk n (i ∷ is) = ((i.word.at < n) × RoleOk i.role) × ItemsOk n is

pub learn_all_sane : (n : ℕ) (is : List Item) (k : Known) → ItemsOk n is → Sane n k → Sane n (learn_all k is)
unfolding learn_all
learn_all_sane n [] k ok sane = sane
learn_all_sane n (i ∷ is) k ok sane =
    learn_all_sane n is (learn k i.word.at i.word.bytes i.role) ok.1
    (learn_sane n k i.word.at i.word.bytes i.role ok.0.0 ok.0.1 sane)

pub nothing_sane : (n : ℕ) → Sane n (nothing n)
unfolding nothing
nothing_sane n =
    record {
      most = omega arith;
      places = tt;
      clean = λ z. record { bodies = λ j l. absurd (omega arith); body = tt; pile = tt };
    }
