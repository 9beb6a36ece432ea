-- What the definition knows and what is kept agree after each word: `agree_learn`.
use Rattle.std.specs.Prelude.{ℕ, ◌+◌, ◌-◌, ◌*◌, ◌≤◌, ◌<◌, ◌≡◌, refl, ◌⊎◌}
use Rattle.std.proofs.Common.{sym, ◌∙◌, ap, ap₂, subst, inl}
use Rattle.std.proofs.Common.{inr, arith}
use Rattle.std.specs.Prelude.{Bool, false, List, [], ◌∷◌, length, get_or}
use lib.ListN.{get_or-eq_default}
use Rattle.value.specs.Test.{pick, ◌<?◌, ◌=?◌, ◌and◌, ◌or◌}
use Rattle.value.proofs.Tests.{lt!, lt×, either!, left×, yes, no, below}
use Rattle.haai.specs.declared.Places.{Places}
use Rattle.haai.specs.Places.{Roomy}
use Rattle.haai.specs.declared.Size.{Size}
use Rattle.haai.specs.declared.Application.{Application}
use Rattle.haai.specs.declared.Knowing.{Knowing}
use Rattle.haai.specs.Word.{among, same_word, taken_words, time_bytes}
use Rattle.haai.specs.Syntax as S
use Rattle.haai.specs.Syntax.{sign, Expr, Exprs, constant, count_of, Definition}
use Rattle.haai.specs.declared.Operator.{Operator}
use Rattle.haai.specs.declared.Operator.TheVariants.{Sign, Reactor as AReactor}
use Rattle.haai.specs.Names.{Opened, Known, nothing, unless, meant, fit_operand, operator_of, no_definition}
use Rattle.haai.specs.Names.{definition_of, callable, takes, with_pile, add_expr, add_operator, add_reactor, add_source}
use Rattle.haai.specs.Names.{add_parameter, closed, add_definition, learn}
use Rattle.haai.specs.Emit.{declares, declares_all, calls, steps, steps_all}
use Rattle.haai.specs.Places.{word_of, names_at, sources_in, parameters_in, reactors_in, applied_by, operator_in}
use Rattle.haai.specs.Places.{blamed, Held, held}
use Rattle.haai.specs.Tables.{size_at, counted, innermost, callable_in, takes_in, Grove, grove, grounded, spent, whole_grove, open_grove}
use Rattle.haai.specs.Tables.{first_tally, first_tree, with_names, with_grove, is_parameter}
use Rattle.haai.specs.Tables.{fits_operand, operand_kept, constant_kept, operator_kept, apply_kept, define_kept}
use Rattle.haai.specs.Tables.{learnt, Sizes}
use Rattle.haai.specs.declared.Role.{Role}
use Rattle.haai.specs.declared.Role.TheVariants.{Source, Reactor, Parameter, Operand, Constant}
use Rattle.haai.specs.declared.Role.TheVariants.{Operator as AnOperator, Apply, Define, Fixed}
use Rattle.haai.specs.declared.Tally.{Tally}
use Rattle.haai.specs.declared.Tree.{Tree}
use Rattle.haai.proofs.Formed.{nth}
use Rattle.haai.proofs.Counting.{Ported}
use Rattle.haai.proofs.Placed.{length_names}
use Rattle.haai.proofs.Imaged.{Named, NamedHeld, named_source, named_reactor, named_parameter, operator_same}
use Rattle.haai.proofs.Shallow.{Ready}
use Rattle.haai.proofs.Counts.{counted_exact, counted_more, counted_eq}
use Rattle.haai.proofs.Grown.{calls_open, steps_open, PileIs, Grown}
use Rattle.haai.proofs.Growing.{GrownIn, calls_one, meant_calls, meant_steps, grown_whole, grown_open}
use Rattle.haai.proofs.Growing.{innermost_is, grown_close, grown_define}

pub record Agree (t : List ℕ) (k : Known) (x : Knowing) : Type 0 where
  pub named : Named t k x.tally x.places
  pub grown : Grown k x.tree x.sizes x.pile

agree_names : (t : List ℕ) (k : Known) (x : Knowing) (h : Held) (u : Tree) → NamedHeld t k h
    → Grown k u x.sizes x.pile
    → Agree t k (with_names x h u)
unfolding with_names
agree_names t k x (held v ps) u n g = record { named = n; grown = g }

agree_grove : (t : List ℕ) (k : Known) (x : Knowing) (v : Tally) (g : Grove) → Named t k v x.places
    → GrownIn k x.sizes g
    → Agree t k (with_grove x v g)
unfolding with_grove
agree_grove t k x v (grove u pl) n h = record { named = n; grown = h }

pub agree_begins : (t : List ℕ) (x : Knowing) → x.tally ≡ first_tally (length t) → x.tree ≡ first_tree
    → Roomy x.places
    → length x.sizes ≡ 32
    → length x.pile ≡ 16
    → Agree t (nothing (length t)) x
unfolding nothing names_at calls_open steps_open calls declares_all steps_all count_of
agree_begins t x v u ps tb pl =
    let k = nothing (length t) in
    let z = sym (counted_exact 0 (omega arith)) in
    record {
      named =
          subst (λ (y : Tally). Named t k y x.places) (sym v)
          (record {
            fault = refl;
            sources = refl;
            reactors = refl;
            others = refl;
            parameters = refl;
            at = refl;
            room = ps;
            fits = (omega arith, (omega arith, (omega arith, omega arith)));
          });
      grown =
          subst (λ (y : Tree). Grown k y x.sizes x.pile) (sym u)
          (record {
            definitions = refl;
            count = z;
            level = refl;
            calls = z;
            steps = z;
            sizes = λ j l. absurd (omega arith);
            pile = tt;
            long_table = tb;
            long_pile = pl;
          });
    }

-- ---- names, where only the fault changes

abbrev faulted : ℕ → Tally → Tally
faulted f v =
    record {
      fault = f;
      sources = v.sources;
      reactors = v.reactors;
      names = v.names;
      own = v.own;
      at = v.at;
    }

module _ (t : List ℕ) (k : Known) (v : Tally) (ps : Places) (h : Named t k v ps) where
  named_pile : (f g : ℕ) (b : Exprs) (os : List Opened) → g ≡ f → Named t (with_pile k f b os) (faulted g v) ps
  unfolding with_pile
  named_pile f g b os e =
      record {
        fault = e;
        sources = h.sources;
        reactors = h.reactors;
        others = h.others;
        parameters = h.parameters;
        at = h.at;
        room = h.room;
        fits = h.fits;
      }

  named_expr : (f g : ℕ) (os : List Opened) (e : Expr) → g ≡ f → Named t (add_expr k f os e) (faulted g v) ps
  unfolding add_expr
  named_expr f g [] e q = named_pile f g _ [] q
  named_expr f g (o ∷ os) e q = named_pile f g _ _ q

  named_defined : Named t (add_definition k) v ps
  unfolding add_definition
  named_defined =
      record {
        fault = h.fault;
        sources = h.sources;
        reactors = h.reactors;
        others = h.others;
        parameters = h.parameters;
        at = h.at;
        room = h.room;
        fits = h.fits;
      }

same_fault : {a b : Bool} {p q f g : ℕ} → a ≡ b → p ≡ q → f ≡ g → unless a p f ≡ unless b q g
same_fault {a} {b} {p} {q} {f} {g} d e h =
    ap (λ (x : Bool). unless x p f) d ∙ ap₂ (λ (x y : ℕ). unless b x y) e h

-- ---- operators

none_past : (ds : List Definition) (j : ℕ) → length ds ≤ j → (get_or ds j no_definition).parameters ≡ 0
none_past ds j l = ap (λ (d : Definition). d.parameters) (get_or-eq_default ds no_definition l)

abbrev AllPorted : Known → Type 0
AllPorted k = (j : ℕ) → j < length k.definitions → Ported (nth k.definitions j)

module _ (k : Known) (u : Tree) (tb : List Size) (pl : List Application) (h : Grown k u tb pl) where
  pub callable_same : (o : Operator) → callable_in u.definitions tb o ≡ callable k (applied_by o)
  unfolding applied_by callable definition_of callable_in
  callable_same (Sign o) = refl
  callable_same (AReactor j) = by (below j (length k.definitions))
    where
      by : (j < length k.definitions) ⊎ (length k.definitions ≤ j)
          → ((j <? u.definitions) and ((size_at tb j).sinks =? 1))
          ≡ ((j <? length k.definitions) and (count_of (get_or k.definitions j no_definition).body =? 1))
      by (inl m) = ap₂ (λ (x y : ℕ). (j <? x) and (y =? 1)) h.definitions (h.sizes j m).sinks
      by (inr m) = let e = h.definitions in left× _ (lt× (omega arith)) ∙ sym (left× _ (lt× m))

  pub takes_same : (o : Operator) → takes_in u.definitions tb o ≡ takes k (applied_by o)
  unfolding applied_by takes_in takes definition_of
  takes_same (Sign o) = refl
  takes_same (AReactor j) = sym (by (below j (length k.definitions)))
    where
      by : (j < length k.definitions) ⊎ (length k.definitions ≤ j)
          → (get_or k.definitions j no_definition).parameters
          ≡ pick (j <? u.definitions) (size_at tb j).parameters 0
      by (inl m) = let d = h.definitions in yes 0 (lt! (omega arith)) (sym (h.sizes j m).parameters)
      by (inr m) =
          let d = h.definitions in
          no _ (lt× (omega arith)) (none_past k.definitions j m)

takes_small : (k : Known) → AllPorted k → (o : S.Operator) → takes k o < 200
unfolding takes definition_of
takes_small k done (sign o) = omega arith
takes_small k done (S.reactor j) = by (below j (length k.definitions))
  where
    by : (j < length k.definitions) ⊎ (length k.definitions ≤ j)
        → (get_or k.definitions j no_definition).parameters < 200
    by (inl m) = let a = (done j m).0 in omega arith
    by (inr m) = let a = none_past k.definitions j m in omega arith

-- ---- a word in its role

-- the tree does not look at names
grown_by : (k k₂ : Known) (u : Tree) (tb : List Size) (pl : List Application) → k.definitions ≡ k₂.definitions → k.body ≡ k₂.body
    → k.pile ≡ k₂.pile
    → Grown k u tb pl
    → Grown k₂ u tb pl
grown_by k k₂ u tb pl d b p h =
    record {
      definitions = h.definitions ∙ ap length d;
      count = h.count ∙ ap (λ (x : Exprs). counted (count_of x)) b;
      level = h.level ∙ ap length p;
      calls = h.calls ∙ ap₂ (λ (x : Exprs) (y : List Opened). counted (calls_open x y)) b p;
      steps = h.steps ∙ ap₂ (λ (x : Exprs) (y : List Opened). counted (steps_open x y)) b p;
      sizes = subst (Sizes tb) d h.sizes;
      pile = subst (PileIs pl) p h.pile;
      long_table = h.long_table;
      long_pile = h.long_pile;
    }

module _ (t : List ℕ) (a : ℕ) (k : Known) (x : Knowing) (g : Agree t k x) where
  abbrev w : List ℕ
  w = word_of t a

  abbrev v : Tally
  v = x.tally

  abbrev u : Tree
  u = x.tree

  agree_source : length k.sources < 31 → Agree t (learn k a w Source) (learnt t a w x Source)
  unfolding learn learnt add_source
  agree_source l =
      let n = g.named in
      let c = length_names t x.places.sources v.sources 0 in
      let d = ap (λ (y : List (List ℕ)). length y) n.sources in
      agree_names t _ x _ u (named_source t a k v x.places n (omega arith))
      (grown_by k _ u x.sizes x.pile refl refl refl g.grown)

  agree_reactor : length k.reactors < 32 → Agree t (learn k a w Reactor) (learnt t a w x Reactor)
  unfolding learn learnt add_reactor grounded calls_open steps_open calls declares_all steps_all count_of
  agree_reactor l =
      let n = g.named in
      let h = g.grown in
      let c = length_names t x.places.reactors v.reactors 0 in
      let d = ap (λ (y : List (List ℕ)). length y) n.reactors in
      let z = sym (counted_exact 0 (omega arith)) in
      agree_names t _ x _ _ (named_reactor t a k v x.places n (omega arith))
      (record {
        definitions = h.definitions;
        count = z;
        level = refl;
        calls = z;
        steps = z;
        sizes = h.sizes;
        pile = tt;
        long_table = h.long_table;
        long_pile = h.long_pile;
      })

  agree_parameter : length k.others < 224 → Agree t (learn k a w Parameter) (learnt t a w x Parameter)
  unfolding learn learnt add_parameter
  agree_parameter l =
      let n = g.named in
      let c = length_names t x.places.parameters v.names 0 in
      let d = ap (λ (y : List (List ℕ)). length y) n.others in
      agree_names t _ x _ u (named_parameter t a k v x.places n (omega arith))
      (grown_by k _ u x.sizes x.pile refl refl refl g.grown)

  parameter_same : is_parameter t w x ≡ among k.parameters w
  unfolding is_parameter parameters_in
  parameter_same = ap (λ (y : List (List ℕ)). among y w) g.named.parameters

  operand_fits : fits_operand t w x ≡ fit_operand k w
  unfolding fits_operand fit_operand sources_in
  operand_fits =
      let time = same_word time_bytes w in
      let sources = names_at t x.places.sources 0 v.sources in
      ap (λ (b : Bool). b or (among sources w or time)) parameter_same
      ∙ ap (λ (y : List (List ℕ)). among k.parameters w or (among y w or time)) g.named.sources

  -- an expression of one word, with no AllocMono and r R commands
  agree_expr : (f : ℕ) (e : Expr) (v₂ : Tally) (r : ℕ) → Named t (add_expr k f k.pile e) v₂ x.places
      → calls_one e ≡ 0
      → r ≡ steps e
      → length k.pile ≤ 16
      → Agree t (add_expr k f k.pile e) (with_grove x v₂ (whole_grove (spent u 0 r) x.pile))
  unfolding spent
  agree_expr f e v₂ r n c s l =
      let h = g.grown in
      agree_grove t _ x v₂ _ n
      (grown_whole k f e (spent u 0 r) x.sizes x.pile k.pile h.definitions h.count h.level
      (counted_more u.calls _ 0 (calls_one e) h.calls (ap counted (sym c)))
      (counted_more u.steps _ r (steps e) h.steps (ap counted s))
      h.sizes
      h.pile
      h.long_table
      h.long_pile
      l)

  agree_operand : length k.pile ≤ 16 → Agree t (learn k a w Operand) (learnt t a w x Operand)
  unfolding learn learnt operand_kept blamed
  agree_operand l =
      agree_expr _ (meant k w) _ (pick (is_parameter t w x) 0 1)
      (named_expr t k v x.places g.named _ _ k.pile (meant k w)
      (same_fault operand_fits refl g.named.fault))
      (meant_calls k w)
      (ap (λ (b : Bool). pick b 0 1) parameter_same ∙ sym (meant_steps k w))
      l

  agree_constant : (n : ℕ) → length k.pile ≤ 16 → Agree t (learn k a w (Constant n)) (learnt t a w x (Constant n))
  unfolding learn learnt constant_kept declares steps
  agree_constant n l =
      agree_expr k.fault (constant n) v 1
      (named_expr t k v x.places g.named k.fault v.fault k.pile (constant n) g.named.fault)
      refl
      refl
      l

  agree_operator : length k.pile < 16 → Agree t (learn k a w AnOperator) (learnt t a w x AnOperator)
  unfolding learn learnt operator_kept blamed add_operator reactors_in
  agree_operator l =
      let h = g.grown in
      let o = operator_of k w in
      let f = operator_in (names_at t x.places.reactors 0 v.reactors) w in
      let e : applied_by f ≡ o
      = ap (λ (y : List (List ℕ)). applied_by (operator_in y w)) g.named.reactors ∙ operator_same k w in
      agree_grove t (add_operator k a o) x _ _
      (named_pile t k v x.places g.named _ _ k.body _
      (same_fault (callable_same k u x.sizes x.pile h f ∙ ap (callable k) e) refl g.named.fault))
      (grown_open k a f o u x.sizes x.pile e h l)

  agree_close : AllPorted k → length k.pile ≤ 16 → (o : Opened) (os : List Opened) → k.pile ≡ o ∷ os
      → Agree t (closed k (o ∷ os)) (apply_kept x)
  unfolding apply_kept blamed closed
  agree_close done l o os e =
      let h = g.grown in
      let f = o.operator in
      let pile : PileIs x.pile (o ∷ os) = subst (PileIs x.pile) e h.pile in
      let b = innermost u x.pile in
      let same = innermost_is k u x.sizes x.pile h o os e in
      let code : applied_by b.operator ≡ f = ap (λ (y : Application). applied_by y.operator) same ∙ pile.0 in
      let many = ap (λ (y : Application). y.operands) same ∙ pile.2 in
      let takes_eq = takes_same k u x.sizes x.pile h b.operator ∙ ap (takes k) code in
      let test = ap₂ (λ (y z : ℕ). y =? z) many takes_eq
      ∙ counted_eq (count_of o.operands) (takes k f) (takes_small k done f) in
      agree_grove t _ x _ _
      (named_expr t k v x.places g.named _ _ os _
      (same_fault test (ap (λ (y : Application). y.at) same ∙ pile.1) g.named.fault))
      (grown_close k _ u x.sizes x.pile h o os e l)

  agree_apply : AllPorted k → Ready k Apply → Agree t (learn k a w Apply) (learnt t a w x Apply)
  unfolding learn learnt
  agree_apply done l = by k.pile refl
    where
      by : (os : List Opened) → k.pile ≡ os → Agree t (closed k os) (apply_kept x)
      by [] e = let z = ap (λ (y : List Opened). length y) e in let m = l.0 in absurd (omega arith)
      by (o ∷ os) e = agree_close done l.1 o os e

  agree_define : Ready k Define → Agree t (learn k a w Define) (learnt t a w x Define)
  unfolding learn learnt define_kept
  agree_define l =
      let c = length_names t x.places.parameters (v.names - v.own) v.own in
      let d = ap (λ (y : List (List ℕ)). length y) g.named.parameters in
      record {
        named = named_defined t k v x.places g.named;
        grown = grown_define k u x.sizes x.pile g.grown _ (sym c ∙ d) l.0 l.2 l.3;
      }

  agree_fixed : Agree t (learn k a w Fixed) (learnt t a w x Fixed)
  unfolding learn learnt
  agree_fixed = g

  pub agree_learn : AllPorted k → (r : Role) → Ready k r
      → Agree t (learn k a w r) (learnt t a w x r)
  agree_learn done Source l = agree_source l
  agree_learn done Reactor l = agree_reactor l
  agree_learn done Parameter l = agree_parameter l
  agree_learn done Operand l = agree_operand l
  agree_learn done (Constant n) l = agree_constant n l
  agree_learn done AnOperator l = agree_operator l
  agree_learn done Apply l = agree_apply done l
  agree_learn done Define l = agree_define l
  agree_learn done Fixed l = agree_fixed
