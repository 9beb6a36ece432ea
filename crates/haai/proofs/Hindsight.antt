-- What holds of the words so far if the text turns out well: no fault, rows that are exact, and inside a definition no
-- more commands than its rows say. `Good` of what is known after a word gives `Good` of what was known before it.
use Rattle.std.specs.Prelude.{ℕ, ◌+◌, ◌≤◌, ◌<◌, ◌≡◌, refl, List, [], ◌∷◌, ◌++◌, length, ◌⊎◌}
use Rattle.std.proofs.Common.{sym, ap, arith, subst}
use Rattle.std.proofs.Common.{inl, inr}
use Rattle.std.specs.Prelude.{Bool}
use lib.ListN.{length-append, get_or-eq_default}
use Rattle.value.specs.Test.{◌=?◌}
use Rattle.value.proofs.Tests.{eq?, below}
use Rattle.program.specs.Bytes.{byte}
use Rattle.haai.specs.declared.Size.{Size}
use Rattle.haai.specs.Tables.{size_at}
use Rattle.haai.specs.Syntax.{Operator, sign, reactor, Expr, Exprs, constant, apply, count_of, Definition}
use Rattle.haai.specs.Names.{Opened, Known, unless, fresh, meant, fit_operand, operator_of, no_definition}
use Rattle.haai.specs.Names.{definition_of, callable, takes, add_source, add_reactor, add_parameter, with_pile}
use Rattle.haai.specs.Names.{add_expr, add_operator, closed, add_definition, learn}
use Rattle.haai.specs.Emit.{allocates, steps, declared, running}
use Rattle.haai.specs.declared.Role.{Role}
use Rattle.haai.specs.declared.Role.TheVariants.{Source, Reactor, Parameter, Operand, Constant}
use Rattle.haai.specs.declared.Role.TheVariants.{Operator as AnOperator, Apply, Define, Fixed}
use Rattle.haai.proofs.Lists.{snoc_less, snoc_last}
use Rattle.haai.proofs.Formed.{nth}
use Rattle.haai.proofs.Fitting.{EveryOpen, Sane, unless_clean}
use Rattle.haai.proofs.Grown.{calls_open, steps_open}
use Rattle.haai.proofs.Shallow.{Ready}
use Rattle.haai.proofs.Emitting.{emitted_d, body_with, pile_with, add_expr_is, more_calls, more_steps, length_d}
use Rattle.haai.proofs.Emitting.{whole_d}
use Rattle.haai.proofs.Noting.{FewOpen, few_before}
use Rattle.haai.proofs.Apt.{Inside, Outside, Apt}

pub none_in : {A : Type 0} (xs : List A) → length xs ≡ 0 → xs ≡ []
none_in [] e = refl
none_in (x ∷ xs) e = absurd (omega arith)

-- row j is exact, and within the limits
pub record Exact (sizes : List Size) (d : Definition) (j : ℕ) : Type 0 where
  pub calls : (size_at sizes j).declared ≡ declared d
  pub runs : (size_at sizes j).running ≡ running d
  pub few_d : declared d ≤ 32
  pub few_r : running d ≤ 128

-- inside definition j, with the body b and the open applications os so far
pub record Midst (count : ℕ) (sizes : List Size) (j : ℕ) (b : Exprs) (os : List Opened) : Type 0 where
  pub more : j < count
  pub calls : calls_open b os ≤ (size_at sizes j).declared
  pub steps : steps_open b os ≤ (size_at sizes j).running
  pub few_d : (size_at sizes j).declared ≤ 32
  pub few_r : (size_at sizes j).running ≤ 128
  pub few : FewOpen b os

module _ (n count : ℕ) (sizes : List Size) where
  pub record Good (k : Known) : Type 0 where
    pub clean : k.fault ≡ n
    pub exact : (j : ℕ) → j < length k.definitions → Exact sizes (nth k.definitions j) j
    pub most : length k.definitions ≤ count
    pub inside : Inside k → Midst count sizes (length k.definitions) k.body k.pile

  -- one expression fewer
  midst_before : (j : ℕ) (b : Exprs) (os : List Opened) (e : Expr)
      → Midst count sizes j (body_with b os e) (pile_with os e) → Midst count sizes j b os
  midst_before j b os e m =
      let l = m.calls in
      let r = m.steps in
      let c = more_calls b os e in
      let d = more_steps b os e in
      record {
        more = m.more;
        calls = omega arith;
        steps = omega arith;
        few_d = m.few_d;
        few_r = m.few_r;
        few = (few_before b os e m.few).0;
      }

  -- an application that was open
  midst_open : (j : ℕ) (b : Exprs) (o : Opened) (os : List Opened) → count_of o.operands ≤ 7
      → Midst count sizes j (body_with b os (apply o.operator o.operands))
      (pile_with os (apply o.operator o.operands))
      → Midst count sizes j b (o ∷ os)
  unfolding steps_open steps
  midst_open j b o os seven m =
      let whole = apply o.operator o.operands in
      let l = m.calls in
      let r = m.steps in
      let w = length_d (body_with b os whole) (pile_with os whole) in
      let x = ap length (whole_d b o os) in
      let y = length_d b (o ∷ os) in
      let u = length-append (emitted_d b (o ∷ os)) (allocates o.operator) in
      let d = more_steps b os whole in
      record {
        more = m.more;
        calls = omega arith;
        steps = omega arith;
        few_d = m.few_d;
        few_r = m.few_r;
        few = (seven, (few_before b os whole m.few).0);
      }

  module _ (k : Known) (f : ℕ) (clean : f ≡ n → k.fault ≡ n) where
    -- os are the applications around the expression, and `before` says what is open before its last word
    pile_before : (os : List Opened) (e : Expr)
        → (f ≡ n → Midst count sizes (length k.definitions) (body_with k.body os e) (pile_with os e)
        → Midst count sizes (length k.definitions) k.body k.pile)
        → Good (add_expr k f os e) → Good k
    unfolding with_pile
    pile_before os e before h =
        let g = subst Good (add_expr_is k f os e) h in
        record {
          clean = clean g.clean;
          exact = g.exact;
          most = g.most;
          inside = λ i. before g.clean (g.inside i);
        }

    expression_before : (e : Expr) → Good (add_expr k f k.pile e) → Good k
    expression_before e = pile_before k.pile e (λ z. midst_before (length k.definitions) k.body k.pile e)

    applied_before : (o : Opened) (os : List Opened) → k.pile ≡ o ∷ os → (f ≡ n → count_of o.operands ≤ 7)
        → Good (add_expr k f os (apply o.operator o.operands)) → Good k
    applied_before o os e seven =
        pile_before os (apply o.operator o.operands)
        (λ z m.
        subst (Midst count sizes (length k.definitions) k.body) (sym e)
        (midst_open (length k.definitions) k.body o os (seven z) m))

  -- a definition that is whole, with nothing open
  definition_before : (k : Known) → length k.pile ≡ 0 → count_of k.body ≤ 7 → Good (add_definition k) → Good k
  unfolding add_definition calls_open steps_open declared running
  definition_before k bare seven g =
      let ds = k.definitions in
      let d : Definition = record { parameters = length k.parameters; body = k.body } in
      let j = length ds in
      let long = length-append ds (d ∷ []) in
      let most = g.most in
      let last : Exact sizes d j =
      subst (λ (x : Definition). Exact sizes x j) (snoc_last ds d no_definition j j refl refl)
      (g.exact j (omega arith))
      in
      let a = last.calls in
      let b = last.runs in
      let e = none_in k.pile bare in
      let few_d = last.few_d in
      let few_r = last.few_r in
      record {
        clean = g.clean;
        exact = λ i l.
            subst (λ (x : Definition). Exact sizes x i) (snoc_less ds d no_definition j i refl l)
            (g.exact i (omega arith));
        most = omega arith;
        inside = λ i.
            record {
              more = omega arith;
              calls = rw e (omega arith);
              steps = rw e (omega arith);
              few_d = omega arith;
              few_r = omega arith;
              few = rw e seven;
            };
      }

  module _ (k : Known) (q : ℕ) (w : List ℕ) (h : q < n) (sane : Sane n k) where
    was_clean : (t : Bool) → unless t q k.fault ≡ n → k.fault ≡ n
    was_clean t z = (unless_clean t q k.fault n h sane.most z).1

    source_before : Good (add_source k q w) → Good k
    unfolding add_source
    source_before g =
        record {
          clean = was_clean (fresh k.sources w) g.clean;
          exact = g.exact;
          most = g.most;
          inside = g.inside;
        }

    reactor_before : Outside k → Good (add_reactor k q w) → Good k
    unfolding add_reactor
    reactor_before out g =
        record {
          clean = was_clean (fresh (k.sources ++ (k.reactors ++ k.others)) w) g.clean;
          exact = g.exact;
          most = g.most;
          inside = λ i. absurd (omega arith);
        }

    parameter_before : Good (add_parameter k q w) → Good k
    unfolding add_parameter
    parameter_before g =
        record {
          clean = was_clean (fresh (k.sources ++ (k.reactors ++ k.parameters)) w) g.clean;
          exact = g.exact;
          most = g.most;
          inside = g.inside;
        }

    operator_before : (o : Operator) → Good (add_operator k q o) → Good k
    unfolding add_operator with_pile calls_open steps_open
    operator_before o g =
        record {
          clean = was_clean (callable k o) g.clean;
          exact = g.exact;
          most = g.most;
          inside = λ i.
              let m = g.inside i in
              let a = m.calls in
              let b = m.steps in
              record {
                more = m.more;
                calls = omega arith;
                steps = omega arith;
                few_d = m.few_d;
                few_r = m.few_r;
                few = m.few.1;
              };
        }

  -- no operator takes more than seven operands
  takes_few : (k : Known) → ((j : ℕ) → j < length k.definitions → (nth k.definitions j).parameters ≤ 7)
      → (o : Operator) → takes k o ≤ 7
  unfolding takes definition_of
  takes_few k ported (sign o) = omega arith
  takes_few k ported (reactor j) = by (below j (length k.definitions))
    where
      by : (j < length k.definitions) ⊎ (length k.definitions ≤ j) → (nth k.definitions j).parameters ≤ 7
      by (inl l) = ported j l
      by (inr l) =
          let ds = k.definitions in
          let e : nth ds j ≡ no_definition = get_or-eq_default ds no_definition {n = j} l in
          rw e (omega arith)

  closed_before : (k : Known) → Sane n k
      → ((j : ℕ) → j < length k.definitions → (nth k.definitions j).parameters ≤ 7)
      → (os : List Opened) → k.pile ≡ os → Good (closed k os) → Good k
  unfolding closed
  closed_before k sane ported [] e g = g
  closed_before k sane ported (o ∷ os) e g =
      let t = count_of o.operands =? takes k o.operator in
      let at : EveryOpen (λ o. o.at < n) (o ∷ os) = rw e at sane.places in
      let faults = unless_clean t o.at k.fault n at.0 sane.most in
      let seven = takes_few k ported o.operator in
      applied_before k (unless t o.at k.fault) (λ z. (faults z).1) o os e
      (λ z. let c : count_of o.operands ≡ takes k o.operator = eq? (faults z).0 in omega arith) g

  -- what is known before the word
  pub good_before : (k : Known) (q : ℕ) (w : List ℕ) (r : Role) → q < n → Sane n k
      → ((j : ℕ) → j < length k.definitions → (nth k.definitions j).parameters ≤ 7) → Apt k r → Ready k r
      → Good (learn k q w r) → Good k
  unfolding learn
  good_before k q w Source h sane ported apt ready g = source_before k q w h sane g
  good_before k q w Reactor h sane ported apt ready g = reactor_before k q w h sane apt g
  good_before k q w Parameter h sane ported apt ready g = parameter_before k q w h sane g
  good_before k q w Operand h sane ported apt ready g =
      expression_before k (unless (fit_operand k w) q k.fault) (was_clean k q w h sane (fit_operand k w)) (meant k w) g
  good_before k q w (Constant v) h sane ported apt ready g = expression_before k k.fault (λ z. z) (constant v) g
  good_before k q w AnOperator h sane ported apt ready g = operator_before k q w h sane (operator_of k w) g
  good_before k q w Apply h sane ported apt ready g = closed_before k sane ported k.pile refl g
  good_before k q w Define h sane ported apt ready g = definition_before k ready.3 ready.2 g
  good_before k q w Fixed h sane ported apt ready g = g
