-- Every word, in its role, keeps the output right for what is known.
use Rattle.std.specs.Prelude.{ℕ, suc, ◌+◌, ◌*◌, ◌≤◌, ◌<◌, ◌≡◌, refl, List, [], ◌∷◌, length, get_or}
use Rattle.std.proofs.Common.{sym, ◌∙◌, ap, ap₂}
use Rattle.std.proofs.Common.{arith, subst}
use Rattle.value.specs.Test.{◌=?◌}
use Rattle.program.specs.Encode.{encode_all}
use Rattle.haai.specs.declared.Size.{Size}
use Rattle.haai.specs.declared.Application.{Application}
use Rattle.haai.specs.Syntax as S
use Rattle.haai.specs.Syntax.{sign, Expr, Exprs, apply, none, also, count_of}
use Rattle.haai.specs.Names.{Opened, Known, unless, meant, fit_operand, operator_of, takes, add_source, add_reactor}
use Rattle.haai.specs.Names.{add_parameter, with_pile, with_operand, add_expr, add_operator, closed, add_definition}
use Rattle.haai.specs.Names.{learn}
use Rattle.haai.specs.Emit.{declares, runs, locations_of}
use Rattle.haai.specs.Places.{sources_in, parameters_in, applied_by, expr_of, meant_in}
use Rattle.haai.specs.Tables.{innermost}
use Rattle.haai.specs.Writing.{first_at, cursor_of, few, next_entry, outer_entry, Added, added, add_meant, add_applied}
use Rattle.haai.specs.Writing.{add_sinks, add_operand, add_constant, add_apply, adds}
use Rattle.haai.specs.declared.Cursor.{Cursor}
use Rattle.haai.specs.declared.Knowing.{Knowing}
use Rattle.haai.specs.declared.Role.{Role}
use Rattle.haai.specs.declared.Role.TheVariants.{Source, Reactor, Parameter, Operand, Constant}
use Rattle.haai.specs.declared.Role.TheVariants.{Operator as AnOperator, Apply, Define, Fixed}
use Rattle.haai.specs.declared.Tally.{Tally}
use Rattle.haai.specs.declared.Tree.{Tree}
use Rattle.haai.proofs.Imaged.{Named, meant_same}
use Rattle.haai.proofs.Fitting.{Now, Clean}
use Rattle.haai.proofs.Grown.{PileIs, Grown}
use Rattle.haai.proofs.Counts.{counted_exact}
use Rattle.haai.proofs.Shallow.{Ready}
use Rattle.haai.proofs.Emitting.{emitted_d, emitted_r, add_expr_is, opens_d, opens_r}
use Rattle.haai.proofs.Noting.{top_count, FewOpen, few_before, noted_opens}
use Rattle.haai.proofs.Apt.{Inside, Apt}
use Rattle.haai.proofs.Hindsight.{Good, none_in}
use Rattle.haai.proofs.Laying.{base_of, Amid, Laying, Pointed}
use Rattle.haai.proofs.Growing.{innermost_is}
use Rattle.haai.proofs.Pointing.{pointed, few_exact, next_entry_lem, outer_entry_lem}
use Rattle.haai.proofs.Worded.{Callable, constant_lays, meant_lays, apply_lays, define_lays}

none_of : (es : Exprs) → count_of es ≡ 0 → es ≡ none
unfolding count_of
none_of none e = refl
none_of (also es x) e = absurd (omega arith)

-- the expression that comes last fits
last_fits : (k : Known) (f : ℕ) (os : List Opened) (e : Expr) → Clean (add_expr k f os e) → Now k e
unfolding add_expr with_pile with_operand
last_fits k f [] e h = h.body.1
last_fits k f (o ∷ os) e h = h.pile.0.0.1

module _ (count : ℕ) (sizes : List Size) (end : ℕ) (old : List ℕ) (out ls : List ℕ) where
  abbrev Lays : Known → Type 0
  Lays k = Laying count sizes end old k out ls

  -- nothing of the definition is there yet
  amid_none : (k : Known) → k.body ≡ none → k.pile ≡ [] → Amid count sizes end old k out ls
  unfolding emitted_d emitted_r declares runs encode_all locations_of
  amid_none k b p =
      record {
        D = rw (b, p) (λ x l. absurd (omega arith));
        R = rw (b, p) (λ x l. absurd (omega arith));
        noted = rw (b, p) (λ x l. absurd (omega arith));
      }

  module _ (k : Known) (q : ℕ) (w : List ℕ) (lay : Lays k) where
    source_lays : length k.reactors ≡ length k.definitions → Lays (add_source k q w)
    unfolding add_source
    source_lays e =
        record { changes = lay.changes; code = lay.code; long = lay.long; inside = λ i. absurd (omega arith) }

    reactor_lays : Lays (add_reactor k q w)
    unfolding add_reactor
    reactor_lays =
        record {
          changes = lay.changes;
          code = lay.code;
          long = lay.long;
          inside = λ i. amid_none (add_reactor k q w) refl refl;
        }

    parameter_lays : k.body ≡ none → k.pile ≡ [] → Lays (add_parameter k q w)
    unfolding add_parameter
    parameter_lays b p =
        record {
          changes = lay.changes;
          code = lay.code;
          long = lay.long;
          inside = λ i. amid_none (add_parameter k q w) b p;
        }

    operator_lays : (o : S.Operator) → Lays (add_operator k q o)
    unfolding add_operator with_pile
    operator_lays o =
        let x : Opened = record { operator = o; at = q; operands = none } in
        record {
          changes = lay.changes;
          code = lay.code;
          long = lay.long;
          inside = λ i.
              let a = lay.inside i in
              record {
                D = rw (opens_d k.body x k.pile refl) a.D;
                R = rw (opens_r (length k.parameters) (base_of sizes k) k.body x k.pile refl) a.R;
                noted = noted_opens ls (base_of sizes k) k.body x k.pile refl a.noted;
              };
        }

-- one more operand, where there is room for it
room_more : (n count : ℕ) (sizes : List Size) (k : Known) (f : ℕ) (os : List Opened) (e : Expr) → Inside k
    → Good n count sizes (add_expr k f os e) → FewOpen k.body os × (top_count k.body os < 7)
unfolding with_pile
room_more n count sizes k f os e i after =
    let g = subst (Good n count sizes) (add_expr_is k f os e) after in
    few_before k.body os e (g.inside i).few

callable_fits : (k : Known) (f : ℕ) (os : List Opened) (o : S.Operator) (es : Exprs) → length k.definitions ≤ 32
    → Clean (add_expr k f os (apply o es)) → Callable o (count_of es)
callable_fits k f os (sign o) es l h = (last_fits k f os (apply (sign o) es) h).1.1
callable_fits k f os (S.reactor j) es l h =
    let a = (last_fits k f os (apply (S.reactor j) es) h).1.0 in omega arith

module _ (count : ℕ) (sizes : List Size) (end : ℕ) (old : List ℕ) (room : first_at sizes end count ≤ length old)
    (n : ℕ) (t : List ℕ) (k : Known) (x : Knowing) (first : ℕ) (out ls : List ℕ)
    (named : Named t k x.tally x.places) (grown : Grown k x.tree x.sizes x.pile)
    (at : first ≡ first_at sizes end x.tree.definitions) (lay : Laying count sizes end old k out ls) (good : Good n count sizes k) where
  abbrev c : Cursor
  c = cursor_of sizes first x.tally x.tree

  abbrev u : Tree
  u = x.tree

  abbrev pl : List Application
  pl = x.pile

  abbrev Next : Known → Added → Type 0
  Next y a = Laying count sizes end old y a.output a.locations

  abbrev After : Known → Type 0
  After = Good n count sizes

  module _ (i : Inside k) (seven : length k.parameters ≤ 7) (deep : length k.pile ≤ 16) where
    points : Pointed sizes end c k
    points =
        pointed count sizes end t k x.tally u x.places x.sizes pl first named grown (good.inside i)
        (at ∙ ap (first_at sizes end) grown.definitions)

    constant_adds : (w : List ℕ) (y : ℕ) → After (add_expr k k.fault k.pile (S.constant y))
        → Next (add_expr k k.fault k.pile (S.constant y)) (add_constant t w x c ls out y)
    unfolding add_constant
    constant_adds w y after =
        constant_lays count sizes end old room n k out ls lay good i c points deep seven k.fault (next_entry u pl)
        (next_entry_lem k u x.sizes pl grown (room_more n count sizes k k.fault k.pile (S.constant y) i after).1) y after

    operand_adds : (w : List ℕ) (f : ℕ) → length k.sources ≤ 31 → After (add_expr k f k.pile (meant k w))
        → Clean (add_expr k f k.pile (meant k w))
        → Next (add_expr k f k.pile (meant k w)) (add_operand t w x c ls out)
    unfolding add_operand parameters_in sources_in
    operand_adds w f few after clean =
        let m = meant_in (parameters_in t x.places x.tally) (sources_in t x.places x.tally) w in
        let e : expr_of m ≡ meant k w =
        ap₂ (λ (p s : List (List ℕ)). expr_of (meant_in p s w)) named.parameters named.sources ∙ meant_same k w
        in
        subst (λ (y : Expr). Next (add_expr k f k.pile y) (add_meant c (next_entry u pl) ls out m)) e
        (meant_lays count sizes end old room n k out ls lay good i c points deep seven f (next_entry u pl)
        (next_entry_lem k u x.sizes pl grown (room_more n count sizes k f k.pile (meant k w) i after).1) m few
        (subst (Now k) (sym e) (last_fits k f k.pile (meant k w) clean))
        (subst (λ (y : Expr). After (add_expr k f k.pile y)) (sym e) after))

    apply_adds : (os : List Opened) → k.pile ≡ os → 1 ≤ length os → length k.definitions ≤ 32
        → After (closed k os) → Clean (closed k os) → Next (closed k os) (add_apply x c ls out)
    unfolding add_apply closed
    apply_adds [] e some few after clean = absurd (omega arith)
    apply_adds (o ∷ os) e some small after clean =
        let b = k.body in
        let whole = apply o.operator o.operands in
        let f = unless (count_of o.operands =? takes k o.operator) o.at k.fault in
        let more = room_more n count sizes k f os whole i after in
        let l = grown.level in
        let z : length k.pile ≡ suc (length os) = ap length e in
        let pile : PileIs pl (o ∷ os) = rw e at grown.pile in
        let before : FewOpen b (o ∷ os) = rw e at (good.inside i).few in
        let seven_ops = before.0 in
        let a = innermost u pl in
        let same = innermost_is k u x.sizes pl grown o os e in
        let code : applied_by a.operator ≡ o.operator = ap (λ (y : Application). applied_by y.operator) same ∙ pile.0 in
        let many : few a.operands ≡ count_of o.operands =
        ap few
        (ap (λ (y : Application). y.operands) same ∙ pile.2 ∙ counted_exact (count_of o.operands) (omega arith))
        ∙ few_exact (count_of o.operands) seven_ops
        in
        let row : 7 * u.level ≡ 7 * length (o ∷ os) = omega arith in
        let entry = outer_entry u pl in
        let put : add_applied c a.operator (7 * u.level) (few a.operands) ls entry out
        ≡ add_applied c a.operator (7 * length (o ∷ os)) (count_of o.operands) ls entry out =
        cc
        in
        subst (Next (add_expr k f os whole)) (sym put)
        (apply_lays count sizes end old room n k out ls lay good i c points deep seven o os e f entry
        (outer_entry_lem k u x.sizes pl grown o os e more.1) (callable_fits k f os o.operator o.operands small clean)
        seven_ops after a.operator code)

    define_adds : k.pile ≡ [] → count_of k.body ≤ 7 → After (add_definition k)
        → Next (add_definition k) (add_sinks c (few u.count) ls out)
    define_adds e seven_sinks after =
        let m : few u.count ≡ count_of k.body =
        ap few (grown.count ∙ counted_exact (count_of k.body) (omega arith))
        ∙ few_exact (count_of k.body) seven_sinks
        in
        subst (λ (y : ℕ). Next (add_definition k) (add_sinks c y ls out)) (sym m)
        (define_lays count sizes end old room n k out ls lay good i c points deep seven e seven_sinks after)

  -- the word w at q
  pub word_lays : (q : ℕ) (w : List ℕ) (r : Role) → length k.sources ≤ 31 → length k.definitions ≤ 32 → Apt k r
      → Ready k r → After (learn k q w r) → Clean (learn k q w r)
      → Next (learn k q w r) (adds t w x c ls out r)
  unfolding learn adds added
  word_lays q w Source fs fd apt ready after clean = source_lays count sizes end old out ls k q w lay apt
  word_lays q w Reactor fs fd apt ready after clean = reactor_lays count sizes end old out ls k q w lay
  word_lays q w Parameter fs fd apt ready after clean =
      parameter_lays count sizes end old out ls k q w lay (none_of k.body apt.1) (none_in k.pile apt.2)
  word_lays q w Operand fs fd apt ready after clean =
      operand_adds apt.0 apt.1 ready w (unless (fit_operand k w) q k.fault) fs after clean
  word_lays q w (Constant y) fs fd apt ready after clean = constant_adds apt.0 apt.1 ready w y after
  word_lays q w AnOperator fs fd apt ready after clean =
      operator_lays count sizes end old out ls k q w lay (operator_of k w)
  word_lays q w Apply fs fd apt ready after clean =
      apply_adds apt.0 apt.1 ready.1 k.pile refl ready.0 fd after clean
  word_lays q w Define fs fd apt ready after clean =
      let bare = ready.3 in
      define_adds apt.0 apt.1 (omega arith) (none_in k.pile ready.3) ready.2 after
  word_lays q w Fixed fs fd apt ready after clean = lay
