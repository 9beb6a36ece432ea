-- What the form says of the tree: how many sources, definitions, parameters and expressions there are. `Counted`
-- relates how far the form has been read to what is known.
use Rattle.std.specs.Prelude.{ℕ, suc, ◌+◌, ◌-◌, ◌≤◌, ◌<◌, ◌≡◌, refl, ◌⊎◌, Bool, true, false}
use Rattle.std.proofs.Common.{sym, ◌∙◌, ap, inl, inr}
use Rattle.std.specs.Prelude.{List, [], ◌∷◌, ◌++◌, length}
use Rattle.std.proofs.Common.{arith}
use lib.ListN.{length-append}
use Rattle.value.specs.Test.{◌<?◌, ◌≤?◌, ◌=?◌, ◌and◌}
use Rattle.value.proofs.Tests.{lt?, lt×?, le?, eq?, both?, pick_any, below}
use Rattle.haai.specs.Grammar.{Step}
use Rattle.std.specs.Prelude.{Some, None}
use Rattle.haai.specs.Word.{defr_word, out_word, source_word}
use Rattle.haai.specs.Grammar.{is_open, is_shut, named, operates, is_taken, on_to, counting, deepened, sourced}
use Rattle.haai.specs.Grammar.{defined, after_expression, expression, step_at}
use Rattle.haai.specs.Syntax as S
use Rattle.haai.specs.Syntax.{Expr, Definition}
use Rattle.haai.specs.Names.{Opened, Known, no_definition, add_source, add_reactor, add_parameter, with_pile}
use Rattle.haai.specs.Names.{with_operand, add_expr, add_operator, closed, add_definition, learn}
use Rattle.haai.specs.declared.Class.{Class}
use Rattle.haai.specs.declared.Class.TheVariants.{Open, Shut, Sign, Number, Taken, Name, Other}
use Rattle.haai.specs.declared.Phase.{Phase}
use Rattle.haai.specs.declared.Phase.TheVariants.{Top, Form, SourceName, SourceEnd, Head, ReactorName}
use Rattle.haai.specs.declared.Phase.TheVariants.{Parameters, Body, First, Out, Operator, Operands, End}
use Rattle.haai.specs.declared.Reading.{Reading}
use Rattle.haai.specs.declared.Role.TheVariants.{Operator as AnOperator}
use Rattle.haai.proofs.Lists.{snoc_less, snoc_last}
use Rattle.haai.proofs.Formed.{nth}
use Rattle.haai.proofs.Fitting.{RoleOk}

abbrev pub Last : List Definition → Definition
Last ds = nth ds (length ds - 1)

-- the ports of a definition
abbrev pub Ported : Definition → Type 0
Ported d = (d.parameters ≤ 7) × (1 ≤ S.count_of d.body) × (S.count_of d.body ≤ 7)

module _ (n : ℕ) where
  -- inside a definition
  abbrev pub Inside : Known → Type 0
  Inside k = (length k.definitions < 32) × (k.at < n) × (length k.parameters ≤ 7)

  -- inside an expression of a body
  abbrev pub InBody : Bool → ℕ → ℕ → Type 0
  InBody true c b = (b ≡ c) × (c < 7)
  InBody false c b = b ≡ 0

  abbrev pub Phased : Phase → Reading → Known → Type 0
  Phased Top s k =
      (s.sources ≡ length k.sources)
      × (1 ≤ length k.definitions → (k.at < n) × ((Last k.definitions).parameters ≡ length k.parameters))
  Phased Form s k = (s.sources ≡ length k.sources) × (length k.definitions < 32)
  Phased SourceName s k = (s.sources ≡ length k.sources) × (s.sources < 31) × (length k.definitions ≡ 0)
  Phased SourceEnd s k = (s.sources + 1 ≡ length k.sources) × (s.sources < 31) × (length k.definitions ≡ 0)
  Phased Head s k = (s.sources ≡ length k.sources) × (length k.definitions < 32)
  Phased ReactorName s k = (s.sources ≡ length k.sources) × (length k.definitions < 32)
  Phased Parameters s k =
      (s.sources ≡ length k.sources) × Inside k × (s.count ≡ length k.parameters) × (S.count_of k.body ≡ 0)
      × (length k.pile ≡ 0)
  Phased Body s k =
      (s.sources ≡ length k.sources) × Inside k × (S.count_of k.body ≡ 0) × (length k.pile ≡ 0)
      × (s.depth ≡ 0) × (s.many ≡ false)
  Phased First s k =
      (s.sources ≡ length k.sources) × Inside k × (S.count_of k.body ≡ 0) × (length k.pile ≡ 0)
      × (s.depth ≡ 1) × (s.many ≡ false)
  Phased Out s k =
      (s.sources ≡ length k.sources) × Inside k × (S.count_of k.body ≡ s.count) × (s.count ≤ 7)
      × (length k.pile ≡ 0) × (s.depth ≡ 0) × (s.many ≡ true)
  Phased Operator s k =
      (s.sources ≡ length k.sources) × Inside k × InBody s.many s.count (S.count_of k.body)
      × (s.depth ≡ length k.pile + 1)
  Phased Operands s k =
      (s.sources ≡ length k.sources) × Inside k × InBody s.many s.count (S.count_of k.body)
      × (s.depth ≡ length k.pile) × (1 ≤ s.depth)
  Phased End s k =
      (s.sources ≡ length k.sources) × Inside k × (1 ≤ S.count_of k.body) × (S.count_of k.body ≤ 7)
      × (length k.pile ≡ 0)

  pub record Counted (s : Reading) (k : Known) : Type 0 where
    pub few_sources : length k.sources ≤ 31
    pub same : s.definitions ≡ length k.definitions
    pub few : length k.definitions ≤ 32
    pub done : (j : ℕ) → j < length k.definitions → Ported (nth k.definitions j)
    pub phased : Phased s.phase s k

  counted : {s : Reading} {k : Known} → length k.sources ≤ 31 → s.definitions ≡ length k.definitions
      → length k.definitions ≤ 32 → ((j : ℕ) → j < length k.definitions → Ported (nth k.definitions j))
      → Phased s.phase s k → Counted s k
  counted a b c d z = record { few_sources = a; same = b; few = c; done = d; phased = z }

  -- a whole expression, with d = |os| applications open around it
  whole : (s : Reading) (k : Known) (f : ℕ) (os : List Opened) (e : Expr) (d : ℕ) → length k.sources ≤ 31
      → s.definitions ≡ length k.definitions → length k.definitions ≤ 32
      → ((j : ℕ) → j < length k.definitions → Ported (nth k.definitions j)) → s.sources ≡ length k.sources
      → Inside k → InBody s.many s.count (S.count_of k.body) → d ≡ length os
      → Counted (after_expression s d) (add_expr k f os e)
  unfolding after_expression add_expr with_pile with_operand deepened counting S.count_of
  whole s k f (o ∷ os) e d fs sm fw dn ss ins inb ed =
      pick_any (λ r. Counted r (add_expr k f (o ∷ os) e)) (0 <? d)
      (λ z. counted fs sm fw dn (ss, ins, inb, omega arith, omega arith))
      (λ z. absurd (let l : d ≤ 0 = lt×? z in omega arith))
  whole s k f [] e d fs sm fw dn ss ins inb ed =
      pick_any (λ r. Counted r (add_expr k f [] e)) (0 <? d)
      (λ z. absurd (let l : 0 < d = lt? z in omega arith))
      (λ z. pick_any (λ r. Counted r (add_expr k f [] e)) s.many
      (λ m. counted fs sm fw dn (ss, ins, (out m inb).0, (out m inb).1, refl, refl, refl))
      (λ m. counted fs sm fw dn (ss, ins, (single m inb).0, (single m inb).1, refl)))
    where
      out : s.many ≡ true → InBody s.many s.count (S.count_of k.body)
          → (S.count_of k.body + 1 ≡ s.count + 1) × (s.count + 1 ≤ 7)
      out m q =
          let r : InBody true s.count (S.count_of k.body) = rw m at q in
          (let a = r.0 in omega arith, let b = r.1 in omega arith)

      single : s.many ≡ false → InBody s.many s.count (S.count_of k.body)
          → (1 ≤ S.count_of k.body + 1) × (S.count_of k.body + 1 ≤ 7)
      single m q = let r : InBody false s.count (S.count_of k.body) = rw m at q in (omega arith, omega arith)

  -- ---- one word

  abbrev pub ClassOk : Class → Type 0
  ClassOk Open = Unit {0}
  ClassOk Shut = Unit {0}
  ClassOk (Sign o) = Unit {0}
  ClassOk (Number v) = v < 4294967296
  ClassOk (Taken j) = Unit {0}
  ClassOk Name = Unit {0}
  ClassOk Other = Unit {0}

  abbrev pub StepGood : Known → ℕ → List ℕ → Step → Type 0
  StepGood k q w (Some (r, s)) = RoleOk r × Counted s (learn k q w r)
  StepGood k q w None = Unit {0}

  module _ (s : Reading) (k : Known) (q : ℕ) (w : List ℕ) (h : q < n) (fs : length k.sources ≤ 31)
      (sm : s.definitions ≡ length k.definitions) (fw : length k.definitions ≤ 32)
      (dn : (j : ℕ) → j < length k.definitions → Ported (nth k.definitions j)) where
    abbrev Good : Step → Type 0
    Good = StepGood k q w

    -- an expression's first word
    expression_good : s.sources ≡ length k.sources → Inside k → InBody s.many s.count (S.count_of k.body)
        → s.depth ≡ length k.pile → (c : Class) → ClassOk c → Good (expression s c)
    unfolding expression learn deepened
    expression_good ss ins inb ed Open ok =
        pick_any Good (s.depth <? 16) (λ z. (tt, counted fs sm fw dn (ss, ins, inb, omega arith))) (λ z. tt)
    expression_good ss ins inb ed Shut ok = tt
    expression_good ss ins inb ed (Sign o) ok = tt
    expression_good ss ins inb ed (Number v) ok =
        (ok, whole s k k.fault k.pile _ s.depth fs sm fw dn ss ins inb ed)
    expression_good ss ins inb ed (Taken j) ok = (tt, whole s k _ k.pile _ s.depth fs sm fw dn ss ins inb ed)
    expression_good ss ins inb ed Name ok = (tt, whole s k _ k.pile _ s.depth fs sm fw dn ss ins inb ed)
    expression_good ss ins inb ed Other ok = tt

    -- an operator's word
    operator_good : s.sources ≡ length k.sources → Inside k → InBody s.many s.count (S.count_of k.body)
        → s.depth ≡ length k.pile + 1 → Counted (on_to Operands s) (learn k q w AnOperator)
    unfolding learn add_operator with_pile on_to
    operator_good ss ins inb ed = counted fs sm fw dn (ss, ins, inb, omega arith, omega arith)

    -- the end of a definition
    abbrev d : Definition
    d = record { parameters = length k.parameters; body = k.body }

    ends_good : s.sources ≡ length k.sources → Inside k → 1 ≤ S.count_of k.body → S.count_of k.body ≤ 7
        → Counted (defined s) (add_definition k)
    unfolding defined add_definition
    ends_good ss ins one seven =
        let a = length-append k.definitions (d ∷ []) in
        let b = ins.0 in
        let m = length k.definitions in
        let end = length (k.definitions ++ (d ∷ [])) - 1 in
        let last = snoc_last k.definitions d no_definition m end refl (omega arith) in
        record {
          few_sources = fs;
          same = omega arith;
          few = omega arith;
          done = λ j l. ported j l (below j (length k.definitions));
          phased = (ss, λ l. (ins.1, ap (λ (y : Definition). y.parameters) last));
        }
      where
        ported : (j : ℕ) → j < length (k.definitions ++ (d ∷ []))
            → (j < length k.definitions) ⊎ (length k.definitions ≤ j)
            → Ported (nth (k.definitions ++ (d ∷ [])) j)
        ported j l (inl m) =
            let e = snoc_less k.definitions d no_definition (length k.definitions) j refl m in rw e (dn j m)
        ported j l (inr m) =
            let a = length-append k.definitions (d ∷ []) in
            let e = snoc_last k.definitions d no_definition (length k.definitions) j refl (omega arith) in
            rw e (ins.2, one, seven)

    pub step_good : (f : Phase) → Phased f s k → (c : Class) → ClassOk c → Good (step_at f s c)
    unfolding step_at learn closed on_to counting deepened sourced defined add_source add_reactor add_parameter
        add_definition S.count_of
    step_good Top z c ok =
        pick_any Good (is_open c and (s.definitions <? 32))
        (λ e. let l : s.definitions < 32 = lt? (both? e).1 in (tt, counted fs sm fw dn (z.0, omega arith))) (λ e. tt)
    step_good Form z c ok =
        pick_any Good (is_taken source_word c and ((s.definitions =? 0) and (s.sources <? 31)))
        (λ e. let b = both? (both? e).1 in let l : s.sources < 31 = lt? b.1 in
        let d : s.definitions ≡ 0 = eq? b.0 in (tt, counted fs sm fw dn (z.0, l, omega arith)))
        (λ e. pick_any Good (is_taken defr_word c) (λ e. (tt, counted fs sm fw dn z)) (λ e. tt))
    step_good SourceName z c ok =
        pick_any Good (named c)
        (λ e. let a = length-append k.sources (w ∷ []) in let z₀ = z.0 in let z₁ = z.1 in
        (tt, counted (omega arith) sm fw dn (omega arith, z.1, z.2))) (λ e. tt)
    step_good SourceEnd z c ok =
        pick_any Good (is_shut c)
        (λ e. let z₂ = z.2 in (tt, counted fs sm fw dn (z.0, λ l. absurd (omega arith)))) (λ e. tt)
    step_good Head z c ok = pick_any Good (is_open c) (λ e. (tt, counted fs sm fw dn z)) (λ e. tt)
    step_good ReactorName z c ok =
        pick_any Good (named c)
        (λ e. (tt, counted fs sm fw dn (z.0, (z.1, h, omega arith), refl, refl, refl))) (λ e. tt)
    step_good Parameters z c ok =
        pick_any Good (is_shut c)
        (λ e. (tt, counted fs sm fw dn (z.0, z.1, z.3, z.4, refl, refl)))
        (λ e. pick_any Good (named c and (s.count <? 7))
        (λ e.
        let l : s.count < 7 = lt? (both? e).1 in let a = length-append k.parameters (w ∷ []) in let z₂ = z.2 in
        (tt, counted fs sm fw dn (z.0, (z.1.0, z.1.1, omega arith), omega arith, z.3, z.4))) (λ e. tt))
    step_good Body z c ok =
        pick_any Good (is_open c)
        (λ e. (tt, counted fs sm fw dn (z.0, z.1, z.2, z.3, refl, z.5)))
        (λ e. expression_good z.0 z.1 (rw z.5 z.2) (z.4 ∙ sym z.3) c ok)
    step_good First z c ok =
        pick_any Good (is_taken out_word c)
        (λ e. (tt, counted fs sm fw dn (z.0, z.1, z.2, omega arith, z.3, refl, refl)))
        (λ e. pick_any Good (operates c)
        (λ e. (tt, operator_good z.0 z.1 (rw z.5 z.2) (let a = z.3 in let b = z.4 in omega arith)))
        (λ e. tt))
    step_good Out z c ok =
        pick_any Good (is_shut c and (1 ≤? s.count))
        (λ e. let l : 1 ≤ s.count = le? (both? e).1 in let a = z.2 in let b = z.3 in
        (tt, counted fs sm fw dn (z.0, z.1, omega arith, omega arith, z.4)))
        (λ e. pick_any Good (s.count <? 7)
        (λ e.
        let l : s.count < 7 = lt? e in
        expression_good z.0 z.1 (rw z.6 (z.2, l)) (z.5 ∙ sym z.4) c ok) (λ e. tt))
    step_good Operator z c ok =
        pick_any Good (operates c) (λ e. (tt, operator_good z.0 z.1 z.2 z.3)) (λ e. tt)
    step_good Operands z c ok =
        pick_any Good (is_shut c) (λ e. (tt, closes k.pile refl))
        (λ e. expression_good z.0 z.1 z.2 z.3 c ok)
      where
        closes : (os : List Opened) → k.pile ≡ os → Counted (after_expression s (s.depth - 1)) (closed k os)
        closes [] e =
            let a = z.3 in
            let b = z.4 in
            let c : length k.pile ≡ 0 = ap (λ (l : List Opened). length l) e in
            absurd (omega arith)
        closes (o ∷ os) e =
            let c : length k.pile ≡ suc (length os) = ap (λ (l : List Opened). length l) e in
            let a = z.3 in
            whole s k _ os _ (s.depth - 1) fs sm fw dn z.0 z.1 z.2 (omega arith)
    step_good End z c ok = pick_any Good (is_shut c) (λ e. (tt, ends_good z.0 z.1 z.2 z.3)) (λ e. tt)
