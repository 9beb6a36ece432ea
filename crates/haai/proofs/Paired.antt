-- How many names there are, by the form: a reactor's name comes before its definition, and a definition has at most
-- seven parameters. So the places have room.
use Rattle.std.specs.Prelude.{ℕ, ◌+◌, ◌-◌, ◌*◌, ◌≤◌, ◌≡◌, refl, List, [], ◌∷◌, length}
use Rattle.std.proofs.Common.{arith}
use lib.ListN.{length-append}
use Rattle.value.specs.Test.{◌<?◌, ◌≤?◌, ◌=?◌, ◌and◌}
use Rattle.value.proofs.Tests.{pick_any}
use Rattle.haai.specs.Grammar.{Step}
use Rattle.std.specs.Prelude.{Some, None}
use Rattle.haai.specs.Word.{defr_word, out_word, source_word}
use Rattle.haai.specs.Grammar.{is_open, is_shut, named, operates, is_taken, on_to, counting, deepened, sourced}
use Rattle.haai.specs.Grammar.{defined, after_expression, expression, step_at, step_of}
use Rattle.haai.specs.Syntax.{Expr}
use Rattle.haai.specs.Names.{Opened, Known, nothing, add_source, add_reactor, add_parameter, with_pile, add_expr}
use Rattle.haai.specs.Names.{add_operator, closed, add_definition, learn}
use Rattle.haai.specs.declared.Class.{Class}
use Rattle.haai.specs.declared.Class.TheVariants.{Open, Shut, Sign, Number, Taken, Name, Other}
use Rattle.haai.specs.declared.Phase.{Phase}
use Rattle.haai.specs.declared.Phase.TheVariants.{Top, Form, SourceName, SourceEnd, Head, ReactorName}
use Rattle.haai.specs.declared.Phase.TheVariants.{Parameters, Body, First, Out, Operator, Operands, End}
use Rattle.haai.specs.declared.Reading.{Reading}
use Rattle.haai.proofs.Counting.{Counted, Phased}

-- between definitions, and inside one
abbrev pub Between : Known → Type 0
Between k = (length k.reactors ≡ length k.definitions) × (length k.others ≤ 7 * length k.definitions)

abbrev pub Within : Known → Type 0
Within k =
    (length k.reactors ≡ length k.definitions + 1)
    × (length k.others ≤ 7 * length k.definitions + length k.parameters)

abbrev pub Paired : Phase → Known → Type 0
Paired Top k = Between k
Paired Form k = Between k
Paired SourceName k = Between k
Paired SourceEnd k = Between k
Paired Head k = Between k
Paired ReactorName k = Between k
Paired Parameters k = Within k
Paired Body k = Within k
Paired First k = Within k
Paired Out k = Within k
Paired Operator k = Within k
Paired Operands k = Within k
Paired End k = Within k

abbrev pub PairedStep : Known → ℕ → List ℕ → Step → Type 0
PairedStep k q w (Some (r, s)) = Paired s.phase (learn k q w r)
PairedStep k q w None = Unit {0}

pub paired_nothing : (n : ℕ) → Paired Top (nothing n)
unfolding nothing
paired_nothing n = (refl, omega arith)

within_expr : (k : Known) (f : ℕ) (os : List Opened) (e : Expr) → Within k → Within (add_expr k f os e)
unfolding add_expr with_pile
within_expr k f [] e h = h
within_expr k f (o ∷ os) e h = h

within_closed : (k : Known) (os : List Opened) → Within k → Within (closed k os)
unfolding closed
within_closed k [] h = h
within_closed k (o ∷ os) h = within_expr k _ os _ h

-- an expression ends inside the definition
within_after : (k : Known) (s : Reading) (d : ℕ) → Within k → Paired (after_expression s d).phase k
unfolding after_expression deepened counting
within_after k s d h =
    pick_any (λ (r : Reading). Paired r.phase k) (0 <? d) (λ z. h)
    (λ z. pick_any (λ (r : Reading). Paired r.phase k) s.many (λ m. h) (λ m. h))

module _ (n : ℕ) (s : Reading) (k : Known) (q : ℕ) (w : List ℕ) where
  abbrev Good : Step → Type 0
  Good = PairedStep k q w

  expression_paired : Within k → (c : Class) → Good (expression s c)
  unfolding expression learn deepened
  expression_paired h Open = pick_any Good (s.depth <? 16) (λ z. h) (λ z. tt)
  expression_paired h Shut = tt
  expression_paired h (Sign o) = tt
  expression_paired h (Number v) = within_after _ s s.depth (within_expr k k.fault k.pile _ h)
  expression_paired h (Taken j) = within_after _ s s.depth (within_expr k _ k.pile _ h)
  expression_paired h Name = within_after _ s s.depth (within_expr k _ k.pile _ h)
  expression_paired h Other = tt

  by_phase : (f : Phase) → Phased n f s k → Paired f k → (c : Class) → Good (step_at f s c)
  unfolding step_at learn on_to counting deepened sourced defined add_source add_reactor add_parameter
      add_operator with_pile add_definition
  by_phase Top p h c = pick_any Good (is_open c and (s.definitions <? 32)) (λ e. h) (λ e. tt)
  by_phase Form p h c =
      pick_any Good (is_taken source_word c and ((s.definitions =? 0) and (s.sources <? 31))) (λ e. h)
      (λ e. pick_any Good (is_taken defr_word c) (λ e. h) (λ e. tt))
  by_phase SourceName p h c = pick_any Good (named c) (λ e. h) (λ e. tt)
  by_phase SourceEnd p h c = pick_any Good (is_shut c) (λ e. h) (λ e. tt)
  by_phase Head p h c = pick_any Good (is_open c) (λ e. h) (λ e. tt)
  by_phase ReactorName p h c =
      pick_any Good (named c)
      (λ e. let a = length-append k.reactors (w ∷ []) in let b = h.0 in let d = h.1 in (omega arith, omega arith))
      (λ e. tt)
  by_phase Parameters p h c =
      pick_any Good (is_shut c) (λ e. h)
      (λ e. pick_any Good (named c and (s.count <? 7))
      (λ e.
      let a = length-append k.others (w ∷ []) in
      let b = length-append k.parameters (w ∷ []) in
      let d = h.1 in (h.0, omega arith)) (λ e. tt))
  by_phase Body p h c = pick_any Good (is_open c) (λ e. h) (λ e. expression_paired h c)
  by_phase First p h c = pick_any Good (is_taken out_word c) (λ e. h) (λ e. pick_any Good (operates c) (λ e. h) (λ e. tt))
  by_phase Out p h c =
      pick_any Good (is_shut c and (1 ≤? s.count)) (λ e. h)
      (λ e. pick_any Good (s.count <? 7) (λ e. expression_paired h c) (λ e. tt))
  by_phase Operator p h c = pick_any Good (operates c) (λ e. h) (λ e. tt)
  by_phase Operands p h c =
      pick_any Good (is_shut c) (λ e. within_after _ s (s.depth - 1) (within_closed k k.pile h))
      (λ e. expression_paired h c)
  by_phase End p h c =
      pick_any Good (is_shut c)
      (λ e.
      let a = length-append k.definitions (record { parameters = length k.parameters; body = k.body } ∷ []) in
      let b = h.0 in let d = h.1 in let g = p.1.2 in (omega arith, omega arith)) (λ e. tt)

  pub step_paired : Counted n s k → Paired s.phase k → (c : Class) → Good (step_of s c)
  unfolding step_of
  step_paired g h c = by_phase s.phase g.phased h c
