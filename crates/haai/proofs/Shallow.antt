-- What a role asks of the tables' room, and that the form sees to it: `Shallow` bounds the open brackets, and `Ready`
-- is what holds when a word comes in its role.
use Rattle.std.specs.Prelude.{ℕ, ◌-◌, ◌≤◌, ◌<◌, ◌≡◌, refl, not, List, [], ◌∷◌, length}
use Rattle.std.proofs.Common.{arith}
use Rattle.value.specs.Test.{◌<?◌, ◌≤?◌, ◌=?◌, ◌and◌}
use Rattle.value.proofs.Tests.{lt?, both?, pick_any, not_false}
use Rattle.haai.specs.Grammar.{Step, takes}
use Rattle.std.specs.Prelude.{Some, None}
use Rattle.haai.specs.Word.{position, among, signs, defr_word, out_word, source_word}
use Rattle.haai.specs.Grammar.{is_open, is_shut, named, operates, is_taken, begin, on_to, counting, deepened}
use Rattle.haai.specs.Grammar.{sourced, defined, after_expression, expression, step_at, step_of}
use Rattle.haai.specs.Syntax.{Operator, sign, reactor, Expr, count_of}
use Rattle.haai.specs.Names.{Opened, Known, nothing, operator_of, add_source, add_reactor, add_parameter, with_pile}
use Rattle.haai.specs.Names.{with_operand, add_expr, add_operator, closed, add_definition, learn}
use Rattle.haai.specs.declared.Class.{Class}
use Rattle.haai.specs.declared.Class.TheVariants.{Open, Shut, Sign, Number, Taken, Name, Other}
use Rattle.haai.specs.declared.Phase.{Phase}
use Rattle.haai.specs.declared.Phase.TheVariants.{Top, Form, SourceName, SourceEnd, Head, ReactorName}
use Rattle.haai.specs.declared.Phase.TheVariants.{Parameters, Body, First, Out, Operator as AfterOpen}
use Rattle.haai.specs.declared.Phase.TheVariants.{Operands, End}
use Rattle.haai.specs.declared.Reading.{Reading}
use Rattle.haai.specs.declared.Role.{Role}
use Rattle.haai.specs.declared.Role.TheVariants.{Source, Reactor, Parameter, Operand, Constant}
use Rattle.haai.specs.declared.Role.TheVariants.{Operator as AnOperator, Apply, Define, Fixed}
use Rattle.haai.proofs.Fitting.{guard_any}
use Rattle.haai.proofs.Counting.{Counted, Phased}
use Rattle.haai.proofs.Paired.{Paired}

-- ---- what is kept

-- no application is open outside of a body
abbrev pub Flat : Phase → ℕ → Type 0
Flat Top n = n ≡ 0
Flat Form n = n ≡ 0
Flat SourceName n = n ≡ 0
Flat SourceEnd n = n ≡ 0
Flat Head n = n ≡ 0
Flat ReactorName n = n ≡ 0
Flat Parameters n = Unit {0}
Flat Body n = Unit {0}
Flat First n = Unit {0}
Flat Out n = Unit {0}
Flat AfterOpen n = Unit {0}
Flat Operands n = Unit {0}
Flat End n = Unit {0}

pub record Shallow (s : Reading) (k : Known) : Type 0 where
  pub deep : s.depth ≤ 16
  pub flat : Flat s.phase (length k.pile)

pub shallow_begin : (n : ℕ) → Shallow begin (nothing n)
unfolding begin nothing
shallow_begin n = record { deep = omega arith; flat = refl }

-- the tables have room for what a word adds in its role
abbrev pub Ready : Known → Role → Type 0
Ready k Source = length k.sources < 31
Ready k Reactor = length k.reactors < 32
Ready k Parameter = length k.others < 224
Ready k Operand = length k.pile ≤ 16
Ready k (Constant n) = length k.pile ≤ 16
Ready k AnOperator = length k.pile < 16
Ready k Apply = (1 ≤ length k.pile) × (length k.pile ≤ 16)
Ready k Define =
    (length k.definitions < 32)
    × (length k.parameters ≤ 7)
    × (count_of k.body ≤ 7)
    × (length k.pile ≡ 0)
Ready k Fixed = Unit {0}

abbrev pub ReadyStep : Known → ℕ → List ℕ → Step → Type 0
ReadyStep k q w (Some (r, s)) = Ready k r × Shallow s (learn k q w r)
ReadyStep k q w None = Unit {0}

-- ---- one word

after_shallow : (s : Reading) (k : Known) (d : ℕ) → d ≤ 16 → Shallow (after_expression s d) k
unfolding after_expression deepened counting
after_shallow s k d l =
    pick_any (λ (r : Reading). Shallow r k) (0 <? d)
    (λ z. record { deep = l; flat = tt })
    (λ z.
    pick_any (λ (r : Reading). Shallow r k) s.many
    (λ m. record { deep = omega arith; flat = tt })
    (λ m. record { deep = omega arith; flat = tt }))

module _ (n : ℕ) (s : Reading) (k : Known) (q : ℕ) (w : List ℕ) (h : Shallow s k) where
  abbrev Good : Step → Type 0
  Good = ReadyStep k q w

  -- the pile stays
  kept : (s₂ : Reading) → s₂.depth ≤ 16 → Flat s₂.phase (length k.pile) → Shallow s₂ k
  kept s₂ l z = record { deep = l; flat = z }

  expression_ready : length k.pile ≤ 16 → (c : Class) → Good (expression s c)
  unfolding expression learn deepened
  expression_ready l Open =
      pick_any Good (s.depth <? 16)
      (λ z. let b : s.depth < 16 = lt? z in (tt, kept _ (omega arith) tt))
      (λ z. tt)
  expression_ready l Shut = tt
  expression_ready l (Sign o) = tt
  expression_ready l (Number v) = (l, after_shallow s _ s.depth h.deep)
  expression_ready l (Taken j) = (l, after_shallow s _ s.depth h.deep)
  expression_ready l Name = (l, after_shallow s _ s.depth h.deep)
  expression_ready l Other = tt

  operator_ready : length k.pile < 16 → Good (takes AnOperator (on_to Operands s))
  unfolding learn add_operator with_pile on_to
  operator_ready l = (l, record { deep = h.deep; flat = tt })

  by_phase : (f : Phase) → Phased n f s k → Paired f k → Flat f (length k.pile) → (c : Class) → Good (step_at f s c)
  unfolding step_at learn on_to counting deepened sourced defined add_source add_reactor add_parameter add_definition
  by_phase Top p g z c = pick_any Good (is_open c and (s.definitions <? 32)) (λ e. (tt, kept _ h.deep z)) (λ e. tt)
  by_phase Form p g z c =
      pick_any Good (is_taken source_word c and ((s.definitions =? 0) and (s.sources <? 31)))
      (λ e. (tt, kept _ h.deep z))
      (λ e. pick_any Good (is_taken defr_word c) (λ e. (tt, kept _ h.deep z)) (λ e. tt))
  by_phase SourceName p g z c =
      pick_any Good (named c)
      (λ e.
      let a = p.0 in
      let b = p.1 in
      (omega arith, record { deep = h.deep; flat = z }))
      (λ e. tt)
  by_phase SourceEnd p g z c =
      pick_any Good (is_shut c) (λ e. (tt, kept _ (omega arith) z)) (λ e. tt)
  by_phase Head p g z c = pick_any Good (is_open c) (λ e. (tt, kept _ h.deep z)) (λ e. tt)
  by_phase ReactorName p g z c =
      pick_any Good (named c)
      (λ e. let a = p.1 in let b = g.0 in (omega arith, record { deep = omega arith; flat = tt }))
      (λ e. tt)
  by_phase Parameters p g z c =
      pick_any Good (is_shut c)
      (λ e. (tt, kept _ (omega arith) tt))
      (λ e.
      pick_any Good (named c and (s.count <? 7))
      (λ e.
      let l : s.count < 7 = lt? (both? e).1 in
      let a = p.1.0 in
      let b = p.2 in
      let d = g.1 in
      (omega arith, record { deep = omega arith; flat = tt }))
      (λ e. tt))
  by_phase Body p g z c =
      pick_any Good (is_open c)
      (λ e. (tt, kept _ (omega arith) tt))
      (λ e. expression_ready (let a = p.3 in omega arith) c)
  by_phase First p g z c =
      pick_any Good (is_taken out_word c)
      (λ e. (tt, kept _ (omega arith) tt))
      (λ e. pick_any Good (operates c) (λ e. operator_ready (let a = p.3 in omega arith)) (λ e. tt))
  by_phase Out p g z c =
      pick_any Good (is_shut c and (1 ≤? s.count))
      (λ e. (tt, kept _ (omega arith) tt))
      (λ e.
      pick_any Good (s.count <? 7) (λ e. expression_ready (let a = p.4 in omega arith) c) (λ e. tt))
  by_phase AfterOpen p g z c =
      pick_any Good (operates c)
      (λ e. operator_ready (let a = p.3 in let b = h.deep in omega arith))
      (λ e. tt)
  by_phase Operands p g z c =
      pick_any Good (is_shut c)
      (λ e.
      let a = p.3 in
      let b = p.4 in
      let d = h.deep in (
        (omega arith, omega arith),
        after_shallow s _ (s.depth - 1) (omega arith),
      ))
      (λ e. expression_ready (let a = p.3 in let b = h.deep in omega arith) c)
  by_phase End p g z c =
      pick_any Good (is_shut c)
      (λ e. ((p.1.0, p.1.2, p.3, p.4), record { deep = omega arith; flat = p.4 }))
      (λ e. tt)

  pub step_ready : Counted n s k → Paired s.phase k → (c : Class) → Good (step_of s c)
  unfolding step_of
  step_ready a b c = by_phase s.phase a.phased b h.flat c
