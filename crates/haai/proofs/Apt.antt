-- What a role says of where a word stands: between definitions, or inside one.
use Rattle.std.specs.Prelude.{ℕ, ◌+◌, ◌≤◌, ◌≡◌, length}
use Rattle.value.specs.Test.{◌<?◌, ◌≤?◌, ◌=?◌, ◌and◌}
use Rattle.value.proofs.Tests.{pick_any}
use Rattle.haai.specs.Grammar.{Step}
use Rattle.std.specs.Prelude.{Some, None}
use Rattle.haai.specs.Word.{defr_word, out_word, source_word}
use Rattle.haai.specs.Grammar.{is_open, is_shut, named, operates, is_taken, expression, step_at, step_of}
use Rattle.haai.specs.Syntax.{count_of}
use Rattle.haai.specs.Names.{Known}
use Rattle.haai.specs.declared.Class.{Class}
use Rattle.haai.specs.declared.Class.TheVariants.{Open, Shut, Sign, Number, Taken, Name, Other}
use Rattle.haai.specs.declared.Phase.{Phase}
use Rattle.haai.specs.declared.Phase.TheVariants.{Top, Form, SourceName, SourceEnd, Head, ReactorName}
use Rattle.haai.specs.declared.Phase.TheVariants.{Parameters, Body, First, Out, Operator, Operands, End}
use Rattle.haai.specs.declared.Reading.{Reading}
use Rattle.haai.specs.declared.Role.{Role}
use Rattle.haai.specs.declared.Role.TheVariants.{Source, Reactor, Parameter, Operand, Constant}
use Rattle.haai.specs.declared.Role.TheVariants.{Operator as AnOperator, Apply, Define, Fixed}
use Rattle.haai.proofs.Counting.{Counted, Phased}
use Rattle.haai.proofs.Paired.{Paired}

-- the present definition has a name, and is not whole
abbrev pub Inside : Known → Type 0
Inside k = length k.reactors ≡ length k.definitions + 1

-- where an expression can end
abbrev pub Bodily : Known → Type 0
Bodily k = Inside k × (length k.parameters ≤ 7)

abbrev pub Outside : Known → Type 0
Outside k = length k.reactors ≡ length k.definitions

abbrev pub Apt : Known → Role → Type 0
Apt k Source = Outside k
Apt k Reactor = Outside k
Apt k Parameter = Inside k × (count_of k.body ≡ 0) × (length k.pile ≡ 0)
Apt k Operand = Bodily k
Apt k (Constant n) = Bodily k
Apt k AnOperator = Bodily k
Apt k Apply = Bodily k
Apt k Define = Bodily k
Apt k Fixed = Unit {0}

abbrev pub AptStep : Known → Step → Type 0
AptStep k (Some (r, s)) = Apt k r
AptStep k None = Unit {0}

module _ (n : ℕ) (s : Reading) (k : Known) where
  abbrev Good : Step → Type 0
  Good = AptStep k

  expression_apt : Bodily k → (c : Class) → Good (expression s c)
  unfolding expression
  expression_apt h Open = pick_any Good (s.depth <? 16) (λ z. tt) (λ z. tt)
  expression_apt h Shut = tt
  expression_apt h (Sign o) = tt
  expression_apt h (Number v) = h
  expression_apt h (Taken j) = h
  expression_apt h Name = h
  expression_apt h Other = tt

  by_phase : (f : Phase) → Phased n f s k → Paired f k → (c : Class) → Good (step_at f s c)
  unfolding step_at
  by_phase Top p h c = pick_any Good (is_open c and (s.definitions <? 32)) (λ e. tt) (λ e. tt)
  by_phase Form p h c =
      pick_any Good (is_taken source_word c and ((s.definitions =? 0) and (s.sources <? 31))) (λ e. tt)
      (λ e. pick_any Good (is_taken defr_word c) (λ e. tt) (λ e. tt))
  by_phase SourceName p h c = pick_any Good (named c) (λ e. h.0) (λ e. tt)
  by_phase SourceEnd p h c = pick_any Good (is_shut c) (λ e. tt) (λ e. tt)
  by_phase Head p h c = pick_any Good (is_open c) (λ e. tt) (λ e. tt)
  by_phase ReactorName p h c = pick_any Good (named c) (λ e. h.0) (λ e. tt)
  by_phase Parameters p h c =
      pick_any Good (is_shut c) (λ e. tt)
      (λ e. pick_any Good (named c and (s.count <? 7)) (λ e. (h.0, p.3, p.4)) (λ e. tt))
  by_phase Body p h c = pick_any Good (is_open c) (λ e. tt) (λ e. expression_apt (h.0, p.1.2) c)
  by_phase First p h c =
      pick_any Good (is_taken out_word c) (λ e. tt) (λ e. pick_any Good (operates c) (λ e. (h.0, p.1.2)) (λ e. tt))
  by_phase Out p h c =
      pick_any Good (is_shut c and (1 ≤? s.count)) (λ e. tt)
      (λ e. pick_any Good (s.count <? 7) (λ e. expression_apt (h.0, p.1.2) c) (λ e. tt))
  by_phase Operator p h c = pick_any Good (operates c) (λ e. (h.0, p.1.2)) (λ e. tt)
  by_phase Operands p h c = pick_any Good (is_shut c) (λ e. (h.0, p.1.2)) (λ e. expression_apt (h.0, p.1.2) c)
  by_phase End p h c = pick_any Good (is_shut c) (λ e. (h.0, p.1.2)) (λ e. tt)

  pub step_apt : Counted n s k → Paired s.phase k → (c : Class) → Good (step_of s c)
  unfolding step_of
  step_apt g h c = by_phase s.phase g.phased h c
