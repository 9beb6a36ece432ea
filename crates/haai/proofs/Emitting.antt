-- The commands of the words so far: those of the body, then those of each open application's operands, from the
-- outermost on. Each word appends its own, and at a definition's end they are the definition's.
use Rattle.std.specs.Prelude.{ℕ, ◌+◌, ◌≡◌, refl, List, [], ◌∷◌, ◌++◌, length}
use Rattle.std.proofs.Common.{sym, ◌∙◌, ap, ap₂, arith, append_assoc}
use Rattle.std.proofs.Common.{append-nil}
use Rattle.program.specs.Command.{Cmd}
use Rattle.program.specs.Encode.{encode_all}
use lib.ListN.{length-append}
use Rattle.haai.specs.Syntax.{Expr, Exprs, apply, none, also, Definition}
use Rattle.haai.specs.Names.{Opened, Known, with_pile, with_operand, add_expr}
use Rattle.haai.specs.Emit.{allocates, declares, declares_all, calls, steps, steps_all, locations_of, applied, runs}
use Rattle.haai.specs.Emit.{runs_all, sequence_d, sequence_r, commands_of, code_of}
use Rattle.haai.proofs.Lists.{length_runs_all}
use Rattle.haai.proofs.Grown.{calls_open, steps_open}
use Rattle.haai.proofs.Stands.{encode_join}

unfoldable pub emitted_d : Exprs → List Opened → List Cmd
emitted_d b [] = declares_all b
emitted_d b (o ∷ os) = emitted_d b os ++ declares_all o.operands

-- s and base as for `runs`
unfoldable pub emitted_r : ℕ → ℕ → Exprs → List Opened → List Cmd
emitted_r s base b [] = runs_all s base b 0 0
emitted_r s base b (o ∷ os) =
    emitted_r s base b os ++ runs_all s base o.operands (calls_open b os) (steps_open b os)

pub length_d : (b : Exprs) (os : List Opened) → length (emitted_d b os) ≡ calls_open b os
unfolding emitted_d calls_open calls
length_d b [] = refl
length_d b (o ∷ os) =
    length-append (emitted_d b os) (declares_all o.operands)
    ∙ ap (λ (n : ℕ). n + length (declares_all o.operands)) (length_d b os)

pub length_r : (s base : ℕ) (b : Exprs) (os : List Opened) → length (emitted_r s base b os) ≡ steps_open b os
unfolding emitted_r steps_open
length_r s base b [] = length_runs_all s base b 0 0
length_r s base b (o ∷ os) =
    length-append (emitted_r s base b os) (runs_all s base o.operands (calls_open b os) (steps_open b os))
    ∙ ap₂ ◌+◌ (length_r s base b os) (length_runs_all s base o.operands (calls_open b os) (steps_open b os))

-- ---- one expression more, in the innermost of the open applications os, or in the body b

unfoldable pub body_with : Exprs → List Opened → Expr → Exprs
body_with b [] e = also b e
body_with b (o ∷ os) e = b

unfoldable pub pile_with : List Opened → Expr → List Opened
pile_with [] e = []
pile_with (o ∷ os) e = with_operand o e ∷ os

pub add_expr_is : (k : Known) (f : ℕ) (os : List Opened) (e : Expr)
    → add_expr k f os e ≡ with_pile k f (body_with k.body os e) (pile_with os e)
unfolding add_expr body_with pile_with
add_expr_is k f [] e = refl
add_expr_is k f (o ∷ os) e = refl

pub more_d : (b : Exprs) (os : List Opened) (e : Expr)
    → emitted_d (body_with b os e) (pile_with os e) ≡ emitted_d b os ++ declares e
unfolding emitted_d body_with pile_with with_operand declares
more_d b [] e = refl
more_d b (o ∷ os) e = sym (append_assoc (emitted_d b os) (declares_all o.operands) (declares e))

pub more_r : (s base : ℕ) (b : Exprs) (os : List Opened) (e : Expr)
    → emitted_r s base (body_with b os e) (pile_with os e)
    ≡ emitted_r s base b os ++ runs s base e (calls_open b os) (steps_open b os)
unfolding emitted_r body_with pile_with with_operand calls_open steps_open runs
more_r s base b [] e =
    let c : 0 + calls b ≡ calls b = omega arith in
    let r : 0 + steps_all b ≡ steps_all b = omega arith in
    ap₂ (λ (x y : ℕ). runs_all s base b 0 0 ++ runs s base e x y) c r
more_r s base b (o ∷ os) e =
    let c = calls_open b os in
    let r = steps_open b os in
    sym
    (append_assoc (emitted_r s base b os) (runs_all s base o.operands c r)
    (runs s base e (c + calls o.operands) (r + steps_all o.operands)))

pub more_calls : (b : Exprs) (os : List Opened) (e : Expr)
    → calls_open (body_with b os e) (pile_with os e) ≡ calls_open b os + length (declares e)
more_calls b os e =
    sym (length_d (body_with b os e) (pile_with os e)) ∙ ap length (more_d b os e)
    ∙ length-append (emitted_d b os) (declares e) ∙ ap (λ (n : ℕ). n + length (declares e)) (length_d b os)

pub more_steps : (b : Exprs) (os : List Opened) (e : Expr)
    → steps_open (body_with b os e) (pile_with os e) ≡ steps_open b os + steps e
unfolding steps_open body_with pile_with with_operand steps
more_steps b [] e = refl
more_steps b (o ∷ os) e = omega arith

-- ---- an application is whole

module _ (b : Exprs) (o : Opened) (os : List Opened) where
  abbrev whole : Expr
  whole = apply o.operator o.operands

  pub whole_d : emitted_d (body_with b os whole) (pile_with os whole) ≡ emitted_d b (o ∷ os) ++ allocates o.operator
  unfolding emitted_d declares
  whole_d =
      more_d b os whole
      ∙ sym (append_assoc (emitted_d b os) (declares_all o.operands) (allocates o.operator))

  pub whole_r : (s base : ℕ) → emitted_r s base (body_with b os whole) (pile_with os whole)
      ≡ emitted_r s base b (o ∷ os)
      ++ applied (s + calls_open b (o ∷ os)) (locations_of base (steps_open b os) o.operands) o.operator
  unfolding emitted_r calls_open runs
  whole_r s base =
      let c = calls_open b os in
      more_r s base b os whole
      ∙ sym
      (append_assoc (emitted_r s base b os) (runs_all s base o.operands c (steps_open b os))
      (applied (s + (c + calls o.operands)) (locations_of base (steps_open b os) o.operands) o.operator))

-- an application begins
pub opens_d : (b : Exprs) (o : Opened) (os : List Opened) → o.operands ≡ none → emitted_d b (o ∷ os) ≡ emitted_d b os
unfolding emitted_d declares
opens_d b o os e =
    ap (λ (es : Exprs). emitted_d b os ++ declares_all es) e ∙ append-nil (emitted_d b os)

pub opens_r : (s base : ℕ) (b : Exprs) (o : Opened) (os : List Opened) → o.operands ≡ none
    → emitted_r s base b (o ∷ os) ≡ emitted_r s base b os
unfolding emitted_r runs
opens_r s base b o os e =
    ap (λ (es : Exprs). emitted_r s base b os ++ runs_all s base es (calls_open b os) (steps_open b os)) e
    ∙ append-nil (emitted_r s base b os)

-- ---- a definition is whole

pub code_join : (fs gs : List Definition) → code_of (fs ++ gs) ≡ code_of fs ++ code_of gs
unfolding code_of
code_join [] gs = refl
code_join (f ∷ fs) gs =
    ap (λ (x : List ℕ). encode_all (commands_of f) ++ x) (code_join fs gs)
    ∙ sym (append_assoc (encode_all (commands_of f)) (code_of fs) (code_of gs))

pub code_last : (fs : List Definition) (f : Definition)
    → code_of (fs ++ (f ∷ [])) ≡ code_of fs ++ (encode_all (sequence_d f) ++ encode_all (sequence_r f))
unfolding code_of commands_of
code_last fs f =
    code_join fs (f ∷ [])
    ∙ ap (λ (x : List ℕ). code_of fs ++ x)
    (append-nil (encode_all (commands_of f)) ∙ encode_join (sequence_d f) (sequence_r f))
