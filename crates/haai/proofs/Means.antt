-- What a deployment's values mean: where a turn's values solve the equations of its commands, and a reactor's commands
-- are those of a definition, the value at an expression's location is the expression's meaning.
use Rattle.std.specs.Prelude.{ℕ, ◌+◌, ◌-◌, ◌≤◌, ◌<◌, ◌≡◌, refl, ◌⊎◌, List, []}
use Rattle.std.proofs.Common.{sym, ◌∙◌, ap, inl, inr}
use Rattle.std.specs.Prelude.{◌∷◌, ◌++◌, length, get_or}
use Rattle.std.proofs.Common.{arith}
use Rattle.value.specs.Value.{value, blank, number_kind, number_mark, mark_of}
use Rattle.value.specs.Primitive as P
use Rattle.value.specs.declared.Value.{Value}
use Rattle.value.proofs.Tests.{below}
use Rattle.program.specs.Bytes.{commands_d}
use Rattle.program.specs.Command.{cmd_of, alloc_mono, gives, constant, global, supply, react, consume, primitive}
use Rattle.program.specs.Location.{source_count, command_loc, sink_loc}
use Rattle.image.specs.Memory.{reactor, value_at}
use Rattle.remus.specs.Exec.{global_value}
use Rattle.remus.specs.Solved.{Solution}
use Rattle.haai.specs.Syntax as S
use Rattle.haai.specs.Syntax.{Operator, sign, Expr, Exprs, parameter, apply, none, also, Definition}
use Rattle.haai.specs.Emit.{declares, declares_all, calls, allocates, own_steps, steps, steps_all, location_of}
use Rattle.haai.specs.Emit.{locations_of, supplies, applied, runs, runs_all}
use Rattle.haai.specs.Meaning.{Function, no_function, applying, meaning, meanings}
use Rattle.haai.proofs.Lists.{snoc_less, snoc_last, length-supplies, supplies_at, length_locations}
use Rattle.haai.proofs.Lists.{length_runs_all}
use Rattle.haai.proofs.Formed.{nth, FitOperator, Fit, FitAll, Stretch, stretch_left, stretch_right, stretch_head}
use Rattle.haai.proofs.Signs.{two_operands, third_unread}
use Rattle.haai.proofs.Valued.{length_meanings, first_values, first_at_lem, first_of}

number_mark_lem : (n : ℕ) → value (mark_of number_kind) n ≡ value number_mark n
unfolding mark_of
number_mark_lem n = refl

-- ---- expressions

module _ (p rd w m : List ℕ) (Ran : ℕ → Type 0) (sol : Solution p rd w m Ran) (ds : List Definition) (g : ℕ) where
  abbrev gs : ℕ → Value
  gs = global_value rd w

  -- the values of d's first n sources
  abbrev given : ℕ → ℕ → List Value
  given d n = first_values (value_at p m d) n

  -- fs are what the reactors below k give
  abbrev pub Right : List Function → ℕ → Type 0
  Right fs k =
      (j d : ℕ) → j < k → Ran d → reactor m d ≡ j → S.count_of (nth ds j).body ≡ 1
      → value_at p m d (sink_loc p j 0) ≡ get_or fs j no_function (given d (nth ds j).parameters)

  module _ (o : ℕ) (ran : Ran o) (fs : List Function) (right : Right fs (reactor m o)) where
    abbrev r₀ : ℕ
    r₀ = reactor m o

    abbrev s : ℕ
    s = source_count p r₀

    abbrev D : ℕ
    D = commands_d p r₀

    abbrev base : ℕ
    base = s + D

    abbrev vs : List Value
    vs = given o s

    -- the value that R command r gives
    at_command_lem : (r l : ℕ) {x : Value} → l ≡ base + r → value_at p m o (command_loc p r₀ (D + r)) ≡ x
        → value_at p m o l ≡ x
    unfolding command_loc
    at_command_lem r l e q = let z : l ≡ s + (D + r) = omega arith in ap (λ (y : ℕ). value_at p m o y) z ∙ q

    abbrev Means : List ℕ → List Value → ℕ → Type 0
    Means ls xs n = (x : ℕ) → x < n → value_at p m o (get_or ls x 0) ≡ get_or xs x blank

    -- a call, whose operands are at ls and mean xs
    called : (j d r : ℕ) (ls : List ℕ) (xs : List Value) (n : ℕ) → length ls ≡ n → length xs ≡ n → Means ls xs n
        → FitOperator ds g s r₀ (S.reactor j) n
        → Stretch p r₀ (D + r) (supplies (s + d) 0 ls ++ (react (s + d) ∷ gives (consume 0 (s + d)) ∷ []))
        → Stretch p r₀ d (alloc_mono j ∷ []) → value_at p m o (base + (r + n + 1)) ≡ get_or fs j no_function xs
    unfolding command_loc
    called j d r ls xs n el ex means fit run decl =
        let b = s + d in
        let consuming = gives (consume 0 b) ∷ [] in
        let mono = stretch_head p r₀ d (alloc_mono j) [] decl in
        let made = sol.monos o d j ran mono.1 mono.0 in
        let c = made.0 in
        let k = length-supplies b 0 ls in
        let supplied = stretch_left p r₀ (D + r) (supplies b 0 ls) (react b ∷ consuming) run in
        let rest = stretch_right p r₀ (D + r) (D + (r + n)) (supplies b 0 ls) (react b ∷ consuming) (omega arith) run in
        let reacts = stretch_head p r₀ (D + (r + n)) (react b) consuming rest in
        let last = stretch_right p r₀ (D + (r + n)) (D + (r + n + 1)) (react b ∷ []) consuming (omega arith) rest in
        let consumes = stretch_head p r₀ (D + (r + n + 1)) (gives (consume 0 b)) [] last in
        let ran_c = sol.reacts o (D + (r + n)) b c ran reacts.1 reacts.0 made.1 in
        let value_c = sol.consumes o (D + (r + n + 1)) 0 b c ran consumes.1 consumes.0 made.1 in
        let is = made.2 in
        let sources_c : given c n ≡ xs = first_of (value_at p m c) xs n ex (λ x l.
        let f = supplied x (omega arith) in
        let z : 0 + x ≡ x = omega arith in
        let e : cmd_of p r₀ (D + r + x) ≡ supply x (get_or ls x 0) b =
        f.0 ∙ supplies_at b 0 ls x (omega arith) ∙ ap (λ (y : ℕ). supply y (get_or ls x 0) b) z in
        sol.supplies o (D + r + x) x (get_or ls x 0) b c ran f.1 e made.1 ∙ means x l) in
        at_command_lem (r + n + 1) (base + (r + n + 1)) refl value_c
        ∙ ap (λ (y : ℕ). value_at p m c (sink_loc p y 0)) is
        ∙ right j c fit.0 ran_c is fit.2
        ∙ ap (λ (y : ℕ). get_or fs j no_function (given c y)) (sym fit.1)
        ∙ ap (λ (y : List Value). get_or fs j no_function y) sources_c

    -- one more expression
    more : (es : Exprs) (e : Expr) (r : ℕ) → Means (locations_of base r es) (meanings gs es fs vs) (S.count_of es)
        → value_at p m o (location_of base (r + steps_all es) e) ≡ meaning gs e fs vs
        → Means (locations_of base r (also es e)) (meanings gs (also es e) fs vs) (S.count_of (also es e))
    unfolding locations_of meanings S.count_of
    more es e r means mean x h = by (below x (S.count_of es))
      where
        ls : List ℕ
        ls = locations_of base r es

        ms : List Value
        ms = meanings gs es fs vs

        nl : length (locations_of base r es) ≡ S.count_of es
        nl = length_locations base r es

        nm : length (meanings gs es fs vs) ≡ S.count_of es
        nm = length_meanings gs es fs vs

        l₁ : ℕ
        l₁ = location_of base (r + steps_all es) e

        by : (x < S.count_of es) ⊎ (S.count_of es ≤ x)
            → value_at p m o (get_or (locations_of base r es ++ (location_of base (r + steps_all es) e ∷ [])) x 0)
            ≡ get_or (meanings gs es fs vs ++ (meaning gs e fs vs ∷ [])) x blank
        by (inl l) =
            ap (λ (y : ℕ). value_at p m o y) (snoc_less ls l₁ 0 (S.count_of es) x nl l)
            ∙ means x l
            ∙ sym (snoc_less ms (meaning gs e fs vs) blank (S.count_of es) x nm l)
        by (inr l) =
            let z : x ≡ S.count_of es = omega arith in
            ap (λ (y : ℕ). value_at p m o y) (snoc_last ls l₁ 0 (S.count_of es) x nl z)
            ∙ mean
            ∙ sym (snoc_last ms (meaning gs e fs vs) blank (S.count_of es) x nm z)

    -- an application, whose operands are at ls and mean xs
    applied_means : (f : Operator) (d r : ℕ) (ls : List ℕ) (xs : List Value) (n : ℕ) → length ls ≡ n → length xs ≡ n
        → Means ls xs n → FitOperator ds g s r₀ f n → Stretch p r₀ (D + r) (applied (s + d) ls f)
        → Stretch p r₀ d (allocates f) → value_at p m o (base + (r + own_steps f n - 1)) ≡ applying gs fs f xs
    unfolding applied allocates own_steps applying
    applied_means (S.reactor j) d r ls xs n el ex means fit run decl =
        let z : base + (r + (n + 2) - 1) ≡ base + (r + n + 1) = omega arith in
        ap (λ (y : ℕ). value_at p m o y) z ∙ called j d r ls xs n el ex means fit run decl
    applied_means (sign x) d r ls xs n el ex means fit run decl =
        let c = stretch_head p r₀ (D + r) (gives (primitive x (get_or ls 0 0) (get_or ls 1 0) 0)) [] run in
        let q = sol.primitives o (D + r) x (get_or ls 0 0) (get_or ls 1 0) 0 ran c.1 c.0 in
        let two = fit.1 in
        let a : value_at p m o (get_or ls 0 0) ≡ get_or xs 0 blank = means 0 (omega arith) in
        let b : q.0 ≡ get_or xs 1 blank = q.3 (two_operands x fit.0) ∙ means 1 (omega arith) in
        at_command_lem r (base + (r + 1 - 1)) (omega arith) q.2
        ∙ ap (λ (y : Value). P.primitive x y q.0 q.1) a
        ∙ ap (λ (y : Value). P.primitive x (get_or xs 0 blank) y q.1) b
        ∙ third_unread x fit.0 (get_or xs 0 blank) (get_or xs 1 blank) q.1 blank

    mutual
      unfolding runs declares location_of locations_of meaning steps S.count_of calls

      value_means : (e : Expr) (d r : ℕ) → Fit ds g s r₀ e → Stretch p r₀ (D + r) (runs s base e d r)
          → Stretch p r₀ d (declares e) → value_at p m o (location_of base r e) ≡ meaning gs e fs vs
      value_means (parameter i) d r fit run decl = sym (first_at_lem (value_at p m o) s i fit)
      value_means (S.global x) d r fit run decl =
          let c = stretch_head p r₀ (D + r) (gives (global x)) [] run in
          at_command_lem r (base + r) refl (sol.globals o (D + r) x ran c.1 c.0)
      value_means (S.constant n) d r fit run decl =
          let c = stretch_head p r₀ (D + r) (gives (constant number_kind n)) [] run in
          at_command_lem r (base + r) refl (sol.constants o (D + r) number_kind n ran c.1 c.0 ∙ number_mark_lem n)
      value_means (apply f es) d r fit run decl =
          let k = length_runs_all s base es d r in
          let before = runs_all s base es d r in
          let own = applied (s + (d + calls es)) (locations_of base r es) f in
          let means = values_mean es d r fit.0 (stretch_left p r₀ (D + r) before own run)
          (stretch_left p r₀ d (declares_all es) (allocates f) decl) in
          let n = own_steps f (S.count_of es) in
          let z : base + (r + (steps_all es + n) - 1) ≡ base + (r + steps_all es + n - 1) = omega arith in
          ap (λ (y : ℕ). value_at p m o y) z
          ∙ applied_means f (d + calls es) (r + steps_all es) (locations_of base r es) (meanings gs es fs vs)
          (S.count_of es) (length_locations base r es) (length_meanings gs es fs vs) means fit.1
          (stretch_right p r₀ (D + r) (D + (r + steps_all es)) before own (omega arith) run)
          (stretch_right p r₀ d (d + calls es) (declares_all es) (allocates f) refl decl)

      pub values_mean : (es : Exprs) (d r : ℕ) → FitAll ds g s r₀ es → Stretch p r₀ (D + r) (runs_all s base es d r)
          → Stretch p r₀ d (declares_all es) → Means (locations_of base r es) (meanings gs es fs vs) (S.count_of es)
      values_mean none d r fit run decl = λ x h. absurd (omega arith)
      values_mean (also es e) d r fit run decl =
          let k = length_runs_all s base es d r in
          let before = runs_all s base es d r in
          let later = runs s base e (d + calls es) (r + steps_all es) in
          more es e r
          (values_mean es d r fit.0 (stretch_left p r₀ (D + r) before later run)
          (stretch_left p r₀ d (declares_all es) (declares e) decl))
          (value_means e (d + calls es) (r + steps_all es) fit.1
          (stretch_right p r₀ (D + r) (D + (r + steps_all es)) before later (omega arith) run)
          (stretch_right p r₀ d (d + calls es) (declares_all es) (declares e) refl decl))
