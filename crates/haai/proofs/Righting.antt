-- Every emitted command is right where it stands: its operands are values and deployments, its ports exist and all
-- kinds are numbers.
use Rattle.std.specs.Prelude.{ℕ, zero, suc, ◌+◌, ◌-◌, ◌≤◌, ◌<◌, ◌≡◌, refl, ◌⊎◌, List}
use Rattle.std.proofs.Common.{sym, ◌∙◌, ap, subst, inl, inr}
use Rattle.std.specs.Prelude.{[], ◌∷◌, ◌++◌, length, get_or}
use Rattle.std.proofs.Common.{arith}
use lib.ListN.{length-append, get_or-append}
use lib.Seq.{get_or-append-add}
use Rattle.value.specs.Value.{number_kind}
use Rattle.value.specs.Primitive.{kind_given}
use Rattle.value.proofs.Tests.{below}
use Rattle.program.specs.Bytes.{reactors, globals, global_kind, sources_in, sinks_in, source_kind, sink_kind, shape_of}
use Rattle.program.specs.Bytes.{commands_d, commands_in}
use Rattle.program.specs.Command.{Give, Cmd, cmd_of, gives_value, alloc_mono, gives, supply, react, constant, global}
use Rattle.program.specs.Command.{consume, primitive}
use Rattle.program.specs.Command as C
use Rattle.program.specs.Location.{source_count, command_loc, shape_made, shape_there}
use Rattle.program.specs.Kind.{give_kind, kind_made, kind_of}
use Rattle.load.specs.Rules.{IsValue, IsDeployment, Operands, CommandRule}
use Rattle.load.proofs.Exact.Places.{loc_lt, cmd_there}
use Rattle.load.proofs.Exact.KindLaws as K
use Rattle.haai.specs.Syntax as S
use Rattle.haai.specs.Syntax.{Operator, sign, Expr, Exprs, parameter, apply, none, also, Definition}
use Rattle.haai.specs.Emit.{allocates, declares, declares_all, calls, own_steps, steps, steps_all, location_of}
use Rattle.haai.specs.Emit.{locations_of, supplies, applied, runs, runs_all}
use Rattle.haai.proofs.Lists.{snoc_less, snoc_last, length-supplies, supplies_at, length_locations}
use Rattle.haai.proofs.Lists.{length_runs_all}
use Rattle.haai.proofs.Formed.{nth, FitOperator, Fit, FitAll, Stretch, stretch_left, stretch_right, stretch_head}
use Rattle.haai.proofs.Signs.{sign_row, sign_offered}

-- the program's ports are numbers, and reactor j has shape j
pub record Ports (p : List ℕ) (ds : List Definition) (g : ℕ) : Type 0 where
  pub count : reactors p ≡ length ds
  pub outside : globals p ≡ g
  pub kind_of_global : (x : ℕ) → x ≤ g → global_kind p x ≡ 0
  pub shape : (j : ℕ) → j < length ds → shape_of p j ≡ j
  pub sources_in_lem : (j : ℕ) → j < length ds → sources_in p j ≡ (nth ds j).parameters
  pub sinks_in_lem : (j : ℕ) → j < length ds → sinks_in p j ≡ S.count_of (nth ds j).body
  pub kind_of_source : (j x : ℕ) → j < length ds → x < 7 → source_kind p j x ≡ 0
  pub kind_of_sink : (j x : ℕ) → j < length ds → x < 7 → sink_kind p j x ≡ 0
  pub few_sources : (j : ℕ) → j < length ds → (nth ds j).parameters ≤ 7
  pub few_sinks : (j : ℕ) → j < length ds → S.count_of (nth ds j).body ≤ 7

module _ (p : List ℕ) (ds : List Definition) (g : ℕ) (ports : Ports p ds g) (k : ℕ) (low : k < length ds) where
  abbrev s : ℕ
  s = source_count p k

  abbrev D : ℕ
  D = commands_d p k

  abbrev base : ℕ
  base = s + D

  -- commands cs from index i on are right
  abbrev AllRight : ℕ → List Cmd → Type 0
  AllRight i cs = (n : ℕ) → n < length cs → CommandRule p k (command_loc p k (i + n)) (get_or cs n C.none)

  right_append : (i j : ℕ) (cs bs : List Cmd) → j ≡ i + length cs → AllRight i cs → AllRight j bs
      → AllRight i (cs ++ bs)
  right_append i j cs bs e a b n h = by (below n (length cs))
    where
      by : (n < length cs) ⊎ (length cs ≤ n) → CommandRule p k (command_loc p k (i + n)) (get_or (cs ++ bs) n C.none)
      by (inl l) = rw (get_or-append cs bs C.none n l) (a n l)
      by (inr l) =
          let z : n ≡ length cs + (n - length cs) = omega arith in
          let q = length-append cs bs in
          let y : j + (n - length cs) ≡ i + n = omega arith in
          let f : get_or (cs ++ bs) n C.none ≡ get_or bs (n - length cs) C.none =
          ap (λ (x : ℕ). get_or (cs ++ bs) x C.none) z ∙ get_or-append-add cs bs (n - length cs) C.none in
          rw (f, ← y) (b (n - length cs) (omega arith))

  right_one : (i : ℕ) (c : Cmd) → CommandRule p k (command_loc p k i) c → AllRight i (c ∷ [])
  right_one i c q zero h = let z : i + 0 ≡ i = omega arith in rw z q
  right_one i c q (suc n) h = absurd (omega arith)

  -- a number that is there before command i
  abbrev Number : ℕ → ℕ → Type 0
  Number i a = IsValue p k (command_loc p k i) a × (kind_of p k a ≡ 0)

  source_number : (i a : ℕ) → a < s → Number i a
  unfolding kind_of
  source_number i a h =
      let few : a < 7 = let e = ports.few_sources k low in let f = own_sources in omega arith in (
        inl h,
        K.kind_of_source p k (suc a) a h (omega arith) ∙ ap (λ (y : ℕ). source_kind p y a) (ports.shape k low)
            ∙ ports.kind_of_source k a low few,
      )
    where
      own_sources : source_count p k ≡ (nth ds k).parameters
      own_sources = unfold source_count in ap (λ (y : ℕ). sources_in p y) (ports.shape k low) ∙ ports.sources_in_lem k low

  -- command j gives a number
  made_number : (j i a : ℕ) (w : Give) → j < i → j < commands_in p k → cmd_of p k j ≡ gives w → a ≡ command_loc p k j
      → ((f : ℕ → ℕ) → kind_made p k f (gives w) ≡ 0) → Number i a
  unfolding gives_value
  made_number j i a w h l e z kind = (
    inr (rw z (loc_lt p k h), rw z (ap gives_value (cmd_there p k j l ∙ e))),
    rw z (K.command_kind p k j l ∙ rw e (kind _)),
  )

  -- ---- deployments

  -- D command d is an AllocMono of j
  module _ (d j : ℕ) (h : d < commands_in p k) (e : cmd_of p k d ≡ alloc_mono j) (lower : j < k) where
    abbrev b : ℕ
    b = command_loc p k d

    deployed : (l : ℕ) → IsDeployment p k l b
    deployed l = inl (j, cmd_there p k d h ∙ e)

    pub shape_of_call : shape_there p k (command_loc p k d) ≡ j
    shape_of_call = K.shape_here p k d h ∙ ap (shape_made p k) e ∙ (unfold shape_made in ports.shape j (omega arith))

    -- a call's own commands, from index i on; its operands are at ls
    call_right : (i n : ℕ) (ls : List ℕ) → length ls ≡ n → n ≡ (nth ds j).parameters → S.count_of (nth ds j).body ≡ 1
        → ((x y : ℕ) → x < n → i ≤ y → Number y (get_or ls x 0))
        → AllRight i (supplies b 0 ls ++ (react b ∷ gives (consume 0 b) ∷ []))
    call_right i n ls el ep one numbers =
        right_append i (i + n) (supplies b 0 ls) (react b ∷ gives (consume 0 b) ∷ [])
        (let q = length-supplies b 0 ls in omega arith) supplied
        (right_append (i + n) (i + n + 1) (react b ∷ []) (gives (consume 0 b) ∷ []) refl
        (right_one (i + n) (react b) (deployed _))
        (right_one (i + n + 1) (gives (consume 0 b))
        (deployed _, let e₂ = shape_of_call in rw e₂ (let q = ports.sinks_in_lem j (omega arith) in omega arith))))
      where
        supplied : AllRight i (supplies b 0 ls)
        supplied x h =
            let q = length-supplies b 0 ls in
            let z : 0 + x ≡ x = omega arith in
            let c : get_or (supplies b 0 ls) x C.none ≡ supply x (get_or ls x 0) b =
            supplies_at b 0 ls x (omega arith) ∙ ap (λ (y : ℕ). supply y (get_or ls x 0) b) z in
            let num = numbers x (i + x) (omega arith) (omega arith) in
            let low_j : j < length ds = omega arith in
            let few : x < 7 = let f = ports.few_sources j low_j in omega arith in
            let e₂ = shape_of_call in
            let there : x < sources_in p j = let f = ports.sources_in_lem j low_j in omega arith in
            rw c (num.0, deployed _, rw e₂ there, rw e₂ (num.1 ∙ sym (ports.kind_of_source j x low_j few)))

    -- its Consume gives a number
    consumed_number : (f : ℕ → ℕ) → S.count_of (nth ds j).body ≡ 1
        → kind_made p k f (gives (consume 0 b)) ≡ 0
    unfolding kind_made give_kind
    consumed_number f one = let e₂ = shape_of_call in rw e₂ (ports.kind_of_sink j 0 (omega arith) (omega arith))

  -- ---- signs

  sign_kind : (o : ℕ) → o < 4 → (a b c : ℕ) (f : ℕ → ℕ) → kind_made p k f (gives (primitive o a b c)) ≡ 0
  unfolding kind_made give_kind kind_given
  sign_kind o h a b c f = ap (λ r. kind_given r.gives (f b)) (sign_row o h).1

  sign_right : (o : ℕ) → o < 4 → (i a b : ℕ) → Number i a → Number i b
      → CommandRule p k (command_loc p k i) (gives (primitive o a b 0))
  sign_right o h i a b x y = (
    sign_offered o h,
    subst (λ r. Operands p k (command_loc p k i) r.takes a b 0) (sym (sign_row o h).1) (x.0, y.0, x.1, y.1),
  )

  -- ---- expressions

  -- an application's own commands, from R index r on, with d AllocMonos before
  applied_right : (f : Operator) (d r n : ℕ) (ls : List ℕ) → length ls ≡ n → FitOperator ds g s k f n
      → Stretch p k d (allocates f)
      → ((x y : ℕ) → x < n → D + r ≤ y → Number y (get_or ls x 0)) → AllRight (D + r) (applied (s + d) ls f)
  unfolding applied allocates command_loc
  applied_right (sign o) d r n ls el fit decl numbers =
      let two = fit.1 in
      right_one (D + r) (gives (primitive o (get_or ls 0 0) (get_or ls 1 0) 0))
      (sign_right o fit.0 (D + r) (get_or ls 0 0) (get_or ls 1 0) (numbers 0 (D + r) (omega arith) (omega arith))
      (numbers 1 (D + r) (omega arith) (omega arith)))
  applied_right (S.reactor j) d r n ls el fit decl numbers =
      let mono = stretch_head p k d (alloc_mono j) [] decl in
      call_right d j mono.1 mono.0 fit.0 (D + r) n ls el fit.1 fit.2 numbers

  -- and the number at its last command
  applied_number : (f : Operator) (d r n : ℕ) (ls : List ℕ) → length ls ≡ n → FitOperator ds g s k f n
      → Stretch p k d (allocates f) → Stretch p k (D + r) (applied (s + d) ls f)
      → (i : ℕ) → D + r + own_steps f n ≤ i → Number i (base + (r + own_steps f n - 1))
  unfolding applied allocates own_steps command_loc
  applied_number (sign o) d r n ls el fit decl run i h =
      let c = stretch_head p k (D + r) (gives (primitive o (get_or ls 0 0) (get_or ls 1 0) 0)) [] run in
      made_number (D + r) i (base + (r + 1 - 1)) (primitive o (get_or ls 0 0) (get_or ls 1 0) 0) (omega arith) c.1 c.0
      (omega arith) (sign_kind o fit.0 (get_or ls 0 0) (get_or ls 1 0) 0)
  applied_number (S.reactor j) d r n ls el fit decl run i h =
      let mono = stretch_head p k d (alloc_mono j) [] decl in
      let q = length-supplies (s + d) 0 ls in
      let rest =
      stretch_right p k (D + r) (D + r + n) (supplies (s + d) 0 ls)
      (react (s + d) ∷ gives (consume 0 (s + d)) ∷ []) (omega arith) run in
      let last =
      stretch_right p k (D + r + n) (D + r + n + 1) (react (s + d) ∷ []) (gives (consume 0 (s + d)) ∷ [])
      refl rest in
      let c = stretch_head p k (D + r + n + 1) (gives (consume 0 (s + d))) [] last in
      made_number (D + r + n + 1) i (base + (r + (n + 2) - 1)) (consume 0 (s + d)) (omega arith) c.1 c.0
      (omega arith) (λ f. consumed_number d j mono.1 mono.0 fit.0 f fit.2)

  place : (r : ℕ) → base + r ≡ command_loc p k (D + r)
  unfolding command_loc
  place r = omega arith

  kind_global : (x : ℕ) → x ≤ g → (f : ℕ → ℕ) → kind_made p k f (gives (global x)) ≡ 0
  unfolding kind_made give_kind
  kind_global x h f = ports.kind_of_global x h

  kind_constant : (n : ℕ) (f : ℕ → ℕ) → kind_made p k f (gives (constant number_kind n)) ≡ 0
  unfolding kind_made give_kind
  kind_constant n f = refl

  -- one operand more
  more_numbers : (es : Exprs) (e : Expr) (r : ℕ)
      → ((x y : ℕ) → x < S.count_of es → D + r + steps_all es ≤ y → Number y (get_or (locations_of base r es) x 0))
      → ((y : ℕ) → D + (r + steps_all es) + steps e ≤ y → Number y (location_of base (r + steps_all es) e))
      → (x y : ℕ) → x < S.count_of es + 1 → D + r + (steps_all es + steps e) ≤ y
      → Number y (get_or (locations_of base r es ++ (location_of base (r + steps_all es) e ∷ [])) x 0)
  more_numbers es e r old new x y h l = by (below x (S.count_of es))
    where
      by : (x < S.count_of es) ⊎ (S.count_of es ≤ x)
          → Number y (get_or (locations_of base r es ++ (location_of base (r + steps_all es) e ∷ [])) x 0)
      by (inl q) =
          let z =
          snoc_less (locations_of base r es) (location_of base (r + steps_all es) e) 0 (S.count_of es) x
          (length_locations base r es) q in
          rw z (old x y q (omega arith))
      by (inr q) =
          let z =
          snoc_last (locations_of base r es) (location_of base (r + steps_all es) e) 0 (S.count_of es) x
          (length_locations base r es) (omega arith) in
          rw z (new y (omega arith))

  mutual
    unfolding runs declares location_of locations_of steps S.count_of calls

    number_there : (e : Expr) (d r : ℕ) → Fit ds g s k e → Stretch p k (D + r) (runs s base e d r)
        → Stretch p k d (declares e) → (y : ℕ) → D + r + steps e ≤ y → Number y (location_of base r e)
    number_there (parameter i) d r fit run decl y h = source_number y i fit
    number_there (S.global x) d r fit run decl y h =
        let c = stretch_head p k (D + r) (gives (global x)) [] run in
        made_number (D + r) y (base + r) (global x) (omega arith) c.1 c.0 (place r) (kind_global x fit)
    number_there (S.constant n) d r fit run decl y h =
        let c = stretch_head p k (D + r) (gives (constant number_kind n)) [] run in
        made_number (D + r) y (base + r) (constant number_kind n) (omega arith) c.1 c.0 (place r) (kind_constant n)
    number_there (apply f es) d r fit run decl y h =
        let q = length_runs_all s base es d r in
        let own = applied (s + (d + calls es)) (locations_of base r es) f in
        let o = own_steps f (S.count_of es) in
        let z : base + (r + steps_all es + o - 1) ≡ base + (r + (steps_all es + o) - 1) = omega arith in
        let num =
        applied_number f (d + calls es) (r + steps_all es) (S.count_of es) (locations_of base r es)
        (length_locations base r es) fit.1
        (stretch_right p k d (d + calls es) (declares_all es) (allocates f) refl decl)
        (stretch_right p k (D + r) (D + (r + steps_all es)) (runs_all s base es d r) own (omega arith) run) y
        (omega arith) in
        rw z at num

    pub numbers_there : (es : Exprs) (d r : ℕ) → FitAll ds g s k es → Stretch p k (D + r) (runs_all s base es d r)
        → Stretch p k d (declares_all es)
        → (x y : ℕ) → x < S.count_of es → D + r + steps_all es ≤ y → Number y (get_or (locations_of base r es) x 0)
    numbers_there none d r fit run decl x y h l = absurd (omega arith)
    numbers_there (also es e) d r fit run decl x y h l =
        let q = length_runs_all s base es d r in
        let later = runs s base e (d + calls es) (r + steps_all es) in
        more_numbers es e r
        (λ x y h l. numbers_there es d r fit.0 (stretch_left p k (D + r) (runs_all s base es d r) later run)
        (stretch_left p k d (declares_all es) (declares e) decl) x y h l)
        (λ y h.
        number_there e (d + calls es) (r + steps_all es) fit.1
        (stretch_right p k (D + r) (D + (r + steps_all es)) (runs_all s base es d r) later (omega arith) run)
        (stretch_right p k d (d + calls es) (declares_all es) (declares e) refl decl) y h)
        x y h l

  mutual
    unfolding runs declares steps calls

    right_runs : (e : Expr) (d r : ℕ) → Fit ds g s k e → Stretch p k (D + r) (runs s base e d r)
        → Stretch p k d (declares e) → AllRight (D + r) (runs s base e d r)
    right_runs (parameter i) d r fit run decl = λ n h. absurd (omega arith)
    right_runs (S.global x) d r fit run decl =
        right_one (D + r) (gives (global x)) (let e = ports.outside in omega arith)
    right_runs (S.constant n) d r fit run decl = right_one (D + r) (gives (constant number_kind n)) (omega arith, tt)
    right_runs (apply f es) d r fit run decl =
        let q = length_runs_all s base es d r in
        let own = applied (s + (d + calls es)) (locations_of base r es) f in
        let run₁ = stretch_left p k (D + r) (runs_all s base es d r) own run in
        let decl₁ = stretch_left p k d (declares_all es) (allocates f) decl in
        right_append (D + r) (D + (r + steps_all es)) (runs_all s base es d r) own (omega arith)
        (right_runs_all es d r fit.0 run₁ decl₁)
        (applied_right f (d + calls es) (r + steps_all es) (S.count_of es) (locations_of base r es)
        (length_locations base r es) fit.1
        (stretch_right p k d (d + calls es) (declares_all es) (allocates f) refl decl)
        (λ x y h l. numbers_there es d r fit.0 run₁ decl₁ x y h (omega arith)))

    pub right_runs_all : (es : Exprs) (d r : ℕ) → FitAll ds g s k es → Stretch p k (D + r) (runs_all s base es d r)
        → Stretch p k d (declares_all es) → AllRight (D + r) (runs_all s base es d r)
    right_runs_all none d r fit run decl = λ n h. absurd (omega arith)
    right_runs_all (also es e) d r fit run decl =
        let q = length_runs_all s base es d r in
        let later = runs s base e (d + calls es) (r + steps_all es) in
        right_append (D + r) (D + (r + steps_all es)) (runs_all s base es d r) later (omega arith)
        (right_runs_all es d r fit.0 (stretch_left p k (D + r) (runs_all s base es d r) later run)
        (stretch_left p k d (declares_all es) (declares e) decl))
        (right_runs e (d + calls es) (r + steps_all es) fit.1
        (stretch_right p k (D + r) (D + (r + steps_all es)) (runs_all s base es d r) later (omega arith) run)
        (stretch_right p k d (d + calls es) (declares_all es) (declares e) refl decl))
