-- A word adds to the output what `adds` says, and the output is then right for what is known after the word.
use Rattle.std.specs.Prelude.{ℕ, ◌+◌, ◌-◌, ◌*◌, ◌%◌, ◌≤◌, ◌<◌, ◌≡◌, refl, List, [], ◌∷◌, ◌++◌}
use Rattle.std.proofs.Common.{sym, ◌∙◌, ap, ap₂}
use Rattle.std.specs.Prelude.{length, get_or, set}
use Rattle.std.proofs.Common.{arith, subst}
use Rattle.value.specs.Value.{number_kind}
use Rattle.value.proofs.Tests.{lt!, lt×, yes, no}
use Rattle.program.specs.Command.{alloc_mono, gives, react, constant, global, consume, primitive}
use Rattle.haai.specs.declared.Size.{Size}
use Rattle.haai.specs.Syntax as S
use Rattle.haai.specs.Syntax.{sign, parameter, apply, count_of}
use Rattle.haai.specs.Word.{sign_number}
use Rattle.haai.specs.declared.Operator.{Operator}
use Rattle.haai.specs.declared.Operator.TheVariants.{Sign, Reactor as AReactor}
use Rattle.haai.specs.Names.{Opened, Known, add_expr, add_definition}
use Rattle.haai.specs.Emit.{allocates, declares, own_steps, steps, location_of, locations_of, supplies, applied}
use Rattle.haai.specs.Emit.{runs}
use Rattle.haai.specs.Places.{applied_by, expr_of}
use Rattle.haai.specs.Writing.{put_command, put_commands, place_d, place_r, deployment_loc, location_r, first_at, row_of}
use Rattle.haai.specs.Writing.{Added, added, add_give, add_meant, call_r, add_call, add_applied, add_sinks}
use Rattle.haai.specs.declared.Cursor.{Cursor}
use Rattle.haai.specs.declared.Meant.{Meant}
use Rattle.haai.specs.declared.Meant.TheVariants.{Parameter as AParameter, Global}
use Rattle.haai.proofs.Lists.{length_locations}
use Rattle.haai.proofs.Fitting.{Now}
use Rattle.haai.proofs.Grown.{calls_open, steps_open}
use Rattle.haai.proofs.Stands.{Stands, row_is}
use Rattle.haai.proofs.Noting.{top_count, Noted}
use Rattle.haai.proofs.Apt.{Inside}
use Rattle.haai.proofs.Hindsight.{Good}
use Rattle.haai.proofs.Laying.{base_of, Laying, Pointed}
use Rattle.haai.proofs.Adding.{lays_expression, lays_applied, lays_definition}
use Rattle.haai.proofs.Pointing.{location_is, deployment_is}

-- ---- an application's commands

abbrev pub Callable : S.Operator → ℕ → Type 0
Callable (sign o) n = n ≡ 2
Callable (S.reactor j) n = j < 256

module _ (c : Cursor) (ls out : List ℕ) (i n entry : ℕ) (xs : List ℕ) (row : Stands ls i xs)
    (long : length xs ≡ n) where
  first_of : n ≡ 2 → (get_or ls i 0 ≡ get_or xs 0 0) × (get_or ls (i + 1) 0 ≡ get_or xs 1 0)
  first_of e =
      let z : i + 0 ≡ i = omega arith in
      (ap (λ (j : ℕ). get_or ls j 0) (sym z) ∙ row 0 (omega arith), row 1 (omega arith))

  pub applied_is : (f : Operator) → Callable (applied_by f) n
      → add_applied c f i n ls entry out
      ≡ added
      (put_commands (put_commands out (place_d c) (allocates (applied_by f))) (place_r c)
      (applied (deployment_loc c) xs (applied_by f)))
      (set ls entry (location_r c (own_steps (applied_by f) n - 1)))
  unfolding add_applied applied_by add_give add_call call_r allocates applied own_steps put_commands
  applied_is (Sign o) h =
      let r = first_of h in
      ap₂ (λ (x y : ℕ). add_give c entry (gives (primitive (sign_number o) x y 0)) ls out) r.0 r.1
  applied_is (AReactor j) h =
      let z : j % 256 ≡ j = omega arith in
      let y : n + 2 - 1 ≡ n + 1 = omega arith in
      let r : row_of ls i n ≡ xs = ap (row_of ls i) (sym long) ∙ row_is ls i xs row in
      let b = deployment_loc c in
      let end = react b ∷ gives (consume 0 b) ∷ [] in
      ap₂
      (λ (x : ℕ) (l : List ℕ).
      added (put_commands (put_command out (place_d c) (alloc_mono x)) (place_r c) (supplies b 0 l ++ end))
      (set ls entry (location_r c (n + 1)))) z r
      ∙ ap
      (λ (x : ℕ).
      added (put_commands (put_command out (place_d c) (alloc_mono j)) (place_r c) (supplies b 0 xs ++ end))
      (set ls entry (location_r c x))) (sym y)

own_some : (f : S.Operator) (n : ℕ) → (1 ≤ own_steps f n) × (own_steps f n ≤ n + 2)
unfolding own_steps
own_some (sign o) n = (omega arith, omega arith)
own_some (S.reactor j) n = (omega arith, omega arith)

-- ---- expressions

module _ (count : ℕ) (sizes : List Size) (end : ℕ) (old : List ℕ) (room : first_at sizes end count ≤ length old) (n : ℕ)
    (k : Known) (out ls : List ℕ) (lay : Laying count sizes end old k out ls) (good : Good n count sizes k)
    (i : Inside k) (c : Cursor) (p : Pointed sizes end c k) (deep : length k.pile ≤ 16)
    (seven : length k.parameters ≤ 7) where
  abbrev Next : Known → Added → Type 0
  Next x a = Laying count sizes end old x a.output a.locations

  abbrev After : Known → Type 0
  After = Good n count sizes

  at_next : location_r c 0 ≡ base_of sizes k + steps_open k.body k.pile
  at_next = let a = location_is count sizes end k c p (good.inside i) seven 0 (omega arith) in omega arith

  module _ (f entry : ℕ) (at : entry ≡ 7 * length k.pile + top_count k.body k.pile) where
    pub constant_lays : (v : ℕ) → After (add_expr k f k.pile (S.constant v))
        → Next (add_expr k f k.pile (S.constant v)) (add_give c entry (gives (constant number_kind v)) ls out)
    unfolding add_give added put_commands declares runs location_of
    constant_lays v after =
        lays_expression count sizes end old room n k out ls lay good i c p deep f (S.constant v) []
        (gives (constant number_kind v) ∷ []) entry (location_r c 0) after refl refl at at_next

    pub meant_lays : (m : Meant) → length k.sources ≤ 31 → Now k (expr_of m)
        → After (add_expr k f k.pile (expr_of m))
        → Next (add_expr k f k.pile (expr_of m)) (add_meant c entry ls out m)
    unfolding expr_of add_meant add_give added put_commands declares runs location_of
    meant_lays (AParameter x) few fit after =
        let z : x % 256 ≡ x = omega arith in
        lays_expression count sizes end old room n k out ls lay good i c p deep f (parameter x) [] [] entry (x % 256)
        after refl refl at z
    meant_lays (Global x) few fit after =
        let z : x ≡ x % 256 = omega arith in
        lays_expression count sizes end old room n k out ls lay good i c p deep f (S.global x) []
        (gives (global (x % 256)) ∷ []) entry (location_r c 0) after refl
        (ap (λ (y : ℕ). gives (global y) ∷ []) z) at at_next

  module _ (o : Opened) (os : List Opened) (e : k.pile ≡ o ∷ os) where
    abbrev xs : List ℕ
    xs = locations_of (base_of sizes k) (steps_open k.body os) o.operands

    abbrev size : ℕ
    size = own_steps o.operator (count_of o.operands)

    value_at_lem : count_of o.operands ≤ 7 → location_r c (size - 1)
        ≡ location_of (base_of sizes k) (steps_open k.body os) (apply o.operator o.operands)
    unfolding location_of steps steps_open
    value_at_lem few =
        let own = own_some o.operator (count_of o.operands) in
        let a = own.0 in
        let b = own.1 in
        let z : steps_open k.body k.pile ≡ steps_open k.body (o ∷ os) = ap (steps_open k.body) e in
        let l = location_is count sizes end k c p (good.inside i) seven (size - 1) (omega arith) in
        omega arith

    pub apply_lays : (f entry : ℕ) → entry ≡ 7 * length os + top_count k.body os
        → Callable o.operator (count_of o.operands) → count_of o.operands ≤ 7
        → After (add_expr k f os (apply o.operator o.operands))
        → (g : Operator) → applied_by g ≡ o.operator
        → Next (add_expr k f os (apply o.operator o.operands))
        (add_applied c g (7 * length (o ∷ os)) (count_of o.operands) ls entry out)
    unfolding added
    apply_lays f entry at fit few after g same =
        let noted : Noted ls (base_of sizes k) k.body (o ∷ os) = rw e at (lay.inside i).noted in
        let q =
        applied_is c ls out (7 * length (o ∷ os)) (count_of o.operands) entry xs noted.0
        (length_locations (base_of sizes k) (steps_open k.body os) o.operands) g
        (subst (λ (y : S.Operator). Callable y (count_of o.operands)) (sym same) fit)
        in
        let d : deployment_loc c ≡ length k.parameters + calls_open k.body (o ∷ os) =
        deployment_is count sizes end k c p (good.inside i) seven
        ∙ ap (λ (y : List Opened). length k.parameters + calls_open k.body y) e
        in
        subst (Next (add_expr k f os (apply o.operator o.operands))) (sym q)
        (rw (same, d)
        (lays_applied count sizes end old room n k out ls lay good i c p deep f o os entry (location_r c (size - 1)) e
        after at (value_at_lem few)))

  -- the sinks of a whole definition
  pub define_lays : k.pile ≡ [] → count_of k.body ≤ 7 → After (add_definition k)
      → Next (add_definition k) (add_sinks c (count_of k.body) ls out)
  unfolding add_sinks added
  define_lays e few after =
      let noted : Noted ls (base_of sizes k) k.body [] = rw e at (lay.inside i).noted in
      let xs = locations_of (base_of sizes k) 0 k.body in
      let r : row_of ls 0 (count_of k.body) ≡ xs =
      ap (row_of ls 0) (sym (length_locations (base_of sizes k) 0 k.body)) ∙ row_is ls 0 xs noted
      in
      rw r (lays_definition count sizes end old room n k out ls lay good i c p deep e after)
