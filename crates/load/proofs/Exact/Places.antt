-- Where a location lies, and what class of thing stands there after the first k commands of reactor r.
use Rattle.std.specs.Prelude.{ℕ, suc, ◌+◌, ◌-◌, ◌≤◌, ◌<◌, ◌≡◌, refl, ◌↔◌}
use Rattle.std.proofs.Common.{sym, ◌∙◌, ap, subst, inl, inr, true≢false}
use Rattle.std.specs.Prelude.{List}
use Rattle.std.proofs.Common.{arith}
use native.Mathlib.Numerals.{lt_of_le_of_ne}
use Rattle.value.specs.Test.{pick, ◌<?◌, ◌≤?◌, ◌and◌}
use Rattle.value.proofs.Tests.{cases, yes, no, lt!, lt×, le!, lt?, lt×?, le?, both!, both?}
use Rattle.program.specs.Bytes.{commands_in}
use Rattle.program.specs.Command.{Cmd, cmd_of, gives_value, alloc_mono, make_poly, alloc_poly, cell, none, Class, a_value}
use Rattle.program.specs.Command.{a_cell, a_point, a_deployment, a_sink, nothing, class_of}
use Rattle.program.specs.Location.{source_count, sink_count, command_loc, sink_loc, locations, cmd_at}
use Rattle.load.specs.Rules.{IsValue, IsDeployment, IsPoint, IsCell}
use Rattle.load.proofs.Exact.Class.{IsMade, clash, shows_as, value_class_lem}

-- what stands at location l after the first k commands
unfoldable pub class_at : List ℕ → ℕ → ℕ → ℕ → Class
class_at p r k l =
    pick (l <? source_count p r) a_value
    (pick (l <? command_loc p r k) (class_of (cmd_at p r l))
    (pick (l <? sink_loc p r 0) nothing
    (pick (l <? locations p r) (a_sink (l - sink_loc p r 0)) nothing)))

-- ---- commands and their locations

module _ (p : List ℕ) (r : ℕ) where
  -- locations go as positions do
  pub loc_lt : {i k : ℕ} → i < k → command_loc p r i < command_loc p r k
  unfolding command_loc
  loc_lt h = omega arith

  pub loc_lt_back : {i k : ℕ} → command_loc p r i < command_loc p r k → i < k
  unfolding command_loc
  loc_lt_back h = omega arith

  pub cmd_there : (i : ℕ) → i < commands_in p r → cmd_at p r (command_loc p r i) ≡ cmd_of p r i
  unfolding cmd_at command_loc sink_loc
  cmd_there i h =
      let e : source_count p r + i - source_count p r ≡ i = omega arith in
      sym (yes none (both! (le! (omega arith)) (lt! (omega arith))) (ap (cmd_of p r) (sym e)))

  -- a command is at a command's location
  pub cmd_where : (l : ℕ) (c : Cmd) → cmd_at p r l ≡ c → (c ≡ none → ⊥) →
      (i : ℕ) × (i < commands_in p r) × (l ≡ command_loc p r i) × (cmd_of p r i ≡ c)
  unfolding cmd_at command_loc sink_loc
  cmd_where l c e d =
      cases ((source_count p r ≤? l) and (l <? source_count p r + commands_in p r + 0))
      (λ t.
      let u = both? t in
      let a : source_count p r ≤ l = le? u.0 in
      let b : l < source_count p r + commands_in p r + 0 = lt? u.1 in
      (l - source_count p r, omega arith, omega arith, yes none t refl ∙ e))
      (λ t. absurd (d (sym e ∙ sym (no _ t refl))))

  -- ---- the class of a location

  module _ (k : ℕ) where
    pub class_source : (l : ℕ) → l < source_count p r → class_at p r k l ≡ a_value
    unfolding class_at
    class_source l h = sym (yes _ (lt! h) refl)

    pub class_made : (i : ℕ) → i < k → k ≤ commands_in p r → class_at p r k (command_loc p r i) ≡ class_of (cmd_of p r i)
    unfolding class_at command_loc
    class_made i h few =
        sym (no _ (lt× (omega arith)) (yes _ (lt! (omega arith))
        (sym (ap class_of (unfold command_loc in cmd_there i (omega arith))))))

    pub class_ahead : (i : ℕ) → k ≤ i → i < commands_in p r → class_at p r k (command_loc p r i) ≡ nothing
    unfolding class_at command_loc sink_loc
    class_ahead i h few = sym (no _ (lt× (omega arith)) (no _ (lt× (omega arith)) (yes _ (lt! (omega arith)) refl)))

    pub class_sink : (x : ℕ) → x < sink_count p r → k ≤ commands_in p r → class_at p r k (sink_loc p r x) ≡ a_sink x
    unfolding class_at command_loc sink_loc locations
    class_sink x h few =
        let e : source_count p r + commands_in p r + x - (source_count p r + commands_in p r + 0) ≡ x = omega arith in
        sym (no _ (lt× (omega arith)) (no _ (lt× (omega arith)) (no _ (lt× (omega arith))
        (yes _ (lt! (omega arith)) (sym (ap a_sink e))))))

    pub class_past : (l : ℕ) → locations p r ≤ l → k ≤ commands_in p r → class_at p r k l ≡ nothing
    unfolding class_at command_loc sink_loc locations
    class_past l h few = sym (no _ (lt× (omega arith))
        (no _ (lt× (omega arith)) (no _ (lt× (omega arith)) (no _ (lt× (omega arith)) refl))))

    -- every location is one of these five
    pub by_place : (P : ℕ → Class → Type 0) → k ≤ commands_in p r →
        ((l : ℕ) → l < source_count p r → P l a_value) →
        ((i : ℕ) → i < k → P (command_loc p r i) (class_of (cmd_of p r i))) →
        ((i : ℕ) → k ≤ i → i < commands_in p r → P (command_loc p r i) nothing) →
        ((x : ℕ) → x < sink_count p r → P (sink_loc p r x) (a_sink x)) →
        ((l : ℕ) → locations p r ≤ l → P l nothing) →
        (l : ℕ) → P l (class_at p r k l)
    unfolding command_loc sink_loc locations
    by_place P few src made ahead snk past l =
        cases (l <? source_count p r) (λ y. subst (P l) (sym (class_source l (lt? y))) (src l (lt? y))) (λ y.
        let a : source_count p r ≤ l = lt×? y in
        cases (l <? source_count p r + commands_in p r) (λ z.
        let b : l < source_count p r + commands_in p r = lt? z in
        let i : ℕ = l - source_count p r in
        let e : l ≡ source_count p r + i = omega arith in
        let c : i < commands_in p r = omega arith in
        subst (λ j. P j (class_at p r k j)) (sym e)
        (cases (i <? k)
        (λ w. subst (P _) (sym (class_made i (lt? w) few)) (made i (lt? w)))
        (λ w. subst (P _) (sym (class_ahead i (lt×? w) c)) (ahead i (lt×? w) c)))) (λ z.
        let b : source_count p r + commands_in p r ≤ l = lt×? z in
        let x : ℕ = l - (source_count p r + commands_in p r) in
        let e : l ≡ source_count p r + commands_in p r + x = omega arith in
        cases (x <? sink_count p r)
        (λ w. subst (λ j. P j (class_at p r k j)) (sym e) (subst (P _) (sym (class_sink x (lt? w) few)) (snk x (lt? w))))
        (λ w.
        let c : sink_count p r ≤ x = lt×? w in
        let d : source_count p r + commands_in p r + sink_count p r ≤ l = omega arith in
        subst (P l) (sym (class_past l d few)) (past l d))))

  -- one command more changes what stands at its own location only
  pub class_step : (k l : ℕ) → (l ≡ command_loc p r k → ⊥) → class_at p r (suc k) l ≡ class_at p r k l
  unfolding class_at
  class_step k l d =
      ap (λ t.
      pick (l <? source_count p r) a_value
      (pick t (class_of (cmd_at p r l))
      (pick (l <? sink_loc p r 0) nothing
      (pick (l <? locations p r) (a_sink (l - sink_loc p r 0)) nothing)))) same
    where
      next : command_loc p r (suc k) ≡ suc (command_loc p r k)
      next = unfold command_loc in omega arith

      same : (l <? command_loc p r (suc k)) ≡ (l <? command_loc p r k)
      same =
          cases (l <? command_loc p r k)
          (λ y. let h : l < command_loc p r k = lt? y in lt! (omega (arith, next)) ∙ sym y)
          (λ y.
          let h : command_loc p r k < l = lt_of_le_of_ne (lt×? y) (λ e. d (sym e)) in lt× (omega (arith, next)) ∙ sym y)

  -- ---- the classes in the words of the rules

  -- a value operand of the next command
  pub value_exact : (k l : ℕ) → k ≤ commands_in p r → (class_at p r k l ≡ a_value) ↔ IsValue p r (command_loc p r k) l
  value_exact k l few = (
    by_place k (λ j c. c ≡ a_value → IsValue p r (command_loc p r k) j) few
        (λ j h e. inl h)
        (λ i h e. inr (loc_lt h, ap gives_value (cmd_there i (omega arith)) ∙ shows_as (cmd_of p r i) e))
        (λ i h n e. clash e (omega arith))
        (λ x h e. clash e (omega arith))
        (λ j h e. clash e (omega arith)) l,
    (λ v. elim v [
      | inl h ↦ class_source k l h
      | inr h ↦
          (let w = cmd_where l (cmd_at p r l) refl
          (λ e. true≢false (sym h.1 ∙ ap gives_value e ∙ unfold gives_value in refl)) in
          let i : w.0 < k = loc_lt_back (subst (λ j. j < command_loc p r k) w.2 h.0) in
          ap (class_at p r k) w.2 ∙ class_made k w.0 i few
          ∙ value_class_lem (cmd_of p r w.0) (ap gives_value w.3 ∙ h.1))
    ]),
  )

  -- it is lower
  pub value_low : (k l : ℕ) → k ≤ commands_in p r → class_at p r k l ≡ a_value → l < command_loc p r k
  unfolding command_loc
  value_low k l few e = elim ((value_exact k l few).0 e) [ inl q ↦ (omega arith) | inr q ↦ q.0 ]

  -- a deployment, a branch point or a cell stands at an earlier command's location
  pub made_where : (k l : ℕ) → k ≤ commands_in p r → IsMade (class_at p r k l) →
      (i : ℕ) × (i < k) × (l ≡ command_loc p r i) × (class_at p r k l ≡ class_of (cmd_of p r i))
  made_where k l few =
      by_place k (λ j c. IsMade c → (i : ℕ) × (i < k) × (j ≡ command_loc p r i) × (c ≡ class_of (cmd_of p r i))) few
      (λ j h z. absurd z)
      (λ i h z. (i, h, refl, refl))
      (λ i h n z. absurd z)
      (λ x h z. absurd z)
      (λ j h z. absurd z)
      l

  -- what an earlier command made stands at its location
  pub made_there : (k b : ℕ) (c : Cmd) → k ≤ commands_in p r → IsMade (class_of c) → b < command_loc p r k →
      cmd_at p r b ≡ c → class_at p r k b ≡ class_of c
  unfolding class_of
  made_there k b c few made low e =
      let w = cmd_where b c e (λ q. subst (λ d. IsMade (class_of d)) q made) in
      let i : w.0 < k = loc_lt_back (subst (λ j. j < command_loc p r k) w.2 low) in
      ap (class_at p r k) w.2 ∙ class_made k w.0 i few ∙ ap class_of w.3

  -- it is lower, and the command there is the one that made it
  pub made_at : (k b : ℕ) → k ≤ commands_in p r → IsMade (class_at p r k b) →
      (b < command_loc p r k) × (class_of (cmd_at p r b) ≡ class_at p r k b)
  made_at k b few m =
      let w = made_where k b few m in (
        subst (λ j. j < command_loc p r k) (sym w.2) (loc_lt w.1),
        ap class_of (ap (cmd_at p r) w.2 ∙ cmd_there w.0 (omega (arith, w.1))) ∙ sym w.3,
      )

  -- a deployment operand, a branch point and a cell, of the next command
  pub deployment_exact : (k b : ℕ) → k ≤ commands_in p r →
      (class_at p r k b ≡ a_deployment) ↔ ((b < command_loc p r k) × IsDeployment p r (command_loc p r k) b)
  unfolding class_of
  deployment_exact k b few = (
    (λ e.
        let w = made_at k b few (subst IsMade (sym e) tt) in
        elim (shows_as (cmd_at p r b) (w.1 ∙ e)) [
          | inl m ↦ (w.0, inl m)
          | inr m ↦ (w.0, inr (w.0, m))
        ]),
    (λ h. elim h.1 [
      | inl m ↦ made_there k b (alloc_mono m.0) few tt h.0 m.1
      | inr m ↦ made_there k b (alloc_poly m.1.0 m.1.1) few tt h.0 m.1.2
    ]),
  )

  pub point_exact : (k b : ℕ) → k ≤ commands_in p r →
      (class_at p r k b ≡ a_point) ↔ ((b < command_loc p r k) × IsPoint p r b)
  unfolding class_of
  point_exact k b few = (
    (λ e. let w = made_at k b few (subst IsMade (sym e) tt) in (w.0, shows_as (cmd_at p r b) (w.1 ∙ e))),
    (λ h. made_there k b (make_poly h.1.0) few tt h.0 h.1.1),
  )

  pub cell_exact : (k b : ℕ) → k ≤ commands_in p r →
      (class_at p r k b ≡ a_cell) ↔ ((b < command_loc p r k) × IsCell p r b)
  unfolding class_of
  cell_exact k b few = (
    (λ e. let w = made_at k b few (subst IsMade (sym e) tt) in (w.0, shows_as (cmd_at p r b) (w.1 ∙ e))),
    (λ h. made_there k b (cell h.1.0 h.1.1) few tt h.0 h.1.2),
  )
