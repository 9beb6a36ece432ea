-- The static facts follow from the rules.
use Rattle.std.specs.Prelude.{ℕ, suc, ◌≤◌, ◌<◌, ◌≡◌, refl, false}
use Rattle.std.proofs.Common.{sym, ◌∙◌, ap, subst, inl, inr, true≢false}
use Rattle.std.proofs.Math.Logic.{⊎_map}
use Rattle.std.specs.Prelude.{List}
use Rattle.std.proofs.Common.{arith}
use native.Mathlib.Nat.{lt_trans}
use Rattle.value.specs.Value.{truth_kind}
use Rattle.program.specs.Bytes.{reactors, shape_of, sources_in, source_kind, sink_kind, commands_d, commands_in}
use Rattle.program.specs.Command.{Cmd, cmd_of, sequence_of, gives_value, D, alloc_mono, make_poly, supply, react, sink}
use Rattle.program.specs.Command.{alloc_poly, cell, keep, none, gives, a_value, a_cell, a_point, a_deployment}
use Rattle.program.specs.Location.{source_count, command_loc, cmd_at, shape_made, shape_there}
use Rattle.program.specs.Kind.{kind_made, kind_in, kind_of}
use Rattle.load.specs.Scan.{scan_of, begin_of}
use Rattle.load.specs.Rules.{IsDeployment, Supplies, Reacts, Allocates, Keeps, Sets, ReactorRule, Rules}
use Rattle.load.specs.Rules.{TablesRight}
use Rattle.load.proofs.Exact.Seen.{one}
use Rattle.load.proofs.Exact.Class.{IsMade, shows_as, clash}
use Rattle.load.proofs.Exact.Places.{class_at, loc_lt, cmd_there, by_place, value_low, made_where, point_exact}
use Rattle.load.proofs.Exact.Places.{cell_exact}
use Rattle.load.proofs.Exact.KindLaws.{kind_of_source, kind_of_sink, shape_at_point, command_kind, shape_here, given_same}
use Rattle.load.specs.Fault.{InSequence, Ranged}
use Rattle.load.proofs.Exact.Fits.{Fits, ValueAt, Stepwise}
use Rattle.load.proofs.Exact.Rule.{rule_exact}
use Rattle.load.proofs.Exact.Holds.{Holding, kind_at_depth, cell_at_depth}
use Rattle.load.proofs.Exact.Reactor.{first_run, first_fits}
use Rattle.load.proofs.Exact.Static.{ValueBefore, source, made, DeploymentBefore, mono, poly, PointBefore}
use Rattle.load.proofs.Exact.Static.{CellBefore, Static, Single, cell_command}

module _ (p : List ℕ) (r : ℕ) (u : ReactorRule p r) where
  steps : Stepwise p r
  steps = (rule_exact p r).1 u

  fit : (i : ℕ) (c : Cmd) → i < commands_in p r → cmd_of p r i ≡ c → Fits p r i c
  fit i c h e = subst (Fits p r i) e (steps.fits i h)

  -- ---- what stands before command i

  d_below : (i : ℕ) (c : Cmd) → i < commands_in p r → cmd_of p r i ≡ c → sequence_of c ≡ D → i < commands_d p r
  d_below i c h e q = subst (InSequence p r i) q (fit i c h e).in_its_sequence

  value_before : (i a : ℕ) → i ≤ commands_in p r → ValueAt p r i a → ValueBefore p r i a
  value_before i a few =
      by_place p r i (λ l c. c ≡ a_value → ValueBefore p r i l) few
      (λ l h e. source h)
      (λ j h e. made j h refl (shows_as (cmd_of p r j) e))
      (λ j h l e. clash e (omega arith))
      (λ x h e. clash e (omega arith))
      (λ l h e. clash e (omega arith)) a

  deployment_before : (i b : ℕ) → i ≤ commands_in p r → class_at p r i b ≡ a_deployment →
      DeploymentBefore p r i (shape_there p r b) b
  unfolding shape_made
  deployment_before i b few e =
      let w = made_where p r i b few (subst IsMade (sym e) tt) in
      let l = w.1 in
      let h : w.0 < commands_in p r = omega arith in
      let shape : shape_there p r b ≡ shape_made p r (cmd_of p r w.0) =
      ap (shape_there p r) w.2 ∙ shape_here p r w.0 h in
      elim (shows_as (cmd_of p r w.0) (sym w.3 ∙ e)) [
        | inl m ↦ mono w.0 m.0 l w.2 m.1 (sym (shape ∙ ap (shape_made p r) m.1))
        | inr m ↦
            (let at = ((point_exact p r w.0 m.1 (omega arith)).0 (fit w.0 _ h m.2).placed.1).1 in
            poly w.0 m.0 m.1 l w.2 m.2
            (shape_at_point p r m.1 at.0 at.1 ∙ sym (shape ∙ ap (shape_made p r) m.2)))
      ]

  point_before : (i b : ℕ) → i ≤ commands_in p r → class_at p r i b ≡ a_point → PointBefore p r i (shape_there p r b) b
  unfolding shape_made sequence_of
  point_before i b few e =
      let w = made_where p r i b few (subst IsMade (sym e) tt) in
      let l = w.1 in
      let h : w.0 < commands_in p r = omega arith in
      let m = shows_as (cmd_of p r w.0) (sym w.3 ∙ e) in
      let shape : shape_there p r b ≡ m.0 =
      ap (shape_there p r) w.2 ∙ shape_here p r w.0 h ∙ ap (shape_made p r) m.1 in
      (w.0, l, d_below w.0 _ h m.1 refl, w.2, m.1 ∙ ap make_poly (sym shape))

  cell_before : (i b : ℕ) → i ≤ commands_in p r → class_at p r i b ≡ a_cell → (k : ℕ) × CellBefore p r i k b
  unfolding sequence_of
  cell_before i b few e =
      let w = made_where p r i b few (subst IsMade (sym e) tt) in
      let l = w.1 in
      let h : w.0 < commands_in p r = omega arith in
      let m = shows_as (cmd_of p r w.0) (sym w.3 ∙ e) in
      let low = d_below w.0 _ h m.2 refl in
      (m.0, record { index = w.0; bits = m.1; before = l; low = low; place = w.2; is = m.2 })

  -- ---- kinds

  -- a port of a reactor with the shape that is known
  port_kind : (q s x k : ℕ) → x < sources_in p s → k ≡ source_kind p s x → shape_of p q ≡ s → kind_of p q x ≡ k
  unfolding kind_of source_count
  port_kind q s x k h e z = kind_of_source p q (suc x) x (subst (λ m. x < sources_in p m) (sym z) h) (omega arith)
      ∙ ap (λ m. source_kind p m x) z ∙ sym e

  own_kind : (i : ℕ) (c : Cmd) → i < commands_in p r → cmd_of p r i ≡ c →
      kind_of p r (command_loc p r i) ≡ kind_made p r (kind_in (command_loc p r i) p r) c
  own_kind i c h e = command_kind p r i h ∙ ap (kind_made p r (kind_in (command_loc p r i) p r)) e

  no_value : (f : ℕ → ℕ) (c : Cmd) → gives_value c ≡ false → Ranged p c → kind_made p r f c ≤ truth_kind
  unfolding gives_value kind_made
  no_value f (alloc_mono x) e g = omega arith
  no_value f (make_poly x) e g = omega arith
  no_value f (cell x v) e g = g.0
  no_value f (gives y) e g = absurd (true≢false e)
  no_value f (supply x a b) e g = omega arith
  no_value f (react b) e g = omega arith
  no_value f (sink x a) e g = omega arith
  no_value f (alloc_poly a b) e g = omega arith
  no_value f (keep a b) e g = omega arith
  no_value f none e g = omega arith

  -- ---- once

  there : (b i : ℕ) (c : Cmd) → i < commands_in p r → b ≡ command_loc p r i → cmd_of p r i ≡ c → cmd_at p r b ≡ c
  there b i c h e q = ap (cmd_at p r) e ∙ cmd_there p r i h ∙ q

  deployment_rule : (s b : ℕ) → DeploymentBefore p r (commands_in p r) s b →
      IsDeployment p r (command_loc p r (commands_in p r)) b
  deployment_rule s b (mono j x h e q z) = inl (x, there b j _ h e q)
  deployment_rule s b (poly j a c h e q z) =
      inr (subst (λ l. l < command_loc p r (commands_in p r)) (sym e) (loc_lt p r h), (a, c, there b j _ h e q))

  one_supply : (x b i k a a' : ℕ) → i < commands_in p r → k < commands_in p r → cmd_of p r i ≡ supply x a b →
      cmd_of p r k ≡ supply x a' b → i ≡ k
  one_supply x b i k a a' hi hk e f =
      one p r (Supplies p r x b) (λ j h q. (fit j _ h q.1).timely.1) i k hi hk (a, e) (a', f)

  one_react : (b i k : ℕ) → i < commands_in p r → k < commands_in p r → cmd_of p r i ≡ react b →
      cmd_of p r k ≡ react b → i ≡ k
  one_react b = one p r (Reacts p r b) (λ j h q. (fit j _ h q).timely.0)

  pub single : Single p r
  single =
      record {
        one_supply = λ i k x a a' b. one_supply x b i k a a';
        one_react = λ i k b. one_react b i k;
        one_sink =
            λ i k x a a' hi hk e f. one p r (Sets p r x) (λ j h q. (fit j _ h q.1).timely) i k hi hk (a, e) (a', f);
        one_poly = λ i k a a' b hi hk e f.
            one p r (Allocates p r b) (λ j h q. (fit j _ h q.1).timely) i k hi hk (a, e) (a', f);
        one_keep = λ i k a a' b hi hk e f.
            one p r (Keeps p r b) (λ j h q. (fit j _ h q.1).timely) i k hi hk (a, e) (a', f);
        supply_first = λ i k x a b hi hk e f.
            let w = (fit k _ hk f).timely.1 x (fit i _ hi e).agreed.0 in
            subst (λ j. j < k) (one_supply x b w.0 i w.2.0 a (lt_trans w.1 hk) hi w.2.1 e) w.1;
        react_first = λ i k x b hi hk e f.
            let w = (fit i _ hi e).timely in
            subst (λ j. j < i) (one_react b w.0 k (lt_trans w.1 hi) hk w.2 f) w.1;
        all_react = λ b s d. let w = u.deployments b (deployment_rule s b d) in (w.at, w.react.there, w.react.is);
        all_sinks = λ x h. let w = u.set x h in (w.0, w.1.is.0, w.1.there, w.1.is.1);
        all_cells = λ b s d.
            let w = u.cells b (s, d.bits, cell_command p r d (omega arith)) in
            (w.0, w.1.is.0, w.1.there, w.1.is.1);
        all_points = λ b s d.
            let w = u.points b (s, there b d.0 _ d.1 d.3 d.4) in
            (w.0, w.1.is.0, w.1.there, w.1.is.1);
      }

  -- ---- before

  module _ (t : TablesRight p) (low : r < reactors p) where
    -- the scan before command i
    scanned : (i : ℕ) → i ≤ commands_in p r → Holding p r i (scan_of i p r (begin_of p r)).scan
    scanned i few = (first_run p r t low i few (first_fits p r t low i few (λ j l. steps.fits j (omega arith)))).1

    -- a value's kind, at any depth that suffices, and a cell's
    kind_deep : (i a f : ℕ) → i ≤ commands_in p r → ValueAt p r i a → a < f → kind_in f p r a ≡ kind_of p r a
    unfolding kind_of
    kind_deep i a f few v h =
        let g = scanned i few in
        sym (kind_at_depth g a v f h) ∙ kind_at_depth g a v (suc a) (omega arith)

    cell_deep : (i a f : ℕ) → i ≤ commands_in p r → class_at p r i a ≡ a_cell → a < f → kind_in f p r a ≡ kind_of p r a
    unfolding kind_of
    cell_deep i a f few v h =
        let g = scanned i few in
        sym (cell_at_depth g a v f h) ∙ cell_at_depth g a v (suc a) (omega arith)

    -- a cell operand's kind is its own
    a_cell_before : (i b : ℕ) → i ≤ commands_in p r → class_at p r i b ≡ a_cell → CellBefore p r i (kind_of p r b) b
    unfolding kind_made
    a_cell_before i b few e =
        let c = cell_before i b few e in
        let w = c.1 in
        let l = w.before in
        let k : kind_of p r b ≡ c.0 = ap (kind_of p r) w.place ∙ own_kind w.index _ (omega arith) w.is in
        subst (λ j. CellBefore p r i j b) (sym k) w

    pub static : Static p r
    unfolding kind_made sequence_of
    static =
        record {
          in_d = u.in_d;
          in_r = u.in_r;
          monos = λ i x h e. let f = fit i _ h e in (d_below i _ h e refl, f.ranged, f.timely);
          points = λ i s h e. (d_below i _ h e refl, (fit i _ h e).ranged);
          constants = λ i k v h e. let f = fit i _ h e in (own_kind i _ h e, f.ranged.0, f.ranged.1);
          globals = λ i x h e. (own_kind i _ h e, (fit i _ h e).ranged);
          supplies = λ i x a b h e.
              let f = fit i _ h e in (
                value_before i a (omega arith) f.placed.0,
                (
                  shape_there p r b,
                  deployment_before i b (omega arith) f.placed.1,
                  f.agreed.0,
                  λ q z. port_kind q (shape_there p r b) x (kind_of p r a) f.agreed.0 f.agreed.1 z,
                ),
              );
          reacts = λ i b h e.
              let f = fit i _ h e in (
                shape_there p r b,
                deployment_before i b (omega arith) f.placed,
                λ x l. let s = f.timely.1 x l in (s.0, s.2.0, s.1, s.2.1),
              );
          consumes = λ i x b h e.
              let f = fit i _ h e in (
                shape_there p r b,
                deployment_before i b (omega arith) f.placed,
                f.agreed,
                f.timely,
                λ q z. kind_of_sink p q x ∙ ap (λ m. sink_kind p m x) z ∙ sym (own_kind i _ h e),
              );
          sinks_of_lem = λ i x a h e.
              let f = fit i _ h e in
              (value_before i a (omega arith) f.placed, f.agreed.0, kind_of_sink p r x ∙ sym f.agreed.1);
          polys = λ i a b h e.
              let f = fit i _ h e in (
                value_before i a (omega arith) f.placed.0,
                (shape_there p r b, point_before i b (omega arith) f.placed.1, f.agreed),
              );
          primitives = λ i x a b c h e.
              let f = fit i _ h e in (
                (f.ranged, f.remaining),
                value_before i a (omega arith) f.placed.0,
                ⊎_map (λ q. q) (value_before i b (omega arith)) f.placed.1,
                ⊎_map (λ q. q) (value_before i c (omega arith)) f.placed.2,
                f.agreed,
                own_kind i _ h e
                    ∙ given_same x _ _ f.ranged
                    (⊎_map (λ q. q) (λ v. kind_deep i b _ (omega arith) v (value_low p r i b (omega arith) v))
                    f.placed.1),
              );
          cells = λ i k v h e.
              let f = fit i _ h e in
              (d_below i _ h e refl, own_kind i _ h e, f.ranged.0, f.ranged.1);
          fetches = λ i b h e.
              let f = fit i _ h e in (
                a_cell_before i b (omega arith) f.placed,
                own_kind i _ h e
                    ∙ cell_deep i b _ (omega arith) f.placed ((cell_exact p r i b (omega arith)).0 f.placed).0,
              );
          keeps = λ i a b h e.
              let f = fit i _ h e in (
                value_before i a (omega arith) f.placed.0,
                a_cell_before i b (omega arith) f.placed.1,
                f.agreed,
              );
          no_kind = λ i h e.
              subst (λ k. k ≤ truth_kind) (sym (own_kind i _ h refl))
              (no_value _ (cmd_of p r i) e (steps.fits i h).ranged);
        }

-- of each reactor of a program that keeps the rules
pub all_static : (p : List ℕ) → Rules p → (r : ℕ) → r < reactors p → Static p r × Single p r
all_static p u r h = (static p r (u.every_reactor r h) u.tables h, single p r (u.every_reactor r h))
