-- The rules of one reactor, stated over positions, are the rules read command by command: ReactorRule ↔ Stepwise.
use Rattle.std.specs.Prelude.{ℕ, ◌≤◌, ◌<◌, ◌≡◌, refl, ◌⊎◌, ◌↔◌, List}
use Rattle.std.proofs.Common.{sym, ◌∙◌, ap, subst, inl, inr, arith}
use Rattle.std.proofs.Math.Logic.{⊎_map}
use native.Mathlib.Nat.{lt_trans}
use Rattle.value.specs.Test.{◌<?◌}
use Rattle.value.specs.Primitive.{row_of, operands, count_of}
use Rattle.value.specs.declared.Takes.{Takes}
use Rattle.value.specs.declared.Takes.TheVariants.{TwoNumbers, OneTruth, TwoTruths, OneOfAny, TruthThenTwo, TwoAlike}
use Rattle.value.proofs.Tests.{cases, remains, lt?, lt×?}
use Rattle.program.specs.Bytes.{commands_d, commands_in, sources_in}
use Rattle.program.specs.Command.{Cmd, Sequence, cmd_of, sequence_of, D, R, neither, alloc_mono, make_poly, constant}
use Rattle.program.specs.Command.{global, supply, react, consume, sink, alloc_poly, primitive, cell, fetch, keep, none}
use Rattle.program.specs.Command.{gives, a_point, a_deployment, class_of, a_cell}
use Rattle.program.specs.Location.{command_loc, sink_loc, cmd_at, shape_there}
use Rattle.program.specs.Kind.{kind_of}
use Rattle.load.specs.Rules.{IsValue, IsDeployment, IsPoint, IsCell, Operands, CommandRule, Once, Supplies}
use Rattle.load.specs.Rules.{Reacts, Allocates, Keeps, Sets, Served, ReactorRule}
use Rattle.load.specs.Order.{Never, Already}
use Rattle.load.proofs.Exact.Seen.{FirstOnly, one, once}
use Rattle.load.proofs.Exact.Places.{class_at, loc_lt, cmd_there, cmd_where, class_sink, by_place, value_exact}
use Rattle.load.proofs.Exact.Places.{deployment_exact, point_exact, cell_exact}
use Rattle.load.specs.Fault.{KindsFit, InSequence, Ranged, Remaining, Agreed}
use Rattle.load.proofs.Exact.Fits.{ValueAt, PlacedAt, Timely, Fits, Ended, Stepwise}

-- ---- sequences

abbrev IsD : Sequence → Type 0
IsD D = Unit {0}
IsD R = ⊥
IsD neither = ⊥

d≢r : D ≡ R → ⊥
d≢r e = subst IsD e tt

D≢neither : D ≡ neither → ⊥
D≢neither e = subst IsD e tt

module _ (p : List ℕ) (r k : ℕ) where
  in_d : (q : Sequence) → InSequence p r k q → k < commands_d p r → q ≡ D
  in_d D h l = refl
  in_d R h l = absurd (h l)
  in_d neither h l = absurd h

  in_r : (q : Sequence) → InSequence p r k q → commands_d p r ≤ k → q ≡ R
  in_r D h l = absurd (omega arith)
  in_r R h l = refl
  in_r neither h l = absurd h

module _ (p : List ℕ) (r : ℕ) where
  -- what a command names stands there, where the D commands come before command k

  abbrev DBefore : ℕ → Type 0
  DBefore k = (i : ℕ) → i < commands_in p r → sequence_of (cmd_of p r i) ≡ D → i < k

  module _ (k : ℕ) (few : k ≤ commands_in p r) (d_before : DBefore k) where
    d_low : (b : ℕ) (c : Cmd) → sequence_of c ≡ D → (c ≡ none → ⊥) → cmd_at p r b ≡ c → b < command_loc p r k
    d_low b c d some e =
        let w = cmd_where p r b c e some in
        subst (λ j. j < command_loc p r k) (sym w.2) (loc_lt p r (d_before w.0 w.1 (ap sequence_of w.3 ∙ d)))

    deployment_there : (b : ℕ) → IsDeployment p r (command_loc p r k) b → class_at p r k b ≡ a_deployment
    unfolding sequence_of
    deployment_there b (inl m) =
        let low = d_low b (alloc_mono m.0) refl (λ q. D≢neither (ap sequence_of q)) m.1 in
        (deployment_exact p r k b few).1 (low, inl m)
    deployment_there b (inr m) = (deployment_exact p r k b few).1 (m.0, inr m)

    point_there : (b : ℕ) → IsPoint p r b → class_at p r k b ≡ a_point
    unfolding sequence_of
    point_there b m =
        let low = d_low b (make_poly m.0) refl (λ q. D≢neither (ap sequence_of q)) m.1 in
        (point_exact p r k b few).1 (low, m)

    cell_there : (b : ℕ) → IsCell p r b → class_at p r k b ≡ a_cell
    unfolding sequence_of
    cell_there b m =
        let low = d_low b (cell m.0 m.1) refl (λ q. D≢neither (ap sequence_of q)) m.2 in
        (cell_exact p r k b few).1 (low, m)

  -- ---- a primitive's operands

  operands_of : (l : ℕ) (t : Takes) (a b c : ℕ) →
      (IsValue p r l a × ((count_of t < 2) ⊎ IsValue p r l b) × ((count_of t < 3) ⊎ IsValue p r l c)
      × KindsFit t (kind_of p r a) (kind_of p r b) (kind_of p r c))
      ↔ Operands p r l t a b c
  unfolding count_of
  operands_of l TwoNumbers a b c = (
    (λ h. (h.0, remains (omega arith) h.1, h.3.0, h.3.1)),
    (λ h. (h.0, inr h.1, inl (omega arith), (h.2, h.3))),
  )
  operands_of l OneTruth a b c = ((λ h. (h.0, h.3)), (λ h. (h.0, inl (omega arith), inl (omega arith), h.1)))
  operands_of l TwoTruths a b c = (
    (λ h. (h.0, remains (omega arith) h.1, h.3.0, h.3.1)),
    (λ h. (h.0, inr h.1, inl (omega arith), (h.2, h.3))),
  )
  operands_of l OneOfAny a b c = ((λ h. h.0), (λ h. (h, inl (omega arith), inl (omega arith), tt)))
  operands_of l TruthThenTwo a b c = (
    (λ h. (h.0, remains (omega arith) h.1, remains (omega arith) h.2, h.3.0, h.3.1)),
    (λ h. (h.0, inr h.1, inr h.2, (h.3, h.4))),
  )
  operands_of l TwoAlike a b c =
      ((λ h. (h.0, remains (omega arith) h.1, h.3)), (λ h. (h.0, inr h.1, inl (omega arith), h.2)))

  -- ---- from each command's fit to the rules

  values : (k a : ℕ) → k ≤ commands_in p r → ValueAt p r k a ↔ IsValue p r (command_loc p r k) a
  values k a few = value_exact p r k a few

  deployments : (k b : ℕ) → k ≤ commands_in p r → class_at p r k b ≡ a_deployment → IsDeployment p r (command_loc p r k) b
  deployments k b few e = ((deployment_exact p r k b few).0 e).1

  right : (k : ℕ) (c : Cmd) → k ≤ commands_in p r → Fits p r k c → CommandRule p r (command_loc p r k) c
  unfolding operands
  right k (alloc_mono x) few f = (f.ranged, f.timely)
  right k (make_poly x) few f = f.ranged
  right k (cell x v) few f = f.ranged
  right k (gives (constant x v)) few f = f.ranged
  right k (gives (global x)) few f = f.ranged
  right k (gives (consume x b)) few f = (deployments k b few f.placed, f.agreed)
  right k (gives (primitive x a b c)) few f = (
    (f.ranged, f.remaining),
    (operands_of (command_loc p r k) (row_of x).takes a b c).0 (
      (values k a few).0 f.placed.0,
      ⊎_map (λ h. h) (values k b few).0 f.placed.1,
      ⊎_map (λ h. h) (values k c few).0 f.placed.2,
      f.agreed,
    ),
  )
  right k (gives (fetch b)) few f = ((cell_exact p r k b few).0 f.placed).1
  right k (supply x a b) few f =
      ((values k a few).0 f.placed.0, deployments k b few f.placed.1, f.agreed.0, f.agreed.1)
  right k (react b) few f = deployments k b few f.placed
  right k (sink x a) few f = ((values k a few).0 f.placed, f.agreed.0, f.agreed.1)
  right k (alloc_poly a b) few f =
      ((values k a few).0 f.placed.0, ((point_exact p r k b few).0 f.placed.1).1, f.agreed)
  right k (keep a b) few f =
      ((values k a few).0 f.placed.0, ((cell_exact p r k b few).0 f.placed.1).1, f.agreed)
  right k none few f = f.ranged

  module _ (g : Stepwise p r) where
    fit : (k : ℕ) (c : Cmd) → k < commands_in p r → cmd_of p r k ≡ c → Fits p r k c
    fit k c h e = subst (Fits p r k) e (g.fits k h)

    d_all : DBefore (commands_in p r)
    d_all i h e = h

    served : (b : ℕ) → IsDeployment p r (command_loc p r (commands_in p r)) b → Served p r b
    served b d =
        let e = deployment_there (commands_in p r) (omega arith) d_all b d in
        let a = subst (Ended p r b) e (g.ended b) in
        let reacts_first : FirstOnly p r (Reacts p r b) = λ i h q. (fit i (react b) h q).timely.0 in
        record {
          at = a.0;
          react = once p r (Reacts p r b) reacts_first a.0 a.1 a.2;
          supplied = λ x h.
              let s = (fit a.0 (react b) a.1 a.2).timely.1 x h in
              let first : FirstOnly p r (Supplies p r x b) = λ i l q. (fit i (supply x q.0 b) l q.1).timely.1 in
              (s.0, once p r (Supplies p r x b) first s.0 (lt_trans s.1 a.1) s.2, s.1);
          consumed = λ i h q.
              let s = (fit i (gives (consume q.0 b)) h q.1).timely in
              let same : s.0 ≡ a.0 =
              one p r (Reacts p r b) reacts_first s.0 a.0 (lt_trans s.1 h) a.1 s.2 a.2 in
              subst (λ j. j < i) same s.1;
        }

    pub rule_of_steps : ReactorRule p r
    rule_of_steps =
        record {
          in_d = λ i h. in_d p r i _ (g.fits i (unfold commands_in in omega arith)).in_its_sequence h;
          in_r = λ i h l. in_r p r i _ (g.fits i l).in_its_sequence h;
          zero_bytes = λ i h. (g.fits i h).zero_bytes;
          commands = λ i h. right i _ (omega arith) (g.fits i h);
          deployments = served;
          points = λ b m.
              let a = subst (Ended p r b) (point_there (commands_in p r) (omega arith) d_all b m) (g.ended b) in (
                a.0,
                once p r (Allocates p r b) (λ i l q. (fit i (alloc_poly q.0 b) l q.1).timely) a.0 a.1 a.2,
              );
          cells = λ b m.
              let a = subst (Ended p r b) (cell_there (commands_in p r) (omega arith) d_all b m) (g.ended b) in
              (a.0, once p r (Keeps p r b) (λ i l q. (fit i (keep q.0 b) l q.1).timely) a.0 a.1 a.2);
          set = λ x h.
              let e = class_sink p r (commands_in p r) x h (omega arith) in
              let a = subst (Ended p r (sink_loc p r x)) e (g.ended (sink_loc p r x)) in
              (a.0, once p r (Sets p r x) (λ i l q. (fit i (sink x q.0) l q.1).timely) a.0 a.1 a.2);
        }

  -- ---- from the rules to each command's fit

  module _ (u : ReactorRule p r) where
    -- positions of D commands, before position k
    d_early : (k : ℕ) → commands_d p r ≤ k → DBefore k
    d_early k l i h e =
        cases (i <? commands_d p r)
        (λ y. let a : i < commands_d p r = lt? y in omega arith)
        (λ y. absurd (d≢r (sym e ∙ u.in_r i (lt×? y) h)))

    deployment_end : (k b : ℕ) → k ≤ commands_in p r →
        IsDeployment p r (command_loc p r k) b → IsDeployment p r (command_loc p r (commands_in p r)) b
    unfolding command_loc
    deployment_end k b few (inl m) = inl m
    deployment_end k b few (inr m) = let h = m.0 in inr (omega arith, m.1)

    in_its_sequence : (k : ℕ) → k < commands_in p r → InSequence p r k (sequence_of (cmd_of p r k))
    in_its_sequence k h =
        cases (k <? commands_d p r)
        (λ y. subst (InSequence p r k) (sym (u.in_d k (lt? y))) (lt? y))
        (λ y.
        subst (InSequence p r k) (sym (u.in_r k (lt×? y) h)) (λ l. let a : commands_d p r ≤ k = lt×? y in omega arith))

    module _ (k : ℕ) (h : k < commands_in p r) where
      few : k ≤ commands_in p r
      few = omega arith

      -- command k is of R: the D commands came before it
      r_late : (c : Cmd) → cmd_of p r k ≡ c → sequence_of c ≡ R → commands_d p r ≤ k
      r_late c e q =
          cases (k <? commands_d p r) (λ y. absurd (d≢r (sym (u.in_d k (lt? y)) ∙ ap sequence_of e ∙ q))) (λ y. lt×? y)

      deployment_now : (b : ℕ) (c : Cmd) → cmd_of p r k ≡ c → sequence_of c ≡ R →
          IsDeployment p r (command_loc p r k) b → class_at p r k b ≡ a_deployment
      deployment_now b c e q d = deployment_there k few (d_early k (r_late c e q)) b d

      -- what only one command of the reactor does, no command before k does, if k does it
      first : (P : Cmd → Type 0) (i : ℕ) → Once p r P i → P (cmd_of p r k) → Never p r P k
      first P i o q j l z = let a : k ≡ i = o.only k h q in let b : j ≡ i = o.only j (lt_trans l h) z in omega arith

      -- command k supplies b before b reacts
      before_react : (x a b : ℕ) → cmd_of p r k ≡ supply x a b → x < sources_in p (shape_there p r b) → Served p r b →
          Never p r (Reacts p r b) k
      before_react x a b e l s j m z =
          let t = s.supplied x l in
          let i : k ≡ t.0 = t.1.only k h (a, e) in
          let o : j ≡ s.at = s.react.only j (lt_trans m h) z in
          let before : t.0 < s.at = t.2 in
          omega arith

      fitted : (c : Cmd) → cmd_of p r k ≡ c → CommandRule p r (command_loc p r k) c →
          Ranged p c × Remaining c × PlacedAt p r k c × Agreed p r c × Timely p r k c
      unfolding operands sequence_of
      fitted (alloc_mono x) e g = (g.0, tt, tt, tt, g.1)
      fitted (make_poly x) e g = (g, tt, tt, tt, tt)
      fitted (cell x v) e g = (g, tt, tt, tt, tt)
      fitted (gives (constant x v)) e g = (g, tt, tt, tt, tt)
      fitted (gives (global x)) e g = (g, tt, tt, tt, tt)
      fitted (gives (consume x b)) e g =
          let s = u.deployments b (deployment_end k b few g.0) in
          (tt, tt, deployment_now b _ e refl g.0, g.1, (s.at, s.consumed k h (x, e), s.react.is))
      fitted (gives (primitive x a b c)) e g =
          let o = (operands_of (command_loc p r k) (row_of x).takes a b c).1 g.1 in
          let bs = ⊎_map (λ h. h) (values k b few).1 o.1 in
          let cs = ⊎_map (λ h. h) (values k c few).1 o.2 in
          (g.0.0, g.0.1, ((values k a few).1 o.0, bs, cs), o.3, tt)
      fitted (gives (fetch b)) e g = (tt, tt, cell_there k few (d_early k (r_late _ e refl)) b g, tt, tt)
      fitted (supply x a b) e g =
          let s = u.deployments b (deployment_end k b few g.1) in
          let t = s.supplied x g.2 in (
            tt,
            tt,
            ((values k a few).1 g.0, deployment_now b _ e refl g.1),
            (g.2, g.3),
            (before_react x a b e g.2 s, first (Supplies p r x b) t.0 t.1 (a, e)),
          )
      fitted (react b) e g =
          let s = u.deployments b (deployment_end k b few g) in
          let i : k ≡ s.at = s.react.only k h e in (
            tt,
            tt,
            deployment_now b _ e refl g,
            tt,
            (
              first (Reacts p r b) s.at s.react e,
              λ x l. let t = s.supplied x l in (t.0, subst (λ j. t.0 < j) (sym i) t.2, t.1.is),
            ),
          )
      fitted (sink x a) e g =
          let t = u.set x g.1 in
          (tt, tt, (values k a few).1 g.0, (g.1, g.2), first (Sets p r x) t.0 t.1 (a, e))
      fitted (alloc_poly a b) e g =
          let t = u.points b g.1 in
          let at = point_there k few (d_early k (r_late _ e refl)) b g.1 in
          (tt, tt, ((values k a few).1 g.0, at), g.2, first (Allocates p r b) t.0 t.1 (a, e))
      fitted (keep a b) e g =
          let t = u.cells b g.1 in
          let at = cell_there k few (d_early k (r_late _ e refl)) b g.1 in
          (tt, tt, ((values k a few).1 g.0, at), g.2, first (Keeps p r b) t.0 t.1 (a, e))
      fitted none e g = absurd g

      fits : Fits p r k (cmd_of p r k)
      fits =
          let f = fitted (cmd_of p r k) refl (u.commands k h) in
          record {
            in_its_sequence = in_its_sequence k h;
            zero_bytes = u.zero_bytes k h;
            ranged = f.0;
            remaining = f.1;
            placed = f.2;
            agreed = f.3;
            timely = f.4;
          }

    reacted : (b : ℕ) → IsDeployment p r (command_loc p r (commands_in p r)) b →
        Already p r (Reacts p r b) (commands_in p r)
    reacted b d = let s = u.deployments b d in (s.at, s.react.there, s.react.is)

    ended : (i : ℕ) → i < commands_in p r → (c : Cmd) → cmd_at p r (command_loc p r i) ≡ c →
        Ended p r (command_loc p r i) (class_of c)
    unfolding class_of
    ended i h (alloc_mono x) e = reacted _ (inl (x, e))
    ended i h (make_poly x) e = let t = u.points _ (x, e) in (t.0, t.1.there, t.1.is)
    ended i h (cell x v) e = let t = u.cells _ (x, v, e) in (t.0, t.1.there, t.1.is)
    ended i h (gives g) e = tt
    ended i h (supply x a b) e = tt
    ended i h (react b) e = tt
    ended i h (sink x a) e = tt
    ended i h (alloc_poly a b) e = reacted _ (inr (loc_lt p r h, (a, b, e)))
    ended i h (keep a b) e = tt
    ended i h none e = tt

    pub steps_of_rule : Stepwise p r
    steps_of_rule =
        record {
          fits = fits;
          ended =
              by_place p r (commands_in p r) (Ended p r) (omega arith)
              (λ l h. tt)
              (λ i h. ended i h (cmd_of p r i) (cmd_there p r i h))
              (λ i h l. tt)
              (λ x h. let t = u.set x h in (t.0, t.1.there, t.1.is))
              (λ l h. tt);
        }

  pub rule_exact : Stepwise p r ↔ ReactorRule p r
  rule_exact = (rule_of_steps, steps_of_rule)
