-- A command that fits keeps the tables right: what they hold before it, they hold after it.
use Rattle.std.specs.Prelude.{ℕ, suc, ◌+◌, ◌^◌, ◌≤◌, ◌<◌, ◌≡◌, refl, List}
use Rattle.std.proofs.Common.{sym, ◌∙◌, ap, subst, inl, inr}
use Rattle.std.proofs.Math.Logic.{⊎_map}
use Rattle.std.proofs.Common.{arith}
use native.Mathlib.Nat.{lt_of_lt_of_le}
use Rattle.value.specs.Test.{◌=?◌}
use Rattle.value.proofs.Tests.{cases, eq?, eq×?}
use Rattle.program.specs.Bytes.{shapes, reactors, shape_of, sources_in, sink_kind, commands_in}
use Rattle.program.specs.Command.{Give, Cmd, cmd_of, made_by, alloc_mono, make_poly, constant, global, supply, react}
use Rattle.program.specs.Command.{consume, sink, alloc_poly, primitive, cell, fetch, keep, none, gives, a_value}
use Rattle.program.specs.Command.{a_deployment, nothing, class_of}
use Rattle.program.specs.Location.{most_locations, command_loc, sink_loc, cmd_at, point_shape, shape_made, shape_there}
use Rattle.program.specs.Kind.{kind_made, kind_in, give_kind}
use Rattle.load.specs.Scan.{standing_at, kind_at, stand, standing_after, advance, after_of, some_value, free_cell}
use Rattle.load.specs.Scan.{kept_cell, free_point, used_point, set_sink, has_run, waiting}
use Rattle.load.specs.Rules.{Supplies, Reacts, Allocates, Keeps, Sets, TablesRight}
use Rattle.load.specs.declared.Scan.{Scan}
use Rattle.load.proofs.Exact.Bits.{bit, add_bit, keep_bit}
use Rattle.load.specs.Order.{Never}
use Rattle.load.proofs.Exact.Seen.{Tells, never_more, already_now, tells_more, tells_lo}
use Rattle.load.proofs.Exact.Class.{IsMade}
use Rattle.load.proofs.Exact.Places.{class_at, class_sink, made_where, value_low, point_exact, cell_exact}
use Rattle.load.proofs.Exact.KindLaws.{shape_at_point, given_same}
use Rattle.load.proofs.Exact.Fits.{Fits}
use Rattle.load.proofs.Exact.Holds.{Touches, Deployed, Holds, HoldsAt, as_read, Holding, holds_as, kind_at_depth}
use Rattle.load.proofs.Exact.Holds.{cell_at_depth, shape_of_deployment}
use Rattle.load.proofs.Exact.Stand.{stand_sized, stand-next, reads_there, reads_else, command_inside}
use Rattle.load.proofs.Exact.Stand.{sink_inside}
use Rattle.load.proofs.Exact.Untouched.{not_own, own_value, own_cell, own_point, own_deployment}
use Rattle.load.proofs.Exact.Change.{Change, changed, placed, touching}

-- a deployment whose source x is supplied by command k
deployed_supply : (p : List ℕ) (r n k b st x a : ℕ) → n ≤ 7 → x < n → cmd_of p r k ≡ supply x a b →
    Never p r (Reacts p r b) k → Never p r (Supplies p r x b) k → Deployed p r n k b st →
    Deployed p r n (suc k) b (st + 2 ^ x)
deployed_supply p r n k b st x a few i e nr ns (inl h) = absurd (nr h.1.0 h.1.1 h.1.2)
deployed_supply p r n k b st x a few i e nr ns (inr h) =
    let low = h.0 in
    let clear : bit st x ≡ 0 = (tells_lo p r (Supplies p r x b) 0 1 k (bit st x) (omega arith) (h.3 x i)).1 ns in
    let m = add_bit n st few h.0 h.1 x i clear in
    inr (
      omega arith,
      m.1,
      never_more p r (Reacts p r b) k h.2 (λ q. let z : ◌≡◌ {A = ℕ} 0 1 = cc in omega arith),
      λ y j.
          cases (x =? y)
          (λ w.
          let now = already_now p r (Supplies p r y b) k (a, e ∙ ap (λ v. supply v a b) (eq? w)) in
          inr (subst (λ v. bit (st + 2 ^ x) v ≡ 1) (eq? w) m.0, now))
          (λ w.
          let same = keep_bit n st few h.0 h.1 x y (omega arith) (omega arith) (eq×? w) clear in
          subst (Tells p r 0 1 (Supplies p r y b) (suc k)) (sym same)
          (tells_more p r (Supplies p r y b) 0 1 k (bit st y) (λ q. let t = q.1 in eq×? w (cc)) (h.3 y j))),
    )

module _ {p : List ℕ} {r k : ℕ} {s : Scan}
    (g : Holding p r k s) (h : k < commands_in p r) (t : TablesRight p) (low : r < reactors p) where
  room : command_loc p r k < most_locations
  room = command_inside p r t low k h

  made_room : (b : ℕ) → IsMade (class_at p r k b) → b < most_locations
  made_room b m =
      let w = made_where p r k b g.few m in
      let i = w.1 in
      subst (λ j. j < most_locations) (sym w.2) (command_inside p r t low w.0 (omega arith))

  -- command k is c, and fits
  module _ (c : Cmd) (e : cmd_of p r k ≡ c) (f : Fits p r k c) where
    at_k : Fits p r k (cmd_of p r k)
    at_k = subst (Fits p r k) (sym e) f

    -- c gives a value of kind kd
    puts : (kd : ℕ) → class_of c ≡ a_value → ((l : ℕ) → Touches p r l c → ⊥) →
        ((i : ℕ) → command_loc p r k ≤ i → kd ≡ kind_made p r (kind_in i p r) c) →
        Change p r k s c (stand s (command_loc p r k) some_value kd)
    puts kd class free kind =
        placed g h some_value kd room c free
        (subst (Holds p r (suc k) (command_loc p r k) some_value kd) (sym class)
        (own_value g h at_k kd (λ i l. kind i l ∙ ap (kind_made p r (kind_in i p r)) (sym e))))

    -- c writes st at the location b of a deployment
    serves : (b st : ℕ) → class_at p r k b ≡ a_deployment →
        Touches p r b c → ((l : ℕ) → Touches p r l c → b ≡ l) → class_of c ≡ nothing →
        Deployed p r (sources_in p (shape_there p r b)) (suc k) b st → Change p r k s c (stand s b st (kind_at s b))
    serves b st at mine only empty after =
        touching g h b st (kind_at s b) (made_room b (subst IsMade (sym at) tt)) c e f mine only empty
        (subst (Holds p r (suc k) b st (kind_at s b)) (sym at) (after, (holds_as g b at).1))

  -- an AllocPoly: its branch point is used, and a deployment of the point's shape stands at its own location
  allocates : (a b : ℕ) → cmd_of p r k ≡ alloc_poly a b → Fits p r k (alloc_poly a b) →
      Change p r k s (alloc_poly a b) (stand (stand s b used_point (kind_at s b)) (command_loc p r k) waiting (kind_at s b))
  unfolding class_of shape_made
  allocates a b e f =
      let here = command_loc p r k in
      let kd = kind_at s b in
      let v = stand s b used_point kd in
      let u = stand v here waiting kd in
      let at = f.placed.1 in
      let held = (holds_as g b at).1 in
      let apart : b ≡ here → ⊥ = not_own g h (alloc_poly a b) f in
      let w = ((point_exact p r k b g.few).0 at).1 in
      let shape : kd ≡ point_shape (made_by (cmd_at p r b)) = held.0 ∙ shape_at_point p r b w.0 w.1 in
      let small = subst (λ m. m < shapes p) (sym held.0) held.1 in
      let sized = stand_sized s b used_point kd g.sized in
      let used = reads_there s b used_point kd g.sized (made_room b (subst IsMade (sym at) tt)) in
      let still = reads_else v here waiting kd b apart in
      record {
        own =
            as_read p r (suc k) here a_deployment u (reads_there v here waiting kd sized room)
            (own_deployment g h (at_k (alloc_poly a b) e f) t kd (shape ∙ ap (shape_made p r) (sym e)) small);
        touched = λ l q.
            subst (λ j. HoldsAt p r (suc k) u j (class_at p r k j)) q
            (as_read p r (suc k) b (class_at p r k b) u (still.0 ∙ used.0, still.1 ∙ used.1)
            (subst (Holds p r (suc k) b used_point kd) (sym at)
            (inr (refl, already_now p r (Allocates p r b) k (a, e)), held)));
        same = λ l d q.
            let x = reads_else v here waiting kd l d in
            let y = reads_else s b used_point kd l (λ w. q (sym w)) in
            (x.0 ∙ y.0, x.1 ∙ y.1);
        sized = stand_sized v here waiting kd sized;
        next = stand-next v here waiting kd ∙ stand-next s b used_point kd;
      }

  -- the kind of a value as the scan notes it is the kind of its location
  give_kind_lem : (y : Give) → Fits p r k (gives y) → (i : ℕ) → command_loc p r k ≤ i
      → give_kind p (kind_at s) (kind_at s) y ≡ give_kind p (shape_there p r) (kind_in i p r) y
  unfolding give_kind
  give_kind_lem (constant x v) f i l = refl
  give_kind_lem (global x) f i l = refl
  give_kind_lem (consume x b) f i l = ap (λ m. sink_kind p m x) (shape_of_deployment g b f.placed)
  give_kind_lem (primitive x a b c) f i l =
      given_same x _ _ f.ranged
      (⊎_map (λ q. q) (λ v. kind_at_depth g b v i (lt_of_lt_of_le (value_low p r k b g.few v) l)) f.placed.1)
  give_kind_lem (fetch b) f i l =
      cell_at_depth g b f.placed i (lt_of_lt_of_le ((cell_exact p r k b g.few).0 f.placed).0 l)

  change : (c : Cmd) → cmd_of p r k ≡ c → Fits p r k c → Change p r k s c (standing_after p r s (command_loc p r k) c)
  unfolding standing_after class_of shape_made kind_made
  change (alloc_mono x) e f =
      placed g h waiting (shape_of p x) room (alloc_mono x) (λ l q. q)
      (own_deployment g h (at_k _ e f) t (shape_of p x) (sym (ap (shape_made p r) e)) (t.entries x f.ranged).shape)
  change (make_poly x) e f = placed g h free_point x room (make_poly x) (λ l q. q)
      (own_point g h (at_k _ e f) x (sym (ap (shape_made p r) e)) f.ranged)
  change (cell x v) e f =
      placed g h free_cell x room (cell x v) (λ l q. q)
      (own_cell g h (at_k _ e f) x (λ i l. sym (ap (kind_made p r (kind_in i p r)) e)))
  change (gives y) e f = puts (gives y) e f _ refl (λ l q. q) (give_kind_lem y f)
  change (supply x a b) e f =
      let held = holds_as g b f.placed.1 in
      let seven = (t.every_shape _ held.1.1).few_sources in
      serves _ e f b (standing_at s b + 2 ^ x) f.placed.1 refl (λ l q. q) refl
      (deployed_supply p r _ k b (standing_at s b) x a seven f.agreed.0 e f.timely.0 f.timely.1 held.0)
  change (react b) e f =
      serves _ e f b has_run f.placed refl (λ l q. q) refl (inl (refl, already_now p r (Reacts p r b) k e))
  change (sink x a) e f =
      let at = class_sink p r k x f.agreed.0 g.few in
      touching g h (sink_loc p r x) set_sink 0 (sink_inside p r t low x f.agreed.0)
      (sink x a) e f refl (λ l q. q) refl (subst (Holds p r (suc k) (sink_loc p r x) set_sink 0) (sym at)
      (refl, inr (refl, already_now p r (Sets p r x) k (a, e))))
  change (alloc_poly a b) e f = allocates a b e f
  change (keep a b) e f =
      let at = f.placed.1 in
      touching g h b kept_cell (kind_at s b) (made_room b (subst IsMade (sym at) tt)) (keep a b) e f refl (λ l q. q) refl
      (subst (Holds p r (suc k) b kept_cell (kind_at s b)) (sym at)
      (inr (refl, already_now p r (Keeps p r b) k (a, e)), (holds_as g b at).1))
  change none e f = absurd f.ranged

  pub kept : Fits p r k (cmd_of p r k) → Holding p r (suc k) (after_of p r s (cmd_of p r k))
  unfolding after_of
  kept f =
      subst (λ j. Holding p r (suc k) (advance (standing_after p r s (command_loc p r j) (cmd_of p r k)))) (sym g.next)
      (changed g h _ (change (cmd_of p r k) refl f))
