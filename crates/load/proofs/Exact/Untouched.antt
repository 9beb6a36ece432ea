-- One command more: what holds at a location that it does not touch, and at its own.
use Rattle.std.specs.Prelude.{ℕ, zero, suc, ◌≤◌, ◌<◌, ◌≡◌, refl, List}
use Rattle.std.proofs.Common.{sym, ◌∙◌, ap, subst, inl, inr, arith}
use native.Mathlib.Nat.{not-suc-le-zero}
use Rattle.program.specs.Bytes.{sources_in, shapes, commands_in}
use Rattle.program.specs.Command.{Cmd, cmd_of, alloc_mono, make_poly, supply, react, sink, alloc_poly, cell, keep, none}
use Rattle.program.specs.Command.{gives, Class, a_value, a_cell, a_point, a_deployment, a_sink, nothing}
use Rattle.program.specs.Location.{sink_loc, shape_there, command_loc, shape_made}
use Rattle.program.specs.Kind.{kind_made, kind_in}
use Rattle.load.specs.Scan.{free_point, used_point, unset_sink, set_sink, standing_at, some_value, waiting, free_cell}
use Rattle.load.specs.Scan.{kept_cell}
use Rattle.load.specs.Rules.{Supplies, Reacts, Allocates, Keeps, Sets, TablesRight}
use Rattle.load.specs.declared.Scan.{Scan}
use Rattle.load.proofs.Exact.Bits.{bit, none_yet, some_room}
use Rattle.load.specs.Order.{Never}
use Rattle.load.proofs.Exact.Seen.{never_more, already_more, tells_more, never_narrow}
use Rattle.load.proofs.Exact.Class.{rank, clash}
use Rattle.load.proofs.Exact.Holds.{Touches, Deployed, Holds, Shaped, Holding, holds_as}
use Rattle.load.proofs.Exact.Places.{class_at, class_ahead, class_sink}
use Rattle.load.proofs.Exact.KindLaws.{kind_here, shape_here}
use Rattle.load.proofs.Exact.Fits.{Fits}

module _ (p : List ℕ) (r : ℕ) where
  -- ---- who touches a location

  supplies_touch : (x l : ℕ) (c : Cmd) → Supplies p r x l c → Touches p r l c
  supplies_touch x l c q = subst (Touches p r l) (sym q.1) refl

  reacts_touch : (l : ℕ) (c : Cmd) → Reacts p r l c → Touches p r l c
  reacts_touch l c q = subst (Touches p r l) (sym q) refl

  allocates_touch : (l : ℕ) (c : Cmd) → Allocates p r l c → Touches p r l c
  allocates_touch l c q = subst (Touches p r l) (sym q.1) refl

  keeps_touch : (l : ℕ) (c : Cmd) → Keeps p r l c → Touches p r l c
  keeps_touch l c q = subst (Touches p r l) (sym q.1) refl

  sets_touch : (x l : ℕ) (c : Cmd) → l ≡ sink_loc p r x → Sets p r x c → Touches p r l c
  sets_touch x l c e q = subst (Touches p r l) (sym q.1) (sym e)

  -- ---- a location that command k does not touch

  module _ (k l st kd : ℕ) (free : Touches p r l (cmd_of p r k) → ⊥) where
    deployed_keep : (n : ℕ) → Deployed p r n k l st → Deployed p r n (suc k) l st
    deployed_keep n (inl h) = inl (h.0, already_more p r (Reacts p r l) h.1)
    deployed_keep n (inr h) =
        inr (
          h.0,
          h.1,
          never_more p r (Reacts p r l) k h.2 (λ q. free (reacts_touch l _ q)),
          λ x i. tells_more p r (Supplies p r x l) 0 1 k (bit st x) (λ q. free (supplies_touch x l _ q)) (h.3 x i),
        )

    pub untouched_holds : (c : Class) → Holds p r k l st kd c → Holds p r (suc k) l st kd c
    untouched_holds a_value h = h
    untouched_holds a_cell h =
        (tells_more p r (Keeps p r l) free_cell kept_cell k st (λ q. free (keeps_touch l _ q)) h.0, h.1)
    untouched_holds a_point h =
        (tells_more p r (Allocates p r l) free_point used_point k st (λ q. free (allocates_touch l _ q)) h.0, h.1)
    untouched_holds a_deployment h = (deployed_keep (sources_in p (shape_there p r l)) h.0, h.1)
    untouched_holds (a_sink x) h =
        (h.0, tells_more p r (Sets p r x) unset_sink set_sink k st (λ q. free (sets_touch x l _ h.0 q)) h.1)
    untouched_holds nothing h = (h.0, never_more p r (Touches p r l) k h.1 free)

-- ---- its own location

module _ {p : List ℕ} {r k : ℕ} {s : Scan} (g : Holding p r k s) (h : k < commands_in p r) where
  here_nothing : class_at p r k (command_loc p r k) ≡ nothing
  here_nothing = class_ahead p r k k (omega arith) h

  elsewhere : (l : ℕ) (c : Class) → class_at p r k l ≡ c → (rank c ≡ 0 → ⊥) → l ≡ command_loc p r k → ⊥
  elsewhere l c e d q = clash (sym e ∙ ap (class_at p r k) q ∙ here_nothing) d

  -- a command does not touch its own location
  pub not_own : (c : Cmd) → Fits p r k c → Touches p r (command_loc p r k) c → ⊥
  not_own (alloc_mono x) f q = q
  not_own (make_poly x) f q = q
  not_own (cell x v) f q = q
  not_own (gives g) f q = q
  not_own (supply x a b) f q = elsewhere b a_deployment f.placed.1 (omega arith) q
  not_own (react b) f q = elsewhere b a_deployment f.placed (omega arith) q
  not_own (sink x a) f q =
      elsewhere (sink_loc p r x) (a_sink x) (class_sink p r k x f.agreed.0 g.few) (omega arith) q
  not_own (alloc_poly a b) f q = elsewhere b a_point f.placed.1 (omega arith) q
  not_own (keep a b) f q = elsewhere b a_cell f.placed.1 (omega arith) q
  not_own none f q = q

  module _ (f : Fits p r k (cmd_of p r k)) where
    -- nor did one before it
    fresh : Never p r (Touches p r (command_loc p r k)) (suc k)
    fresh = never_more p r (Touches p r _) k (holds_as g (command_loc p r k) here_nothing).1 (not_own (cmd_of p r k) f)

    untouched : (P : Cmd → Type 0) → ((c : Cmd) → P c → Touches p r (command_loc p r k) c) → Never p r P (suc k)
    untouched P touch = never_narrow p r (Touches p r (command_loc p r k)) P (suc k) touch fresh

    pub own_nothing : (kd : ℕ) → Holds p r (suc k) (command_loc p r k) (standing_at s (command_loc p r k)) kd nothing
    own_nothing kd = ((holds_as g (command_loc p r k) here_nothing).0, fresh)

    -- a kind known at every depth that suffices for what c needs is its location's
    by_depth : (kd : ℕ) → ((i : ℕ) → command_loc p r k ≤ i → kd ≡ kind_made p r (kind_in i p r) (cmd_of p r k)) →
        (i : ℕ) → command_loc p r k < i → kd ≡ kind_in i p r (command_loc p r k)
    by_depth kd e zero l = absurd (not-suc-le-zero l)
    by_depth kd e (suc i) l = e i (omega arith) ∙ sym (kind_here p r k h i)

    pub own_value : (kd : ℕ) → ((i : ℕ) → command_loc p r k ≤ i → kd ≡ kind_made p r (kind_in i p r) (cmd_of p r k)) →
        Holds p r (suc k) (command_loc p r k) some_value kd a_value
    own_value kd e = (refl, by_depth kd e)

    pub own_cell : (kd : ℕ) → ((i : ℕ) → command_loc p r k ≤ i → kd ≡ kind_made p r (kind_in i p r) (cmd_of p r k)) →
        Holds p r (suc k) (command_loc p r k) free_cell kd a_cell
    own_cell kd e = (inl (refl, untouched (Keeps p r _) (keeps_touch p r _)), by_depth kd e)

    -- a branch point or deployment of shape kd

    shaped : (kd : ℕ) → kd ≡ shape_made p r (cmd_of p r k) → kd < shapes p → Shaped p r (command_loc p r k) kd
    shaped kd e l = let q = e ∙ sym (shape_here p r k h) in (q, subst (λ m. m < shapes p) q l)

    pub own_point : (kd : ℕ) → kd ≡ shape_made p r (cmd_of p r k) → kd < shapes p →
        Holds p r (suc k) (command_loc p r k) free_point kd a_point
    own_point kd e l = (inl (refl, untouched (Allocates p r _) (allocates_touch p r _)), shaped kd e l)

    pub own_deployment : TablesRight p → (kd : ℕ) → kd ≡ shape_made p r (cmd_of p r k) → kd < shapes p →
        Holds p r (suc k) (command_loc p r k) waiting kd a_deployment
    own_deployment t kd e l =
        let m = shaped kd e l in
        let seven : sources_in p (shape_there p r (command_loc p r k)) ≤ 7 = (t.every_shape _ m.1).few_sources in (
          inr (
            omega arith,
            some_room _ seven,
            untouched (Reacts p r _) (reacts_touch p r _),
            λ x i. inl (none_yet x (omega arith), untouched (Supplies p r x _) (supplies_touch p r x _)),
          ),
          m,
        )
