-- What the scan's tables hold after the first k commands, location by location; and what its
-- tests on a location therefore say.
use Rattle.std.specs.Prelude.{ℕ, suc, ◌+◌, ◌^◌, ◌≤◌, ◌<◌, ◌≡◌, refl, ◌⊎◌, ◌↔◌}
use Rattle.std.proofs.Common.{sym, subst, subst₂, inl, inr}
use Rattle.std.proofs.Math.Logic.Iff.{trans as iff_trans}
use Rattle.std.specs.Prelude.{List}
use Rattle.std.proofs.Common.{arith}
use Rattle.value.proofs.Tests.{Says, says_eq, says_le, says_and}
use Rattle.program.specs.Bytes.{shapes, sources_in, commands_in}
use Rattle.program.specs.Command.{Cmd, alloc_mono, make_poly, supply, react, sink, alloc_poly, cell, keep, none, gives}
use Rattle.program.specs.Command.{Class, a_value, a_cell, a_point, a_deployment, a_sink, nothing}
use Rattle.program.specs.Location.{sink_loc, shape_there}
use Rattle.program.specs.Kind.{kind_in, kind_of}
use Rattle.load.specs.Scan.{standing_at, kind_at, is_value, is_cell, is_point, is_deployment, ready_at, some_value, free_cell}
use Rattle.load.specs.Scan.{kept_cell, free_point, used_point, unset_sink, set_sink, has_run, waiting}
use Rattle.load.specs.Rules.{Supplies, Reacts, Allocates, Keeps, Sets}
use Rattle.load.specs.declared.Scan.{Scan}
use Rattle.load.proofs.Exact.Bits.{bit, ready_exact}
use Rattle.load.specs.Order.{Never, Already}
use Rattle.load.proofs.Exact.Seen.{Tells, tells_lo, tells_hi}
use Rattle.load.proofs.Exact.Class.{rank, clash}
use Rattle.load.proofs.Exact.Places.{class_at}
use Rattle.load.proofs.Exact.Stand.{Sized, Reads}

module _ (p : List ℕ) (r : ℕ) where
  -- a command that changes what stands at location l, other than its own
  abbrev pub Touches : ℕ → Cmd → Type 0
  Touches l (alloc_mono x) = ⊥
  Touches l (make_poly x) = ⊥
  Touches l (cell x v) = ⊥
  Touches l (gives g) = ⊥
  Touches l (supply x a b) = b ≡ l
  Touches l (react b) = b ≡ l
  Touches l (sink x a) = sink_loc p r x ≡ l
  Touches l (alloc_poly a b) = b ≡ l
  Touches l (keep a b) = b ≡ l
  Touches l none = ⊥

  -- the standing of a deployment with n sources at l: it has reacted, or bit x tells whether source x is supplied
  abbrev pub Deployed : ℕ → ℕ → ℕ → ℕ → Type 0
  Deployed n k l st =
      ((st ≡ has_run) × Already p r (Reacts p r l) k)
      ⊎ ((waiting ≤ st) × (st < waiting + 2 ^ n) × Never p r (Reacts p r l) k
      × ((x : ℕ) → x < n → Tells p r 0 1 (Supplies p r x l) k (bit st x)))

  -- the kind of a deployment or branch point is its shape
  abbrev pub Shaped : ℕ → ℕ → Type 0
  Shaped l kd = (kd ≡ shape_there p r l) × (shape_there p r l < shapes p)

  -- standing st and kind kd, where a location of class c is at l
  abbrev pub Holds : ℕ → ℕ → ℕ → ℕ → Class → Type 0
  Holds k l st kd a_value = (st ≡ some_value) × ((f : ℕ) → l < f → kd ≡ kind_in f p r l)
  Holds k l st kd a_cell = Tells p r free_cell kept_cell (Keeps p r l) k st × ((f : ℕ) → l < f → kd ≡ kind_in f p r l)
  Holds k l st kd a_point = Tells p r free_point used_point (Allocates p r l) k st × Shaped l kd
  Holds k l st kd a_deployment = Deployed (sources_in p (shape_there p r l)) k l st × Shaped l kd
  Holds k l st kd (a_sink x) = (l ≡ sink_loc p r x) × Tells p r unset_sink set_sink (Sets p r x) k st
  Holds k l st kd nothing = (st ≡ 0) × Never p r (Touches l) k

  abbrev pub HoldsAt : ℕ → Scan → ℕ → Class → Type 0
  HoldsAt k s l c = Holds k l (standing_at s l) (kind_at s l) c

  pub as_read : (k l : ℕ) {st kd : ℕ} (c : Class) (s : Scan) → Reads s l st kd → Holds k l st kd c → HoldsAt k s l c
  as_read k l c s e h = subst₂ (λ x y. Holds k l x y c) (sym e.0) (sym e.1) h

  -- the state of the scan before command k
  pub record Holding (k : ℕ) (s : Scan) : Type 0 where
    pub next : s.next ≡ k
    pub few : k ≤ commands_in p r
    pub sized : Sized s
    pub holds : (l : ℕ) → HoldsAt k s l (class_at p r k l)

  -- ---- the class shows in the standing

  abbrev pub Standing : Class → ℕ → Type 0
  Standing a_value st = st ≡ some_value
  Standing a_cell st = (free_cell ≤ st) × (st ≤ kept_cell)
  Standing a_point st = (free_point ≤ st) × (st ≤ used_point)
  Standing a_deployment st = has_run ≤ st
  Standing (a_sink x) st = (unset_sink ≤ st) × (st ≤ set_sink)
  Standing nothing st = st ≡ 0

  tells_standing : (P : Cmd → Type 0) (lo hi k st : ℕ) → lo ≤ hi → Tells p r lo hi P k st → (lo ≤ st) × (st ≤ hi)
  tells_standing P lo hi k st l (inl h) = let e = h.0 in (omega arith, omega arith)
  tells_standing P lo hi k st l (inr h) = let e = h.0 in (omega arith, omega arith)

  deployed_standing : (n k l st : ℕ) → Deployed n k l st → has_run ≤ st
  deployed_standing n k l st (inl h) = let e = h.0 in omega arith
  deployed_standing n k l st (inr h) = let e = h.0 in omega arith

  pub standing_of : (k l st kd : ℕ) (c : Class) → Holds k l st kd c → Standing c st
  standing_of k l st kd a_value h = h.0
  standing_of k l st kd a_cell h = tells_standing (Keeps p r l) free_cell kept_cell k st (omega arith) h.0
  standing_of k l st kd a_point h = tells_standing (Allocates p r l) free_point used_point k st (omega arith) h.0
  standing_of k l st kd a_deployment h = deployed_standing (sources_in p (shape_there p r l)) k l st h.0
  standing_of k l st kd (a_sink x) h = tells_standing (Sets p r x) unset_sink set_sink k st (omega arith) h.1
  standing_of k l st kd nothing h = h.0

  -- ---- what a deployment's standing tells

  module _ (k l st n : ℕ) where
    pub deployed_reacted : Deployed n k l st → (st ≡ has_run) ↔ Already p r (Reacts p r l) k
    deployed_reacted (inl h) = ((λ q. h.1), (λ a. h.0))
    deployed_reacted (inr h) = ((λ q. absurd (let w = h.0 in omega arith)), (λ a. absurd (h.2 a.0 a.1 a.2)))

    -- bit x tells whether source x is supplied
    pub supplied : (x : ℕ) → x < n → ((i : ℕ) → i < n → Tells p r 0 1 (Supplies p r i l) k (bit st i)) →
        (bit st x ≡ 1) ↔ Already p r (Supplies p r x l) k
    supplied x i h = tells_hi p r (Supplies p r x l) 0 1 k (bit st x) (omega arith) (h x i)

    -- a Supply of source x is in order
    deployed_open : (x : ℕ) → x < n → Deployed n k l st →
        ((waiting ≤ st) × (bit st x ≡ 1 → ⊥)) ↔ (Never p r (Reacts p r l) k × Never p r (Supplies p r x l) k)
    deployed_open x i (inl h) =
        ((λ q. absurd (let w = h.0 in omega arith)), (λ a. absurd (a.0 h.1.0 h.1.1 h.1.2)))
    deployed_open x i (inr h) = (
      (λ q. (h.2, λ j m z. q.1 ((supplied x i h.3).1 (j, m, z)))),
      (λ a. (h.0, λ q. let t = (supplied x i h.3).0 q in a.1 t.0 t.1 t.2)),
    )

    -- a React is in order
    deployed_ready : n ≤ 7 → Deployed n k l st →
        (st ≡ ready_at n) ↔ (Never p r (Reacts p r l) k × ((x : ℕ) → x < n → Already p r (Supplies p r x l) k))
    deployed_ready few (inl h) = (
      (λ q. absurd (let w = h.0 in unfold ready_at in omega arith)),
      (λ a. absurd (a.0 h.1.0 h.1.1 h.1.2)),
    )
    deployed_ready few (inr h) =
        let b = ready_exact n st few h.0 h.1 in (
          (λ q. (h.2, λ x i. (supplied x i h.3).0 (b.0 q x i))),
          (λ a. b.1 (λ x i. (supplied x i h.3).1 (a.1 x i))),
        )

  -- ---- what the tests on a location say

  abbrev Shown : ℕ → Class → Type 0
  Shown st c =
      ((st ≡ some_value) ↔ (c ≡ a_value))
      × (((free_point ≤ st) × (st ≤ used_point)) ↔ (c ≡ a_point))
      × ((has_run ≤ st) ↔ (c ≡ a_deployment))
      × (((free_cell ≤ st) × (st ≤ kept_cell)) ↔ (c ≡ a_cell))

  is : {A : Type 0} {c : Class} → A → A ↔ (c ≡ c)
  is a = ((λ h. refl), (λ e. a))

  is_not : {A : Type 0} {c d : Class} → (A → ⊥) → (rank c ≡ rank d → ⊥) → A ↔ (c ≡ d)
  is_not n m = ((λ a. absurd (n a)), (λ e. clash e m))

  shown : (st : ℕ) (c : Class) → Standing c st → Shown st c
  shown st a_value h = (
    is h,
    is_not (omega arith) (omega arith),
    is_not (omega arith) (omega arith),
    is_not (omega arith) (omega arith),
  )
  shown st a_cell h = (
    is_not (omega arith) (omega arith),
    is_not (omega arith) (omega arith),
    is_not (omega arith) (omega arith),
    is h,
  )
  shown st a_point h = (
    is_not (omega arith) (omega arith),
    is h,
    is_not (omega arith) (omega arith),
    is_not (omega arith) (omega arith),
  )
  shown st a_deployment h = (
    is_not (omega arith) (omega arith),
    is_not (omega arith) (omega arith),
    is h,
    is_not (omega arith) (omega arith),
  )
  shown st (a_sink x) h = (
    is_not (omega arith) (omega arith),
    is_not (omega arith) (omega arith),
    is_not (omega arith) (omega arith),
    is_not (omega arith) (omega arith),
  )
  shown st nothing h = (
    is_not (omega arith) (omega arith),
    is_not (omega arith) (omega arith),
    is_not (omega arith) (omega arith),
    is_not (omega arith) (omega arith),
  )

module _ {p : List ℕ} {r k : ℕ} {s : Scan} (g : Holding p r k s) (l : ℕ) where
  shown_at : Shown p r (standing_at s l) (class_at p r k l)
  shown_at =
      let c = class_at p r k l in
      shown p r (standing_at s l) c (standing_of p r k l (standing_at s l) (kind_at s l) c (g.holds l))

  pub value_says : Says (is_value s l) (class_at p r k l ≡ a_value)
  unfolding is_value
  value_says = iff_trans says_eq shown_at.0

  pub point_says : Says (is_point s l) (class_at p r k l ≡ a_point)
  unfolding is_point
  point_says = iff_trans (says_and says_le says_le) shown_at.1

  pub deployment_says : Says (is_deployment s l) (class_at p r k l ≡ a_deployment)
  unfolding is_deployment
  deployment_says = iff_trans says_le shown_at.2

  pub cell_says : Says (is_cell s l) (class_at p r k l ≡ a_cell)
  unfolding is_cell
  cell_says = iff_trans (says_and says_le says_le) shown_at.3

  -- ---- what the tables hold, where the class is known

  pub holds_as : {c : Class} → class_at p r k l ≡ c → HoldsAt p r k s l c
  holds_as e = subst (HoldsAt p r k s l) e (g.holds l)

  -- at any depth of the kind's recursion that suffices
  pub kind_at_depth : class_at p r k l ≡ a_value → (f : ℕ) → l < f → kind_at s l ≡ kind_in f p r l
  kind_at_depth e = (holds_as e).1

  pub kind_of_value : class_at p r k l ≡ a_value → kind_at s l ≡ kind_of p r l
  unfolding kind_of
  kind_of_value e = kind_at_depth e (suc l) (omega arith)

  pub cell_at_depth : class_at p r k l ≡ a_cell → (f : ℕ) → l < f → kind_at s l ≡ kind_in f p r l
  cell_at_depth e = (holds_as e).1

  pub kind_of_cell : class_at p r k l ≡ a_cell → kind_at s l ≡ kind_of p r l
  unfolding kind_of
  kind_of_cell e = cell_at_depth e (suc l) (omega arith)

  pub shape_of_deployment : class_at p r k l ≡ a_deployment → kind_at s l ≡ shape_there p r l
  shape_of_deployment e = (holds_as e).1.0

  pub shape_of_point : class_at p r k l ≡ a_point → kind_at s l ≡ shape_there p r l
  shape_of_point e = (holds_as e).1.0

  -- ---- and what the tests of order say there

  pub cell_free : class_at p r k l ≡ a_cell → (standing_at s l ≡ free_cell) ↔ Never p r (Keeps p r l) k
  cell_free e = tells_lo p r (Keeps p r l) free_cell kept_cell k _ (omega arith) (holds_as e).0

  pub point_free : class_at p r k l ≡ a_point → (standing_at s l ≡ free_point) ↔ Never p r (Allocates p r l) k
  point_free e = tells_lo p r (Allocates p r l) free_point used_point k _ (omega arith) (holds_as e).0

  pub deployment_reacted : class_at p r k l ≡ a_deployment → (standing_at s l ≡ has_run) ↔ Already p r (Reacts p r l) k
  deployment_reacted e = deployed_reacted p r k l (standing_at s l) (sources_in p (shape_there p r l)) (holds_as e).0

  pub deployment_open : (x : ℕ) → class_at p r k l ≡ a_deployment → x < sources_in p (shape_there p r l) →
      ((waiting ≤ standing_at s l) × (bit (standing_at s l) x ≡ 1 → ⊥))
      ↔ (Never p r (Reacts p r l) k × Never p r (Supplies p r x l) k)
  deployment_open x e i = deployed_open p r k l (standing_at s l) (sources_in p (shape_there p r l)) x i (holds_as e).0

  pub deployment_ready : sources_in p (shape_there p r l) ≤ 7 → class_at p r k l ≡ a_deployment →
      (standing_at s l ≡ ready_at (sources_in p (shape_there p r l)))
      ↔ (Never p r (Reacts p r l) k × ((x : ℕ) → x < sources_in p (shape_there p r l) → Already p r (Supplies p r x l) k))
  deployment_ready few e = deployed_ready p r k l (standing_at s l) (sources_in p (shape_there p r l)) few (holds_as e).0
