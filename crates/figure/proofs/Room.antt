-- The words in use, with one more allocation, are within main's bound: `room`. By counting: each deployment but main is
-- named by a D slot, what a slot names weighs at most the slot's share, and a bound is a size and its shares.
use Rattle.std.specs.Prelude.{ℕ, zero, suc, ◌+◌, ◌≤◌, ◌<◌, ◌≡◌, refl, ◌⊎◌, ◌≢◌, List}
use Rattle.std.proofs.Common.{ap, inl, inr, ⊎_elim}
use Rattle.std.specs.Prelude.{[], ◌∷◌}
use Rattle.std.proofs.Common.{arith}
use mathlib.Core.List.Memᴰ.{head as first}
use mathlib.Core.List.Memᴰ.{tail as later}
use Rattle.value.specs.Test.{pick, ◌=?◌}
use Rattle.value.specs.Value.{blank}
use Rattle.value.proofs.Tests.{eq!, yes}
use Rattle.program.specs.Bytes.{reactors, shape_of, commands_d}
use Rattle.program.specs.Command.{alloc_mono, make_poly, made_by, cmd_of}
use Rattle.program.specs.Location.{command_loc}
use Rattle.image.specs.Memory.{main_at, used, reactor, content, value_at, size_at}
use Rattle.image.specs.Sound.{Deployed, OnChain, Chain, empty, MonoSlot, PointSlot, Owner}
use Rattle.image.specs.Passes.{members_from}
use Rattle.image.proofs.Memory.Tiles.{in_ge}
use Rattle.image.proofs.Memory.Changes.{value_content}
use Rattle.image.proofs.Memory.Slots.{Member, member, MadeOrBlank, made_begun}
use Rattle.image.proofs.Exact.Lists.{◌∈◌, from, from_in, total, total_both, total_least, total_spare, flat, flat_in}
use Rattle.image.proofs.Exact.Lists.{total_flat, rising_apart, without, covered}
use Rattle.image.proofs.Exact.Tiling.{Laid, starts, start_in, start_rising, start_fill, deployed_reactor}
use Rattle.image.proofs.Exact.Chains.{members?, members_apart}
use Rattle.image.proofs.Exact.SlotTests.{Makes, a_deployment, a_point, a_cell, neither, makes, made_mono, made_point}
use Rattle.image.proofs.Exact.Names.{owned, owned_mono, owned_point, owned_cell, owned_none, commands, command_in}
use Rattle.image.proofs.Exact.Names.{names_owned}
use Rattle.figure.specs.Bound.{shape_sum, share, bound_by}
use Rattle.figure.proofs.Sums.{sum_from}

-- ---- weights, b the bounds

module _ (p m : List ℕ) (b : ℕ → ℕ) where
  -- a deployment weighs its reactor's bound; a blank slot's 0 is none
  abbrev weigh : ℕ → ℕ
  weigh zero = 0
  weigh (suc d) = b (reactor m (suc d))

  -- what D command j of o names, and its share
  abbrev weighed : ℕ → ℕ → ℕ
  weighed o j = total weigh (owned p m o j)

  abbrev share_at : ℕ → ℕ → ℕ
  share_at o j = share p b (made_by (cmd_of p (reactor m o) j))

  -- k of the share is to spare
  abbrev pub Spare : ℕ → ℕ → ℕ → Type 0
  Spare o j k = weighed o j + k ≤ share_at o j

  weigh_most : (d : ℕ) → weigh d ≤ b (reactor m d)
  weigh_most zero = omega arith
  weigh_most (suc d) = omega arith

  weighs : (d : ℕ) → Deployed p m d → weigh d ≡ b (reactor m d)
  weighs zero i = absurd (omega (arith, in_ge p i))
  weighs (suc d) i = refl

  -- ---- a branch point's chain

  -- the bounds of the reactors of shape s; of others, 0
  abbrev fitting : ℕ → ℕ → ℕ
  fitting s q = pick (shape_of p q =? s) (b q) 0

  fits : (s q : ℕ) → shape_of p q ≡ s → b q ≡ fitting s q
  fits s q e = yes 0 (eq! e) refl

  abbrev every : List ℕ
  every = from (reactors p) 0

  every_in : (q : ℕ) → q < reactors p → q ∈ every
  every_in q l = (from_in (reactors p) 0 q).1 (omega arith)

  shape_sum_lem : (s : ℕ) → shape_sum p b s ≡ total (fitting s) every
  unfolding shape_sum
  shape_sum_lem s = sum_from (fitting s) (reactors p)

  module _ (laid : Laid p m) where
    module _ {o s c : ℕ} (ch : Chain p m o s c) where
      abbrev listed : List ℕ
      listed = members_from p m (reactors p) c

      its : {d : ℕ} → d ∈ listed → Member p m o s d
      its i = member p ch (members? p m (reactors p) c i)

      its_reactor : {d : ℕ} → d ∈ listed → reactor m d ∈ every
      its_reactor {d} i = every_in (reactor m d) (deployed_reactor p m laid (its i).deployed)

      chain_weight : (k : List ℕ) → ((d : ℕ) → d ∈ listed → reactor m d ∈ k) → total weigh listed ≤ total (fitting s) k
      chain_weight k h =
          let each = total_least weigh (λ d. fitting s (reactor m d)) listed
          (λ d i. let e = fits s (reactor m d) (its i).shape in omega (arith, weigh_most d)) in
          omega (arith, covered (fitting s) (reactor m) k (members_apart p m (reactors p) ch) h)

      chain_within : total weigh listed ≤ shape_sum p b s
      chain_within = omega (arith, shape_sum_lem s, chain_weight every (λ d i. its_reactor i))

      -- with a reactor of the shape that is not on it
      chain_spare : (q : ℕ) → q < reactors p → shape_of p q ≡ s → ((d : ℕ) → OnChain p m c d → reactor m d ≢ q)
          → total weigh listed + b q ≤ shape_sum p b s
      chain_spare q l e out =
          let w = without (fitting s) (every_in q l) in
          let others = chain_weight w.0
          (λ d i. w.1.others (reactor m d) (its_reactor i) (out d (members? p m (reactors p) c i))) in
          omega (arith, shape_sum_lem s, w.1.sum, fits s q e)

    -- ---- one D slot

    module _ (o j : ℕ) where
      abbrev at : ℕ
      at = command_loc p (reactor m o) j

      -- a blank one heads the chain that is empty
      begun_chain : MadeOrBlank p m o j → (x : ℕ) → cmd_of p (reactor m o) j ≡ make_poly x
          → Chain p m o x (content p m o at)
      begun_chain h x e =
          elim (made_begun p m o j h x e) [ inl z ↦ z.chain | inr z ↦ rw (value_content p m o at z) empty ]

      mono_weight : (x k : ℕ) → cmd_of p (reactor m o) j ≡ alloc_mono x → weigh (content p m o at) + k ≤ b x → Spare o j k
      unfolding share total
      mono_weight x k e h = rw (owned_mono p m o j e, made_mono e) (omega arith)

      point_weight : (s k : ℕ) → cmd_of p (reactor m o) j ≡ make_poly s
          → total weigh (members_from p m (reactors p) (content p m o at)) + k ≤ shape_sum p b s → Spare o j k
      unfolding share
      point_weight s k e h = rw (owned_point p m o j e, made_point e) h

      nothing_weighs : owned p m o j ≡ [] → weighed o j ≤ share_at o j
      unfolding total
      nothing_weighs e = rw e (omega arith)

      slot_within : MadeOrBlank p m o j → weighed o j ≤ share_at o j
      slot_within h = by (makes (cmd_of p (reactor m o) j)) h
        where
          by : Makes (cmd_of p (reactor m o) j) → MadeOrBlank p m o j → weighed o j ≤ share_at o j
          by (a_deployment x e) (inl r) =
              let s : MonoSlot p m o at x = rw e at r in
              omega (arith, mono_weight x 0 e (omega (arith, weigh_most (content p m o at), ap b s.its)))
          by (a_deployment x e) (inr z) = omega (arith, mono_weight x 0 e (rw (value_content p m o at z) (omega arith)))
          by (a_point x e) h = omega (arith, point_weight x 0 e (omega (arith, chain_within (begun_chain h x e))))
          by (a_cell x v e) h = nothing_weighs (owned_cell p m o j e)
          by (neither e) h = nothing_weighs (owned_none p m o j e)

      -- a slot that is to name one more has its bound to spare
      pub mono_spare : (x : ℕ) → cmd_of p (reactor m o) j ≡ alloc_mono x → value_at p m o at ≡ blank → Spare o j (b x)
      mono_spare x e z = mono_weight x (b x) e (rw (value_content p m o at z) (omega arith))

      pub point_spare : (s q : ℕ) → cmd_of p (reactor m o) j ≡ make_poly s → PointSlot p m o at s → q < reactors p
          → shape_of p q ≡ s → ((d : ℕ) → OnChain p m (content p m o at) d → reactor m d ≢ q) → Spare o j (b q)
      point_spare s q e z l f out = point_weight s (b q) e (chain_spare z.chain q l f out)

    -- ---- all D slots

    module _ (made : (o j : ℕ) → Deployed p m o → j < commands_d p (reactor m o) → MadeOrBlank p m o j)
        (named : (d : ℕ) → Deployed p m d → (d ≡ main_at) ⊎ ((o : ℕ) × (j : ℕ) × Owner p m o j d))
        (bounds : (d : ℕ) → Deployed p m d → b (reactor m d) ≡ bound_by p b (reactor m d)) where
      abbrev children : ℕ → List ℕ
      children o = flat (owned p m o) (commands p m o)

      abbrev shares_at : ℕ → ℕ
      shares_at o = total (share_at o) (commands p m o)

      slots_within : (o : ℕ) → Deployed p m o → (j : ℕ) → j ∈ commands p m o → weighed o j ≤ share_at o j
      slots_within o t j i = slot_within o j (made o j t ((command_in p m o j).0 i))

      children_within : (o : ℕ) → Deployed p m o → total weigh (children o) ≤ shares_at o
      children_within o t =
          let e = total_flat weigh (owned p m o) (commands p m o) in
          omega (arith, total_least (weighed o) (share_at o) (commands p m o) (slots_within o t))

      children_spare : (o j k : ℕ) → Deployed p m o → j < commands_d p (reactor m o) → Spare o j k
          → total weigh (children o) + k ≤ shares_at o
      children_spare o j k t l h =
          let e = total_flat weigh (owned p m o) (commands p m o) in
          omega (arith, total_spare (weighed o) (share_at o) k ((command_in p m o j).1 l) (slots_within o t) h)

      -- main, and all that slots name
      abbrev known : List ℕ
      known = main_at ∷ flat children (starts p m)

      is_known : (d : ℕ) → d ∈ starts p m → d ∈ known
      is_known d i = let t = (start_in p m laid d).0 i in ⊎_elim (λ e. first e) (λ w. later (by w)) (named d t)
        where
          by : (o : ℕ) × (j : ℕ) × Owner p m o j d → d ∈ flat children (starts p m)
          by w =
              let o = w.0 in
              let j = w.1 in
              let q = w.2 in
              let h = made o j q.deployed q.low in
              (flat_in d children (starts p m)).1 (
                o,
                (start_in p m laid o).1 q.deployed,
                (flat_in d (owned p m o) (commands p m o)).1
                    (j, (command_in p m o j).1 q.low, names_owned p m laid (begun_chain o j h) q.names),
              )

      pub room : (o j k : ℕ) → Deployed p m o → j < commands_d p (reactor m o) → Spare o j k
          → used m + k ≤ main_at + b (reactor m main_at)
      unfolding bound_by size_at total
      room o j k t l h =
          let ds = starts p m in
          let is_in : (d : ℕ) → d ∈ ds → Deployed p m d = λ d i. (start_in p m laid d).0 i in
          let weights : total weigh ds ≤ weigh main_at + total weigh (flat children ds) =
          covered weigh (λ d. d) known (rising_apart (start_rising p m laid)) is_known in
          let shares = total_spare (λ o. total weigh (children o)) shares_at k ((start_in p m laid o).1 t)
          (λ a i. children_within a (is_in a i)) (children_spare o j k t l h) in
          let parts = total_least (λ d. size_at p m d + shares_at d) weigh ds
          (λ d i. omega (
            arith,
            weighs d (is_in d i),
            bounds d (is_in d i),
            sum_from (share_at d) (commands_d p (reactor m d)),
          )) in
          omega (arith, total_flat weigh children ds, total_both (size_at p m) shares_at ds, start_fill p m laid)
