-- Every location but a value's or a cell's has a shape as its kind, and nothing stands past a reactor's
-- locations: so it is before the first command, and so it stays. With it a Supply that is not refused names one
-- of a byte's bits. Assumes nothing.
use Rattle.std.specs.Prelude.{ℕ, zero, suc, ◌≤◌, ◌<◌, ◌≡◌, refl, ◌⊎◌, Bool, true, false, List}
use Rattle.std.proofs.Common.{◌∙◌, inl, inr, ⊎_elim}
use Rattle.std.specs.Prelude.{length, get_or, set, replicate}
use Rattle.std.proofs.Common.{arith}
use lib.ListN.{get_or-eq_default}
use lib.Seq.{get_or-set_same, get_or-set_other, set_out}
use Rattle.value.specs.Test.{need, pick, ◌=?◌}
use Rattle.value.proofs.Tests.{cases, below, eq?, eq×?, lt?, le?, both?, not_true}
use Rattle.value.proofs.Zeros.{zeros_at}
use Rattle.program.specs.Bytes.{shapes, commands_in}
use Rattle.program.specs.Location.{most_locations, source_count, sink_count, command_loc, sink_loc, locations}
use Rattle.program.specs.Command.{Cmd, alloc_mono, make_poly, supply, react, sink, gives, alloc_poly, cell, keep, none}
use Rattle.program.specs.declared.Command.{Command}
use Rattle.load.specs.Scan.{standing_at, kind_at, stand, is_cell, is_point, is_deployment, formed, located, agreed}
use Rattle.load.specs.Scan.{disorder, refusal_of, standing_after, advance, after_of, with_sources, with_sinks, begin_of}
use Rattle.load.specs.Clauses.{LegalTables, Shaped, FreeSource, Within, right}
use Rattle.load.specs.declared.Scan.{Scan}

-- ---- what a stored entry is

stored : (xs : List ℕ) (i v : ℕ) → (get_or (set xs i v) i 0 ≡ v) ⊎ (get_or (set xs i v) i 0 ≡ 0)
stored xs i v =
    ⊎_elim (λ (h : i < length xs). inl (get_or-set_same xs i v 0 h))
    (λ (h : length xs ≤ i). inr (rw (set_out xs i v h) (get_or-eq_default xs 0 h)))
    (below i (length xs))

-- ---- a state stays shaped

module _ (p : List ℕ) (some : 0 < shapes p) where
  module _ (s : Scan) (l t k m : ℕ) (sh : Shaped p s) (h : 4 ≤ t → k < shapes p) where
    here : 4 ≤ get_or (set s.standing l t) l 0 → get_or (set s.kind l k) l 0 < shapes p
    here g =
        ⊎_elim
        (λ (y : get_or (set s.standing l t) l 0 ≡ t).
        let w : k < shapes p = h (omega arith) in
        ⊎_elim
        (λ (z : get_or (set s.kind l k) l 0 ≡ k). omega arith)
        (λ (z : get_or (set s.kind l k) l 0 ≡ 0). omega arith)
        (stored s.kind l k))
        (λ (y : get_or (set s.standing l t) l 0 ≡ 0). absurd (omega arith))
        (stored s.standing l t)

    elsewhere : (m ≡ l → ⊥) → 4 ≤ get_or (set s.standing l t) m 0 → get_or (set s.kind l k) m 0 < shapes p
    unfolding standing_at kind_at
    elsewhere d g =
        let e = get_or-set_other s.standing l m t 0 d in
        let f = get_or-set_other s.kind l m k 0 d in
        let w = sh m (omega arith) in
        omega arith

    at : 4 ≤ get_or (set s.standing l t) m 0 → get_or (set s.kind l k) m 0 < shapes p
    at g =
        cases (m =? l)
        (λ e. let q : m ≡ l = eq? e in rw q (here (rw q at g)))
        (λ e. elsewhere (eq×? e) g)

  shaped_stand : (s : Scan) (l t k : ℕ) → Shaped p s → (4 ≤ t → k < shapes p) → Shaped p (stand s l t k)
  unfolding stand standing_at kind_at
  shaped_stand s l t k sh h m g = at s l t k m sh h g

  -- a value's kind may be any
  value_stand : (s : Scan) (l k : ℕ) → Shaped p s → Shaped p (stand s l 1 k)
  value_stand s l k sh = shaped_stand s l 1 k sh (λ g. absurd (omega arith))

  sources_shaped : (r : ℕ) (s : Scan) → Shaped p s → (n : ℕ) → Shaped p (with_sources n p r s)
  unfolding with_sources
  sources_shaped r s sh zero = sh
  sources_shaped r s sh (suc n) = value_stand _ _ _ (sources_shaped r s sh n)

  sinks_shaped : (r : ℕ) (s : Scan) → Shaped p s → (n : ℕ) → Shaped p (with_sinks n p r s)
  unfolding with_sinks
  sinks_shaped r s sh zero = sh
  sinks_shaped r s sh (suc n) = shaped_stand _ _ _ _ (sinks_shaped r s sh n) (λ g. some)

  blank_shaped : Shaped p (record { standing = replicate most_locations 0; kind = replicate most_locations 0; next = 0 })
  unfolding standing_at kind_at
  blank_shaped l g = absurd (omega (arith, zeros_at most_locations l))

  pub begin_shaped : (r : ℕ) → Shaped p (begin_of p r)
  unfolding begin_of
  begin_shaped r = sinks_shaped r _ (sources_shaped r _ blank_shaped _) _

-- ---- a state stays within the locations

module _ (p : List ℕ) (r : ℕ) where
  within_stand : (s : Scan) (l t k : ℕ) → Within p r s → l < locations p r → Within p r (stand s l t k)
  unfolding stand standing_at
  within_stand s l t k w h m g = get_or-set_other s.standing l m t 0 (λ e. omega arith) ∙ w m g

  sources_within : (s : Scan) → Within p r s → (n : ℕ) → n ≤ source_count p r → Within p r (with_sources n p r s)
  unfolding with_sources locations sink_loc
  sources_within s w zero h = w
  sources_within s w (suc n) h = within_stand _ n _ _ (sources_within s w n (omega arith)) (omega arith)

  sinks_within : (s : Scan) → Within p r s → (n : ℕ) → n ≤ sink_count p r → Within p r (with_sinks n p r s)
  unfolding with_sinks locations sink_loc
  sinks_within s w zero h = w
  sinks_within s w (suc n) h = within_stand _ _ _ _ (sinks_within s w n (omega arith)) (omega arith)

  blank_within : Within p r
      (record { standing = replicate most_locations 0; kind = replicate most_locations 0; next = 0 })
  unfolding standing_at
  blank_within l g = zeros_at most_locations l

  pub begin_within : Within p r (begin_of p r)
  unfolding begin_of
  begin_within = sinks_within _ (sources_within _ blank_within _ (omega arith)) _ (omega arith)

-- ---- a command that is not refused

needed : (t : Bool) (n rest : ℕ) → 0 < n → need t n rest ≡ 0 → (t ≡ true) × (rest ≡ 0)
unfolding pick
needed true n rest h e = (refl, e)
needed false n rest h e = absurd (omega arith)

module _ (p : List ℕ) (r : ℕ) (s : Scan) (c : Command) where
  pub record NotRefused (d : Cmd) : Type 0 where
    pub formed : formed p c d ≡ true
    pub located : located s d ≡ true
    pub agreed : agreed p r s d ≡ true
    pub in_order : disorder p r s d ≡ 0

  not_refused : (d : Cmd) → refusal_of p r s c d ≡ 0 → NotRefused d
  unfolding refusal_of
  not_refused d e =
      let a = needed _ 3 _ (omega arith) e in
      let b = needed _ 3 _ (omega arith) a.1 in
      let w = needed _ 25 _ (omega arith) b.1 in
      let f = needed _ 4 _ (omega arith) w.1 in
      let g = needed _ 5 _ (omega arith) f.1 in
      record { formed = b.0; located = f.0; agreed = g.0; in_order = g.1 }

  module _ (w : Within p r s) where
    -- what stands is within the locations
    stands_within : (b t : ℕ) → t ≤ standing_at s b → 0 < t → b < locations p r
    stands_within b t h g =
        ⊎_elim (λ (l : b < locations p r). l) (λ (l : locations p r ≤ b). absurd (omega (arith, w b l)))
        (below b (locations p r))

    standing_within : (here : ℕ) → here < locations p r → (d : Cmd) → NotRefused d → Within p r
        (standing_after p r s here d)
    unfolding standing_after located agreed is_deployment is_point is_cell locations sink_loc
    standing_within here h (alloc_mono x) n = within_stand p r s here _ _ w h
    standing_within here h (make_poly x) n = within_stand p r s here _ _ w h
    standing_within here h (cell x v) n = within_stand p r s here _ _ w h
    standing_within here h (gives g) n = within_stand p r s here _ _ w h
    standing_within here h (supply x a b) n = within_stand p r s b _ _ w
        (stands_within b 127 (le? (both? n.located).1) (omega arith))
    standing_within here h (react b) n = within_stand p r s b _ _ w
        (stands_within b 127 (le? n.located) (omega arith))
    standing_within here h (sink x a) n = within_stand p r s _ _ _ w
        (let l : x < sink_count p r = lt? (both? n.agreed).0 in omega arith)
    standing_within here h (alloc_poly a b) n =
        within_stand p r _ here _ _ (within_stand p r s b _ _ w
        (stands_within b 4 (le? (both? (both? n.located).1).0) (omega arith))) h
    standing_within here h (keep a b) n = within_stand p r s b _ _ w
        (stands_within b 2 (le? (both? (both? n.located).1).0) (omega arith))
    standing_within here h none n = w

    pub after_within : s.next < commands_in p r → (d : Cmd) → refusal_of p r s c d ≡ 0 → Within p r (after_of p r s d)
    unfolding after_of advance standing_at command_loc locations sink_loc
    after_within h d e = standing_within _ (omega arith) d (not_refused d e)

  module _ (legal : LegalTables p) (sh : Shaped p s) where
    -- the kind of a deployment or a branch point is a shape
    deployment_shape : (b : ℕ) → is_deployment s b ≡ true → kind_at s b < shapes p
    unfolding is_deployment
    deployment_shape b e = sh b (omega (arith, le? e))

    shape_at_point : (b : ℕ) → is_point s b ≡ true → kind_at s b < shapes p
    unfolding is_point
    shape_at_point b e = sh b (le? (both? e).0)

    standing_shaped : (here : ℕ) (d : Cmd) → NotRefused d → Shaped p (standing_after p r s here d)
    unfolding standing_after formed located
    standing_shaped here (alloc_mono x) n = shaped_stand p legal.some_shape s here _ _ sh
        (λ g. legal.shape x (lt? (both? n.formed).1))
    standing_shaped here (make_poly x) n = shaped_stand p legal.some_shape s here _ _ sh
        (λ g. lt? (both? n.formed).1)
    standing_shaped here (cell x v) n = shaped_stand p legal.some_shape s here _ _ sh (λ g. absurd (omega arith))
    standing_shaped here (gives g) n = value_stand p legal.some_shape s here _ sh
    standing_shaped here (supply x a b) n = shaped_stand p legal.some_shape s b _ _ sh
        (λ g. deployment_shape b (both? n.located).1)
    standing_shaped here (react b) n = shaped_stand p legal.some_shape s b _ _ sh
        (λ g. deployment_shape b n.located)
    standing_shaped here (sink x a) n = shaped_stand p legal.some_shape s _ _ _ sh (λ g. legal.some_shape)
    standing_shaped here (alloc_poly a b) n =
        let k = shape_at_point b (both? n.located).1 in
        shaped_stand p legal.some_shape _ here _ _ (shaped_stand p legal.some_shape s b _ _ sh (λ g. k)) (λ g. k)
    standing_shaped here (keep a b) n = shaped_stand p legal.some_shape s b _ _ sh (λ g. absurd (omega arith))
    standing_shaped here none n = sh

    pub after_shaped : (d : Cmd) → refusal_of p r s c d ≡ 0 → Shaped p (after_of p r s d)
    unfolding after_of advance standing_at kind_at
    after_shaped d e = standing_shaped _ d (not_refused d e)

    supply_free : NotRefused (supply c.x c.a c.b) → FreeSource s c
    unfolding located agreed disorder
    supply_free n =
        let k = deployment_shape c.b (both? n.located).1 in
        let f = legal.few_sources _ k in
        let l = lt? (both? n.agreed).0 in
        let o = needed _ 20 _ (omega arith) n.in_order in
        let u = needed _ 6 0 (omega arith) o.1 in
        (omega arith, not_true _ u.0)

    pub free_source : right p r s c (supply c.x c.a c.b) ≡ true → FreeSource s c
    unfolding right
    free_source e =
        let f = both? e in
        let l = both? (both? f.1).1 in
        let a = both? l.1 in
        supply_free (record { formed = f.0; located = l.0; agreed = a.0; in_order = eq? a.1 })
