-- Depths: the table of depths against `Depth`. Owners stand below their children and the pass goes upward, so that an
-- owner's entry is final when its children's are made.
use Rattle.std.specs.Prelude.{ℕ, zero, suc, ◌+◌, ◌/◌, ◌≤◌, ◌<◌, ◌≡◌, refl, ◌↔◌, ◌≢◌, true, List}
use Rattle.std.proofs.Common.{sym, ◌∙◌, ap, subst}
use Rattle.std.specs.Prelude.{length}
use Rattle.std.proofs.Common.{arith}
use mathlib.Core.List.Memᴰ.{head as first}
use mathlib.Core.List.Memᴰ.{tail as later}
use Rattle.value.specs.Test.{pick, ◌≤?◌}
use Rattle.value.proofs.Tests.{cases, le!, le?, yes, no}
use Rattle.image.specs.Memory.{most_depth, main_at}
use Rattle.image.specs.Sound.{Deployed, Owner, NamedOnce, Depth, top, child}
use Rattle.image.specs.Fault.{SlotsRight}
use Rattle.image.specs.Passes.{over, table_byte, blank_table, one_deeper, deepen, children_of, visit, table_after}
use Rattle.image.specs.Passes.{fits}
use Rattle.image.specs.declared.Pass.TheVariants.{Depths}
use Rattle.image.proofs.Exact.Lists.{ends, ◌∈◌, same, Rising, rises, rising_from}
use Rattle.image.proofs.Exact.Tables.{over_keeps, entry_other, blank_main, writes, writes_length, writes_keep}
use Rattle.image.proofs.Exact.Tables.{writes_set}
use Rattle.image.proofs.Exact.Tiling.{Laid, starts, table_of, start_in, start_rising, main_deployed, deployed_one}
use Rattle.image.proofs.Exact.Tiling.{deployed_entry}
use Rattle.image.proofs.Memory.Tiles.{in_ge}
use Rattle.image.proofs.Exact.Names.{owner_above, owner_child, child_owner, child_above}

-- ---- one deeper

below_more : {v : ℕ} → v ≤ most_depth → one_deeper v ≡ v + 1
unfolding one_deeper
below_more h = sym (yes _ (le! h) refl)

below_most : (v : ℕ) → one_deeper v ≤ most_depth → v ≤ most_depth
unfolding one_deeper
below_most v h = cases (v ≤? most_depth) (λ e. le? e)
    (λ e. let q : v ≡ pick (v ≤? most_depth) (v + 1) v = no (v + 1) e refl in omega arith)

-- ---- one owner's children

-- what is written for each child of o
abbrev deeper : ℕ → List ℕ → ℕ → ℕ
deeper o t c = one_deeper (table_byte t o)

-- the entry of a child is one deeper than its owner's, which is kept
deeper_set : (o d : ℕ) (l t : List ℕ) → ((a : ℕ) → a ∈ l → o / 3 ≢ a / 3) → d / 3 < length t → d ∈ l →
    table_byte (over (writes (deeper o)) t l) d ≡ one_deeper (table_byte t o)
deeper_set o d l t h =
    writes_set (deeper o) (λ (s : List ℕ). table_byte s o ≡ table_byte t o) (one_deeper (table_byte t o)) d l t
    (λ s a i e. entry_other s a _ o (h a i) ∙ e) (λ s a i q e. ap one_deeper e) refl

-- ---- all owners

module _ (p m : List ℕ) (laid : Laid p m) (right : (o : ℕ) → Deployed p m o → SlotsRight p m o) where
  -- the table after the children of o
  abbrev level : List ℕ → ℕ → List ℕ
  level t o = over (writes (deeper o)) t (children_of p m o)

  -- what is no child of o begins in other words than all of them
  children_apart : {d o : ℕ} → Deployed p m d → Deployed p m o → (d ∈ children_of p m o → ⊥) → (a : ℕ) →
      a ∈ children_of p m o → d / 3 ≢ a / 3
  children_apart {d} {o} h g n a i e = n (subst (λ (x : ℕ). x ∈ children_of p m o)
      (sym (deployed_one p m laid h (child_above p m laid right g i).0 e)) i)

  levels_keep : {d : ℕ} → Deployed p m d → (l t : List ℕ) → ((o : ℕ) → o ∈ l → Deployed p m o) →
      ((o : ℕ) → o ∈ l → d ∈ children_of p m o → ⊥) → table_byte (over level t l) d ≡ table_byte t d
  levels_keep {d} k l t dep h =
      over_keeps level (λ (s : List ℕ). table_byte s d ≡ table_byte t d) l t
      (λ s o i e. writes_keep (deeper o) d (children_of p m o) s (children_apart k (dep o i) (h o i)) ∙ e) refl

  -- the last word on a child that has one owner: one deeper than the last word on that
  levels_set : {d : ℕ} → Deployed p m d → (o : ℕ) {b : ℕ} {l : List ℕ} (t : List ℕ) → Rising b l →
      ((a : ℕ) → a ∈ l → Deployed p m a) → ((a : ℕ) → a ∈ l → d ∈ children_of p m a → a ≡ o) → d / 3 < length t →
      d ∈ children_of p m o → o ∈ l → table_byte (over level t l) d ≡ one_deeper (table_byte (over level t l) o)
  unfolding over
  levels_set {d = d} y o t (ends {a = a}) dep only g i k = elim k [ ]
  levels_set {d} y o t (rises {b = a} {l = l} h r) dep only g i (first e) =
      let z = dep a (first refl) in
      let own = children_apart z z (λ k. omega (arith, (child_above p m laid right z k).1)) in
      levels_keep y l (level t a) (λ b j. dep b (later j)) (λ b j k. omega (arith, rising_from r j, only b (later j) k))
      ∙ deeper_set a d (children_of p m a) t own g (subst (λ (x : ℕ). d ∈ children_of p m x) e i)
      ∙ ap one_deeper
      (sym (writes_keep (deeper a) a (children_of p m a) t own)
      ∙ sym (levels_keep z l (level t a) (λ b j. dep b (later j))
      (λ b j k. omega (arith, rising_from r j, (child_above p m laid right (dep b (later j)) k).1)))
      ∙ ap (table_byte (over level (level t a) l)) (sym e))
  levels_set y o t (rises {b = a} {l = l} h r) dep only g i (later k) = levels_set y o (level t a) r
      (λ x j. dep x (later j)) (λ x j. only x (later j)) (rw (writes_length (deeper a) (children_of p m a) t) g) i k

  -- ---- the table

  deep : ℕ → ℕ
  deep d = table_byte (over level blank_table (starts p m)) d

  deep_table : (d : ℕ) → table_byte (table_of p m Depths) d ≡ deep d
  unfolding deep table_after visit deepen
  deep_table d = refl

  started : (a : ℕ) → a ∈ starts p m → Deployed p m a
  started a i = (start_in p m laid a).0 i

  deep_main : deep main_at ≡ 1
  unfolding deep
  deep_main =
      levels_keep (main_deployed p m laid) (starts p m) blank_table started
      (λ o i k. omega (arith, in_ge p (started o i), (child_above p m laid right (started o i) k).1))
      ∙ blank_main

  module _ (named : (d : ℕ) → Deployed p m d → d ≢ main_at → NamedOnce p m d) where
    deep_child : {o j d : ℕ} → Owner p m o j d → deep d ≡ one_deeper (deep o)
    unfolding deep
    deep_child {o} {j} {d} w =
        let k = owner_above p m laid right w in
        let once = named d k.0 (omega (arith, k.1, in_ge p w.deployed)) in
        levels_set k.0 o blank_table (start_rising p m laid) started
        (λ a i c. let n = child_owner p m laid right (started a i) c in (once.only a n.0 n.1).0
        ∙ sym (once.only o j w).0)
        (deployed_entry p m laid k.0) (owner_child p m laid right w) ((start_in p m laid o).1 w.deployed)

    -- by the index: an owner's is lower
    depth? : (n d : ℕ) → d < n → Deployed p m d → deep d ≤ most_depth → Depth p m d (deep d)
    depth? zero d l h g = absurd (omega arith)
    depth? (suc n) d l h g =
        same d main_at
        (λ e. subst (λ (x : ℕ). Depth p m x (deep x)) (sym e) (subst (Depth p m main_at) (sym deep_main) top))
        (λ e.
        let once = named d h e in
        let w = once.named in
        let k = owner_above p m laid right w in
        let q = deep_child w in
        let small = below_most (deep once.owner) (omega arith) in
        subst (Depth p m d) (sym (q ∙ below_more small))
        (child once.command w (depth? n once.owner (omega (arith, k.1)) w.deployed small)))

    depth! : {d k : ℕ} → Depth p m d k → k ≤ most_depth → deep d ≡ k
    depth! top l = deep_main
    depth! (child {o = o} {k = k} j w r) l =
        let e : deep o ≡ k = depth! r (omega arith) in
        deep_child w ∙ ap one_deeper e ∙ below_more (omega arith)

    pub depth_test : {d : ℕ} → Deployed p m d →
        (fits p m Depths (table_of p m Depths) d ≡ true) ↔ ((k : ℕ) × Depth p m d k × (k ≤ most_depth))
    unfolding fits
    depth_test {d} i = (
      λ h.
          let l : deep d ≤ most_depth = omega (arith, deep_table d, le? h) in
          (deep d, depth? (suc d) d (omega arith) i l, l),
      λ r. le! (omega (arith, deep_table d, depth! r.1 r.2)),
    )
