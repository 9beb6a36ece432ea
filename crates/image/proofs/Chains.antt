-- The chain of a branch point: each test of one link, the next link, and the list of its members.
-- Assumes nothing.
use Rattle.std.specs.Prelude.{ℕ, zero, suc, ◌+◌, ◌-◌, ◌≤◌, ◌<◌, ◌≡◌, refl, Bool, true, false, List, [], ◌∷◌, get_or, set}
use Rattle.std.proofs.Common.{sym, ◌∙◌, ⊎_elim, arith}
use Rattle.value.specs.Test.{◌and◌, ◌<?◌, ◌=?◌, guard}
use Rattle.value.proofs.Tests.{goes, stops, lt!, lt×, below, cases}
use Rattle.program.specs.Bytes.{shape_of}
use Rattle.image.specs.Memory.{reactor, next}
use Rattle.image.specs.Passes.{is_start, chain_from, members_from, children_from, over}
use Rattle.image.specs.Clauses.{named_at}
use Rattle.image.proofs.Lists.{over_append, over_done}

module _ (p m t : List ℕ) (o s last : ℕ) (seen : List ℕ) (c : ℕ) where
  -- where one more link would be too many, the chain has to end
  pub chain_last : (n : ℕ) → n ≡ suc zero → (c <? 1) ≡ chain_from p m n t o s last seen c
  unfolding chain_from
  chain_last n e =
      rw e
      (⊎_elim (λ (l : c < 1). lt! l ∙ stops _ (lt× (omega arith)) refl)
      (λ (l : 1 ≤ c). lt× l ∙ goes _ _ (lt! (omega arith)) (none _ _)) (below c 1))
    where
      none : (a b : Bool) → false ≡ guard a false (λ _. guard b false (λ _. false))
      none a b = cases a (λ e. goes _ _ e (cases b (λ h. goes _ _ h refl) (λ h. stops _ h refl))) (λ e. stops _ e refl)

  module _ (n k : ℕ) (e : n ≡ suc k) where
    pub chain_ends : c < 1 → true ≡ chain_from p m n t o s last seen c
    unfolding chain_from
    chain_ends h = rw e (stops _ (lt× (omega arith)) refl)

    module _ (above : 0 < c) where
      pub chain_unlinked : ((o <? c) and (c <? last) and is_start t c) ≡ false
          → false ≡ chain_from p m n t o s last seen c
      unfolding chain_from
      chain_unlinked h = rw e (goes _ _ (lt! above) (stops _ h refl))

      module _ (linked : ((o <? c) and (c <? last) and is_start t c) ≡ true) (r : ℕ) (its : r ≡ reactor m c) where
        pub chain_unjoined : ((shape_of p r =? s) and (get_or seen r 0 =? 0)) ≡ false
            → false ≡ chain_from p m n t o s last seen c
        unfolding chain_from
        chain_unjoined h = rw e (goes _ _ (lt! above) (goes _ _ linked (stops _ (rw its at h) refl)))

        pub chain_next : (seen₁ : List ℕ) (c₁ : ℕ)
            → ((shape_of p r =? s) and (get_or seen r 0 =? 0)) ≡ true → seen₁ ≡ set seen r 1 → c₁ ≡ next m c
            → chain_from p m k t o s c seen₁ c₁ ≡ chain_from p m n t o s last seen c
        unfolding chain_from
        chain_next seen₁ c₁ h a b =
            rw (e, a, b, its) (goes _ _ (lt! above) (goes _ _ linked (goes _ _ (rw its at h) refl)))

module _ (p m : List ℕ) (c : ℕ) where
  pub members_end : (n : ℕ) → c < 1 → members_from p m n c ≡ []
  unfolding members_from
  members_end zero h = refl
  members_end (suc n) h = sym (stops _ (lt× (omega arith)) refl)

  pub members_out : (n : ℕ) → n < 1 → members_from p m n c ≡ []
  unfolding members_from
  members_out zero h = refl
  members_out (suc n) h = absurd (omega arith)

  pub members_next : (n k c₁ : ℕ) → n ≡ suc k → 0 < c → c₁ ≡ next m c → members_from p m n c ≡ c ∷ members_from p m k c₁
  unfolding members_from
  members_next n k c₁ e h d = rw (e, d) (sym (goes _ _ (lt! h) refl))

module _ (p m : List ℕ) (f : List ℕ → ℕ → List ℕ) (o n j : ℕ) (t : List ℕ) where
  pub children_done : n ≤ j → t ≡ over f t (children_from p m (n - j) j o)
  unfolding children_from
  children_done h = let e : n - j ≡ 0 = omega arith in rw e (over_done f t [] refl)

  pub children_next : (t₁ : List ℕ) → j < n → t₁ ≡ over f t (named_at p m o j)
      → over f t₁ (children_from p m (n - (j + 1)) (j + 1) o) ≡ over f t (children_from p m (n - j) j o)
  unfolding children_from named_at
  children_next t₁ h a = let e : n - j ≡ suc (n - (j + 1)) = omega arith in rw (e, a) (over_append f t _ _)
