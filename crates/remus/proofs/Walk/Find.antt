-- `find` finds the deployment of a reactor on a chain exactly where there is one: the count of reactors is enough.
use Rattle.std.specs.Prelude.{ℕ, zero, suc, ◌≤◌, ◌≡◌, refl, ◌≢◌, not, List}
use Rattle.std.proofs.Common.{ap, subst, arith}
use Rattle.value.specs.Test.{◌=?◌}
use Rattle.value.proofs.Tests.{cases, lt!, lt×, eq?, eq×?, goes, stops}
use Rattle.program.specs.Bytes.{reactors}
use Rattle.image.specs.Memory.{used, main_at, reactor, next}
use Rattle.image.specs.Sound.{Tiles, OnChain, head, tail, Chain}
use Rattle.image.proofs.Memory.Slots.{no_chain}
use Rattle.image.proofs.Memory.Distinct.{Members, end, one, few_members}
use Rattle.remus.specs.Exec.{find}

-- x is the deployment of reactor q on the chain from c, or 0
pub record Found (p m : List ℕ) (c q x : ℕ) : Type 0 where
  pub hit : x ≢ 0 → OnChain p m c x × (reactor m x ≡ q)
  pub miss : x ≡ 0 → (d : ℕ) → OnChain p m c d → reactor m d ≢ q

module _ (p m : List ℕ) (q : ℕ) where
  by_members : (f c n : ℕ) → Members m c n → n ≤ f → Found p m c q (find f m q c)
  unfolding find
  by_members zero c n end l = record { hit = λ z. absurd (z refl); miss = λ z d i. absurd (no_chain p refl i) }
  by_members zero c n (one z k) l = absurd (omega arith)
  by_members (suc f) c n end l =
      subst (λ (x : ℕ). Found p m 0 q x) (stops _ (lt× (omega arith)) refl)
      (record { hit = λ z. absurd (z refl); miss = λ z d i. absurd (no_chain p refl i) })
  by_members (suc f) c n (one {n = k} z w) l =
      let on = by_members f (next m c) k w (omega arith) in
      cases (reactor m c =? q)
      (λ e.
      subst (λ (x : ℕ). Found p m c q x) (goes 0 _ (lt! (omega arith)) (stops _ (ap not e) refl))
      (record { hit = λ y. (head y, eq? e); miss = λ y. absurd (z y) }))
      (λ e.
      subst (λ (x : ℕ). Found p m c q x) (goes 0 _ (lt! (omega arith)) (goes c _ (ap not e) refl))
      (record {
        hit = λ y. let h = on.hit y in (tail {c = c} z h.0, h.1);
        miss = λ y d i. other d (on.miss y) (eq×? e) i;
      }))
    where
      other : (d : ℕ) → ((b : ℕ) → OnChain p m (next m c) b → reactor m b ≢ q) → (reactor m c ≡ q → ⊥) →
          OnChain p m c d → reactor m d ≢ q
      other d g e (head y) = e
      other d g e (tail y i) = g d i

  pub found : Tiles p m (used m) main_at → {o s : ℕ} (c : ℕ) → Chain p m o s c → Found p m c q (find (reactors p) m q c)
  found t c ch = let w = few_members t ch in by_members (reactors p) c w.0 w.1 w.2
