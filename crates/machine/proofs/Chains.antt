-- A chain of deployments, one step further.
-- Assumes nothing.
use Rattle.std.specs.Prelude.{ℕ, zero, suc, ◌≤◌, ◌<◌, ◌≡◌, refl, not, List}
use Rattle.std.proofs.Common.{ap, arith}
use Rattle.value.proofs.Tests.{lt!, lt×, le!, le×, eq!, eq×, goes, stops}
use Rattle.image.specs.Memory.{reactor, next}
use Rattle.remus.specs.Exec.{find}
use Rattle.remus.specs.Undo.{below}

module _ (m : List ℕ) (q c : ℕ) where
  pub find_out : (n : ℕ) → n ≤ 0 → 0 ≡ find n m q c
  unfolding find
  find_out zero h = refl
  find_out (suc n) h = absurd (omega arith)

  pub find_end : (n : ℕ) → 0 < n → c < 1 → 0 ≡ find n m q c
  unfolding find
  find_end zero l h = absurd (omega arith)
  find_end (suc n) l h = stops _ (lt× (omega arith)) refl

  pub find_hit : (n : ℕ) → 0 < n → 1 ≤ c → reactor m c ≡ q → c ≡ find n m q c
  unfolding find
  find_hit zero l h e = absurd (omega arith)
  find_hit (suc n) l h e = goes _ _ (lt! (omega arith)) (stops _ (ap not (eq! e)) refl)

  pub find-next : (n k : ℕ) → n ≡ suc k → 1 ≤ c → (reactor m c ≡ q → ⊥) → find k m q (next m c) ≡ find n m q c
  unfolding find
  find-next n k e h d = rw e (goes _ _ (lt! (omega arith)) (goes _ _ (ap not (eq× d)) refl))

module _ (m : List ℕ) (u c : ℕ) where
  pub below_out : (n : ℕ) → n ≤ 0 → 0 ≡ below n m u c
  unfolding below
  below_out zero h = refl
  below_out (suc n) h = absurd (omega arith)

  pub below_here : (n : ℕ) → 0 < n → c < u → c ≡ below n m u c
  unfolding below
  below_here zero l h = absurd (omega arith)
  below_here (suc n) l h = stops _ (le× h) refl

  pub below_next : (n k : ℕ) → n ≡ suc k → u ≤ c → below k m u (next m c) ≡ below n m u c
  unfolding below
  below_next n k e h = rw e (goes _ _ (le! h) refl)
