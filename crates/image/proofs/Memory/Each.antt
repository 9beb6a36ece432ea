-- What is done to each deployment in turn, from the first to the last.
use Rattle.std.specs.Prelude.{ℕ, zero, suc, ◌+◌, ◌≤◌, ◌<◌, ◌≡◌, refl, List, [], ◌∷◌, length}
use Rattle.std.proofs.Common.{arith}
use Rattle.value.proofs.Tests.{lt!, lt×, goes, stops}
use Rattle.image.specs.Memory.{main_at, size_at, starts_from, starts_below}
use Rattle.image.specs.Passes.{over}
use Rattle.image.specs.Sound.{Tiles, done, more, In, here, there}
use Rattle.image.proofs.Memory.Tiles.{size_at_lem, in_lt}

pub in_below : (p : List ℕ) {m : List ℕ} {u a d : ℕ} → In p m u a d → d < u
in_below p (here h) = h
in_below p (there h i) = in_below p i

-- where one deployment fills the words from a to u, it is the only one
pub alone : {p m : List ℕ} {u a d : ℕ} → a + size_at p m a ≡ u → In p m u a d → d ≡ a
alone e (here l) = refl
alone {p} e (there l i) = absurd (omega (arith, in_lt p i))

starts_end : (p m : List ℕ) (u n : ℕ) → [] ≡ starts_from p n m u u
unfolding starts_from
starts_end p m u zero = refl
starts_end p m u (suc n) = stops _ (lt× (omega arith)) refl

starts_more : (p m : List ℕ) (u n a : ℕ) → a < u
    → a ∷ starts_from p n m u (a + size_at p m a) ≡ starts_from p (suc n) m u a
unfolding starts_from
starts_more p m u n a l = goes _ _ (lt! l) refl

-- P a t: t is what comes of the deployments before a
module _ (p m : List ℕ) (u : ℕ) (f : List ℕ → ℕ → List ℕ) (P : ℕ → List ℕ → Type 0) where
  each_from : (n a : ℕ) (t : List ℕ) → u ≤ a + n → Tiles p m u a
      → ((d : ℕ) (s : List ℕ) → In p m u a d → P d s → P (d + size_at p m d) (f s d)) → P a t
      → P u (over f t (starts_from p n m u a))
  unfolding over
  each_from n a t enough done step h = rw (← starts_end p m u n) h
  each_from zero a t enough (more l r q) step h = absurd (omega arith)
  each_from (suc n) a t enough (more {a = b} l r q) step h =
      rw (← starts_more p m u n b l)
      (each_from n (b + size_at p m b) (f t b) (omega (arith, size_at_lem p m b)) q
      (λ d s i. step d s (there l i)) (step b t (here l) h))

-- the same over all deployments below u, whatever their number: memory's length is fuel enough
pub each : (p m : List ℕ) (u : ℕ) (f : List ℕ → ℕ → List ℕ) (P : ℕ → List ℕ → Type 0) (t : List ℕ) → u ≤ length m
    → Tiles p m u main_at → ((d : ℕ) (s : List ℕ) → In p m u main_at d → P d s → P (d + size_at p m d) (f s d))
    → P main_at t → P u (over f t (starts_below p m u))
unfolding starts_below
each p m u f P t fits tl step h = each_from p m u f P (length m) main_at t (omega arith) tl step h
