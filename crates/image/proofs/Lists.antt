-- Folds and first faults over a list, one element at a time.
-- Assumes nothing.
use Rattle.std.specs.Prelude.{ℕ, zero, suc, ◌<◌, ◌≡◌, refl, ◌≢◌, Ok, Err, IsErrAnd, Bool, true, false, List, [], ◌∷◌, ◌++◌}
use Rattle.value.proofs.Tests.{goes, stops}
use Rattle.std.proofs.Common.{ap, arith}
use Rattle.image.specs.Passes.{Judged, lowest, over}
use Rattle.image.specs.Clauses.{judged}

module _ (f : List ℕ → ℕ → List ℕ) where
  -- t₁ is t changed for the first of s
  pub over_next : (t t₁ s rest : List ℕ) (a : ℕ) → s ≡ a ∷ rest → t₁ ≡ f t a → over f t₁ rest ≡ over f t s
  unfolding over
  over_next t t₁ s rest a e h = rw (e, h)

  pub over_done : (t s : List ℕ) → s ≡ [] → t ≡ over f t s
  unfolding over
  over_done t s e = rw e

  pub over_append : (t s r : List ℕ) → over f (over f t s) r ≡ over f t (s ++ r)
  unfolding over
  over_append t [] r = refl
  over_append t (a ∷ s) r = over_append (f t a) s r

module _ (ok : ℕ → Bool) (s rest : List ℕ) (a : ℕ) (e : s ≡ a ∷ rest) where
  pub lowest_found : ok a ≡ false → a ≡ lowest ok s
  unfolding lowest
  lowest_found h = rw e (stops _ h refl)

  pub lowest_next : ok a ≡ true → lowest ok rest ≡ lowest ok s
  unfolding lowest
  lowest_next h = rw e (goes _ _ h refl)

pub lowest_done : (ok : ℕ → Bool) (s : List ℕ) → s ≡ [] → 0 ≡ lowest ok s
unfolding lowest
lowest_done ok s e = rw e

-- what a pass answers
pub judged_fault : (a n : ℕ) → 0 < a → a ≡ n → Err a ≡ judged n
unfolding judged
judged_fault zero n h e = absurd (omega arith)
judged_fault (suc a) n h e = rw (← e) refl

pub judged_none : (n : ℕ) → 0 ≡ n → Ok tt ≡ judged n
unfolding judged
judged_none n e = rw (← e) refl

pub fault_judged : (n a : ℕ) → Err a ≡ judged n → (n ≢ 0) × (a ≡ n)
unfolding judged
fault_judged zero a e = cc
fault_judged (suc n) a e = (λ z. omega arith, cc)

pub none_judged : (n : ℕ) → Ok tt ≡ judged n → n ≡ 0
unfolding judged
none_judged zero e = refl
none_judged (suc n) e = cc

-- what `?` hands on of a fault
pub handed_on : {a : ℕ} (r : Judged) → IsErrAnd r (λ b. b ≡ a) → r ≡ Err a
handed_on (Ok x) h = absurd h
handed_on (Err b) h = ap Err h
