-- A search for the first place where a test fails finds the place to which a sweep comes. Assumes nothing.
use Rattle.std.specs.Prelude.{ℕ, ◌+◌, ◌≤◌, ◌<◌, ◌≡◌, ◌≢◌, Bool, true, false, Option, None, Some, MatchOption}
use Rattle.std.proofs.Common.{ap, arith}
use Rattle.value.specs.Test.{sweep, ◌<?◌}
use Rattle.value.proofs.Sweeps.{Passes, swept, sweeps}
use Rattle.value.proofs.Tests.{cases, clash, lt?, lt×?}

module _ (ok : ℕ → Bool) (at n end : ℕ) (q : at + n ≡ end) where
  -- a place at fault with none before it
  place : (i : ℕ) → at ≤ i → i < end → ok i ≡ false → Passes ok at i → i ≡ sweep ok at n
  place i low high fails passes =
      let s = swept ok at n in
      cases (i <? sweep ok at n)
      (λ e. clash (s.passed i low (lt? e)) fails)
      (λ e.
      let w : sweep ok at n ≤ i = lt×? e in
      cases (sweep ok at n <? i)
      (λ f.
      let v : sweep ok at n < i = lt? f in
      clash (passes (sweep ok at n) s.from v) (s.stopped (omega arith)))
      (λ f. let v : i ≤ sweep ok at n = lt×? f in omega arith))

  pub found : (r : Option ℕ) → MatchOption r (Passes ok at end)
      (λ i. (at ≤ i) × (i < end) × (ok i ≡ false) × ((k : ℕ) → at ≤ k → k < i → ok k ≡ true)) →
      sweep ok at n ≢ end → r ≡ Some (sweep ok at n)
  found None h fault = absurd (fault ((sweeps ok at n end q).1 h))
  found (Some i) h fault = ap Some (place i h.0 h.1 h.2 h.3)
