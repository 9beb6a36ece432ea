-- Laws of a sweep: the first place where a test fails. `swept` says what it finds, `sweeps` when it comes to its end,
-- and the three that follow take it one place at a time, as a loop does. Assumes nothing.
use Rattle.std.specs.Prelude.{ℕ, zero, suc, ◌+◌, ◌-◌, ◌≤◌, ◌<◌, ◌≡◌, refl, ◌↔◌, Bool, true}
use Rattle.std.proofs.Common.{sym, ◌∙◌, subst}
use Rattle.std.specs.Prelude.{false}
use Rattle.std.proofs.Common.{arith}
use Rattle.value.specs.Test.{guard, sweep, ◌<?◌, ◌=?◌, ◌and◌}
use Rattle.value.proofs.Tests.{cases, same_test, both?, both!, clash, lt?, lt×?, eq?, eq!, goes, stops}

-- what holds at a place, and at those after it, holds at each from that place on
pub from_more : (P : ℕ → Type 0) (at end : ℕ) → P at → ((i : ℕ) → at + 1 ≤ i → i < end → P i) →
    (i : ℕ) → at ≤ i → i < end → P i
from_more P at end e h i l m = cases (at <? i) (λ q. h i (let w : at < i = lt? q in omega arith) m)
    (λ q. subst P (let w : i ≤ at = lt×? q in omega arith) e)

module _ (ok : ℕ → Bool) where
  -- the test passes at each place from `at` to before `end`
  abbrev pub Passes : ℕ → ℕ → Type 0
  Passes at end = (i : ℕ) → at ≤ i → i < end → ok i ≡ true

  -- j is the first of the n places from `at` on where the test fails, or the end
  pub record Swept (at n j : ℕ) : Type 0 where
    pub from : at ≤ j
    pub to : j ≤ at + n
    pub passed : Passes at j
    pub stopped : j < at + n → ok j ≡ false

  pub swept : (at n : ℕ) → Swept at n (sweep ok at n)
  unfolding sweep
  swept at zero = record {
    from = omega arith;
    to = omega arith;
    passed = λ i l m. absurd (omega arith);
    stopped = λ l. absurd (omega arith);
  }
  swept at (suc n) =
      let h = swept (at + 1) n in
      let more : Unit {0} → ℕ = (λ u. sweep ok (at + 1) n) in
      cases (ok at)
      (λ e.
      subst (λ (j : ℕ). Swept at (suc n) j) (goes at more e refl)
      (record {
        from = omega arith;
        to = omega arith;
        passed = from_more (λ (i : ℕ). ok i ≡ true) at _ e h.passed;
        stopped = λ l. h.stopped (omega arith);
      }))
      (λ e.
      subst (λ (j : ℕ). Swept at (suc n) j) (stops more e refl)
      (record { from = omega arith; to = omega arith; passed = λ i l m. absurd (omega arith); stopped = λ l. e }))

  -- a sweep comes to the end where each place passes
  pub sweeps : (at n end : ℕ) → at + n ≡ end → (sweep ok at n ≡ end) ↔ Passes at end
  sweeps at n end q =
      let s = swept at n in (
        λ e i l m. s.passed i l (omega arith),
        λ h.
            cases (sweep ok at n <? end)
            (λ y. clash (h _ s.from (lt? y)) (s.stopped (let w : sweep ok at n < end = lt? y in omega arith)))
            (λ y. let w : end ≤ sweep ok at n = lt×? y in omega arith),
      )

  pub sweeps? : (at n end : ℕ) → at + n ≡ end → ((sweep ok at n =? end) ≡ true) ↔ Passes at end
  sweeps? at n end q = let w = sweeps at n end q in (λ e. w.0 (eq? e), λ h. eq! (w.1 h))

  -- ---- one place at a time

  step : (at n : ℕ) → sweep ok at (suc n) ≡ guard (ok at) at (λ _. sweep ok (at + 1) n)
  unfolding sweep
  step at n = refl

  module _ (at end : ℕ) (h : at < end) where
    first : sweep ok at (end - at) ≡ guard (ok at) at (λ _. sweep ok (at + 1) (end - (at + 1)))
    first = let e : end - at ≡ suc (end - (at + 1)) = omega arith in rw e (step at _)

    pub sweep_found : ok at ≡ false → at ≡ sweep ok at (end - at)
    sweep_found e = stops _ e refl ∙ sym first

    pub sweep_next : ok at ≡ true → sweep ok at (end - at) ≡ sweep ok (at + 1) (end - (at + 1))
    sweep_next e = first ∙ sym (goes _ _ e refl)

  pub sweep_done : (at end : ℕ) → end ≤ at → at ≡ sweep ok at (end - at)
  unfolding sweep
  sweep_done at end h = let e : end - at ≡ 0 = omega arith in rw e

  -- one place more, where each test is asked
  pub sweep_more : (n : ℕ) → ((sweep ok 0 n =? n) and ok n) ≡ (sweep ok 0 (n + 1) =? n + 1)
  sweep_more n =
      let to_n = sweeps? 0 n n (omega arith) in
      let to_next = sweeps? 0 (n + 1) (n + 1) (omega arith) in
      same_test _ _
      (λ e.
      let b = both? e in
      to_next.1 (λ i low high.
      cases (i <? n) (λ q. to_n.0 b.0 i low (lt? q))
      (λ q. subst (λ (j : ℕ). ok j ≡ true) (omega (arith, lt×? q)) b.1)))
      (λ e.
      let h = to_next.0 e in both! (to_n.1 (λ i low high. h i low (omega arith))) (h n (omega arith) (omega arith)))
