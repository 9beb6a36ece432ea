-- Which commands of a reactor came before position k: none with P, or some; and a number that tells which.
use Rattle.std.specs.Prelude.{ℕ, suc, ◌≤◌, ◌<◌, ◌≡◌, ◌⊎◌, ◌↔◌, List}
use Rattle.std.proofs.Common.{sym, ◌∙◌, subst, inl, inr, arith}
use native.Mathlib.Nat.{not-suc-le-zero}
use Rattle.value.specs.Test.{◌<?◌}
use Rattle.value.proofs.Tests.{cases, lt?, lt×?}
use Rattle.program.specs.Bytes.{commands_in}
use Rattle.program.specs.Command.{Cmd, cmd_of}
use Rattle.load.specs.Rules.{Once}
use Rattle.load.specs.Order.{Never, Already}
use Rattle.value.proofs.Below.{last_or_below}

module _ (p : List ℕ) (r : ℕ) where
  -- v is lo before the first command with P, and hi after it
  abbrev pub Tells : ℕ → ℕ → (Cmd → Type 0) → ℕ → ℕ → Type 0
  Tells lo hi P k v = ((v ≡ lo) × Never p r P k) ⊎ ((v ≡ hi) × Already p r P k)

module _ (p : List ℕ) (r : ℕ) (P : Cmd → Type 0) where
  pub never_start : Never p r P 0
  never_start i h q = not-suc-le-zero h

  -- one position more

  pub never_more : (k : ℕ) → Never p r P k → (P (cmd_of p r k) → ⊥) → Never p r P (suc k)
  never_more k n d i h = last_or_below i k h (λ e q. d (subst (λ j. P (cmd_of p r j)) e q)) (λ l. n i l)

  pub already_more : {k : ℕ} → Already p r P k → Already p r P (suc k)
  already_more a = let h = a.1 in (a.0, omega arith, a.2)

  pub already_now : (k : ℕ) → P (cmd_of p r k) → Already p r P (suc k)
  already_now k q = (k, omega arith, q)

  pub tells_more : (lo hi k v : ℕ) → (P (cmd_of p r k) → ⊥) → Tells p r lo hi P k v → Tells p r lo hi P (suc k) v
  tells_more lo hi k v d (inl a) = inl (a.0, never_more k a.1 d)
  tells_more lo hi k v d (inr a) = inr (a.0, already_more a.1)

  -- what the number tells

  pub tells_lo : (lo hi k v : ℕ) → (lo ≡ hi → ⊥) → Tells p r lo hi P k v → (v ≡ lo) ↔ Never p r P k
  tells_lo lo hi k v d (inl a) = ((λ e. a.1), (λ n. a.0))
  tells_lo lo hi k v d (inr a) = ((λ e. absurd (d (sym e ∙ a.0))), (λ n. absurd (n a.1.0 a.1.1 a.1.2)))

  pub tells_hi : (lo hi k v : ℕ) → (lo ≡ hi → ⊥) → Tells p r lo hi P k v → (v ≡ hi) ↔ Already p r P k
  tells_hi lo hi k v d (inl a) = ((λ e. absurd (d (sym a.0 ∙ e))), (λ s. absurd (a.1 s.0 s.1 s.2)))
  tells_hi lo hi k v d (inr a) = ((λ e. a.1), (λ n. a.0))

  -- no command with P follows one with P
  abbrev pub FirstOnly : Type 0
  FirstOnly = (i : ℕ) → i < commands_in p r → P (cmd_of p r i) → Never p r P i

  -- then there is one at most
  pub one : FirstOnly → (i j : ℕ) → i < commands_in p r → j < commands_in p r → P (cmd_of p r i) → P (cmd_of p r j) → i ≡ j
  one first i j hi hj pi pj =
      cases (i <? j)
      (λ y. absurd (first j hj pj i (lt? y) pi))
      (λ y.
      let a : j ≤ i = lt×? y in
      cases (j <? i) (λ z. absurd (first i hi pi j (lt? z) pj)) (λ z. let b : i ≤ j = lt×? z in omega arith))

  pub once : FirstOnly → (k : ℕ) → k < commands_in p r → P (cmd_of p r k) → Once p r P k
  once first k h q = record { there = h; is = q; only = λ i l s. one first i k l h s q }

-- what never came with the wider property never came with the narrower
pub never_narrow : (p : List ℕ) (r : ℕ) (P Q : Cmd → Type 0) (k : ℕ) → ((c : Cmd) → Q c → P c) →
    Never p r P k → Never p r Q k
never_narrow p r P Q k f n i h q = n i h (f _ q)
