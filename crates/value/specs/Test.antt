-- Tests on numbers, and a choice by a test. Shut, so that proofs go by the laws of proofs/Tests.antt and a stuck test
-- stays an atom. A call's arguments are computed before the call: `pick` is for small answers; what recurses goes by
-- `guard` or by clauses on the test.
use Rattle.std.specs.Prelude.{ℕ, zero, suc, ◌+◌, Bool, true, false, ◌==◌, nat_le, nat_lt}

-- t ? x : y
unfoldable pub pick : {A : Type 0} → Bool → A → A → A
pick true x y = x
pick false x y = y

infix 50 ◌<?◌
unfoldable pub ◌<?◌ : ℕ → ℕ → Bool
a <? b = nat_lt a b

infix 50 ◌≤?◌
unfoldable pub ◌≤?◌ : ℕ → ℕ → Bool
a ≤? b = nat_le a b

infix 50 ◌=?◌
unfoldable pub ◌=?◌ : ℕ → ℕ → Bool
a =? b = a == b

infixr 30 ◌and◌
unfoldable pub ◌and◌ : Bool → Bool → Bool
true and t = t
false and t = false

infixr 30 ◌or◌
unfoldable pub ◌or◌ : Bool → Bool → Bool
true or t = true
false or t = t

-- the refusal n unless t holds, else what follows (0 is no refusal)
abbrev pub need : Bool → ℕ → ℕ → ℕ
need t n rest = pick t rest n

-- a ladder of tests: `bad` unless t holds, else what follows, which is not computed before
unfoldable pub guard : {A : Type 0} → Bool → A → (Unit {0} → A) → A
guard true bad more = more tt
guard false bad more = bad

-- the first of the n places from `at` on where the test fails; at + n if none does
unfoldable pub sweep : (ℕ → Bool) → ℕ → ℕ → ℕ
sweep ok at zero = at
sweep ok at (suc n) = guard (ok at) at (λ _. sweep ok (at + 1) n)
