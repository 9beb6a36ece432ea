-- The tests of a command's bytes, number 3: they say that the bytes not named are zero, and
-- the ranges and constants right.
use Rattle.std.specs.Prelude.{ℕ, zero, suc, ◌+◌, ◌<◌, ◌≡◌, ◌↔◌, List}
use Rattle.std.proofs.Common.{inl, inr, arith}
use Rattle.std.proofs.Math.Logic.Iff.{trans as iff_trans}
use Rattle.value.specs.Test.{◌≤?◌, ◌=?◌, ◌or◌}
use Rattle.value.specs.Primitive.{is_primitive}
use Rattle.value.proofs.Tests.{Says, says_lt, says_le, says_eq, says_true, says_false, says_and, says_or, cases, le?}
use Rattle.value.proofs.Tests.{le×?, eq?, eq! }
use Rattle.program.specs.Command.{decode, v_of}
use Rattle.program.specs.Kind.{content_legal, Content}
use Rattle.program.specs.declared.Command.{Command}
use Rattle.program.proofs.Decode.{by_code}
use Rattle.load.specs.Scan.{formed}
use Rattle.load.specs.Rules.{ZeroBytes}
use Rattle.load.specs.Fault.{Ranged}

-- ---- a sum is zero where each part is

zero_two : {a b : ℕ} → Says (a + b =? 0) ((a ≡ 0) × (b ≡ 0))
zero_two {a} {b} = ((λ e. let q : a + b ≡ 0 = eq? e in (omega arith, omega arith)), (λ h. eq! (omega arith)))

zero_three : {a b c : ℕ} → Says (a + b + c =? 0) ((a ≡ 0) × (b ≡ 0) × (c ≡ 0))
zero_three {a} {b} {c} =
    ((λ e. let q : a + b + c ≡ 0 = eq? e in (omega arith, omega arith, omega arith)), (λ h. eq! (omega arith)))

-- an operand that is not taken is zero
not_taken : {n m b : ℕ} → Says ((n ≤? m) or (b =? 0)) (m < n → b ≡ 0)
not_taken {n} {m} {b} =
    iff_trans (says_or says_le says_eq) (
      (λ h l. elim h [ inl a ↦ absurd (omega arith) | inr e ↦ e ]),
      (λ h. cases (n ≤? m) (λ y. inl (le? y)) (λ y. inr (h (le×? y)))),
    )

content_says : (p : List ℕ) (k c : ℕ) → Says (content_legal p k c) (Content p k c)
unfolding content_legal
content_says p zero c = says_true
content_says p (suc zero) c = says_lt
content_says p (suc (suc s)) c = says_and says_lt says_eq

-- a test of zero bytes alone
only : {A : Type 0} → A ↔ (A × Unit {0})
only = ((λ a. (a, tt)), (λ h. h.0))

pub formed_says : (p : List ℕ) (c : Command) →
    Says (formed p c (decode c)) (ZeroBytes c (decode c) × Ranged p (decode c))
unfolding formed is_primitive
formed_says p c =
    by_code (λ d. Says (formed p c d) (ZeroBytes c d × Ranged p d)) c
    (λ _. says_and zero_three says_lt)
    (λ _. says_and zero_three says_lt)
    (λ _. says_and zero_two (says_and says_lt (content_says p c.x (v_of c))))
    (λ _. says_and zero_three says_le)
    (λ _. iff_trans says_eq only)
    (λ _. iff_trans zero_three only)
    (λ _. iff_trans zero_two only)
    (λ _. iff_trans zero_two only)
    (λ _. iff_trans zero_two only)
    (λ _. iff_trans (says_and says_lt (says_and zero_three (says_and not_taken not_taken))) (
      (λ h. ((h.1.0.0, h.1.0.1, h.1.0.2, h.1.1.0, h.1.1.1), h.0)),
      (λ h. (h.1, ((h.0.0, h.0.1, h.0.2), (h.0.3, h.0.4)))),
    ))
    (λ _. says_and zero_two (says_and says_le (content_says p c.x (v_of c))))
    (λ _. iff_trans zero_three only)
    (λ _. iff_trans zero_two only)
    (λ _. ((λ e. absurd (says_false.0 e)), (λ h. absurd h.0)))
