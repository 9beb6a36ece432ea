-- 1.24 What primitive 13 gives for two numbers, said without words or wrapping: the number in 32 bits that is congruent
-- to their difference modulo 2^32.
use Rattle.std.specs.Prelude.{◌^◌, ◌≡◌, ◌↔◌, true}
use Rattle.std.specs.Prelude.{ℤ, pos, ◌+ℤ◌, ◌-ℤ◌, ◌*ℤ◌}
use Rattle.value.specs.Value.{number, is_number, int_of}
use Rattle.value.specs.Primitive.{in32, primitive}
use Rattle.value.specs.declared.Value.{Value}

-- d is z but for k turns
abbrev pub Congruent : ℤ → ℤ → Type 0
Congruent d z = (k : ℤ) × (d +ℤ k *ℤ pos (2 ^ 32) ≡ z)

-- proved as `exact_difference` in proofs/Ticks.antt
abbrev pub ExactDifference : Type 0
ExactDifference =
    (a b c : Value) (d : ℤ) →
    is_number a ≡ true →
    is_number b ≡ true →
    in32 d ≡ true →
    (primitive 13 a b c ≡ number d) ↔ Congruent d (int_of a -ℤ int_of b)
