-- 1.10 What each primitive gives, by its number, in other words than its definition has. Integers are held to one
-- another by sums, differences and products alone. Of 4, which is withdrawn, there is no law. Proved as
-- `primitive_laws` in proofs/Laws.antt.
use Rattle.std.specs.Prelude.{ℕ, suc, ◌≤◌, ◌<◌, ◌≡◌, ◌⊎◌, ◌≢◌, true, false}
use Rattle.std.specs.Prelude.{ℤ, pos, negsuc, ◌+ℤ◌, ◌-ℤ◌, ◌*ℤ◌}
use Rattle.value.specs.Value.{blank_mark, number_mark, blank, number, truth, int_of}
use Rattle.value.specs.Division.{Division}
use Rattle.value.specs.Primitive.{within, primitive}
use Rattle.value.specs.Ticks.{ExactDifference}
use Rattle.value.specs.declared.Value.{Value}

-- two operands that are numbers, x and y
pub record Numbers (a b : Value) (x y : ℤ) : Type 0 where
  pub first : a.mark ≡ number_mark
  pub second : b.mark ≡ number_mark
  pub is_x : int_of a ≡ x
  pub is_y : int_of b ≡ y

-- x is less than y: y is x and something more
abbrev pub Less : ℤ → ℤ → Type 0
Less x y = (d : ℕ) × (x +ℤ pos (suc d) ≡ y)

-- v is true and A holds, or v is false and A does not
abbrev pub Tells : Value → Type 0 → Type 0
Tells v A = ((v ≡ truth true) × A) ⊎ ((v ≡ truth false) × (A → ⊥))

-- v is true and A holds, or v is false and B holds, or v is blank and neither does
abbrev pub Answers : Value → Type 0 → Type 0 → Type 0
Answers v A B = ((v ≡ truth true) × A) ⊎ ((v ≡ truth false) × B) ⊎ ((v ≡ blank) × (A → ⊥) × (B → ⊥))

-- 1.19, 1.20 Of truths with blank among them, where one operand may settle it, whatever the other is.
abbrev pub Conjunction : Value → Value → Value → Type 0
Conjunction v a b = Answers v ((a ≡ truth true) × (b ≡ truth true)) ((a ≡ truth false) ⊎ (b ≡ truth false))

abbrev pub Disjunction : Value → Value → Value → Type 0
Disjunction v a b = Answers v ((a ≡ truth true) ⊎ (b ≡ truth true)) ((a ≡ truth false) × (b ≡ truth false))

-- the three values of kind truth
abbrev pub TruthOrBlank : Value → Type 0
TruthOrBlank v = (v ≡ truth true) ⊎ (v ≡ truth false) ⊎ (v ≡ blank)

-- the primitives that are blank where an operand is: 0 to 3, 5 to 7, and 13
abbrev pub Strict : ℕ → Type 0
Strict x = (x ≤ 3) ⊎ ((5 ≤ x) × (x ≤ 7)) ⊎ (x ≡ 13)

pub record PrimitiveLaws : Type 0 where
  -- 32 bits hold −2,147,483,648 to 2,147,483,647, and a result that they do not hold is blank; `negsuc n` is −(n + 1)
  pub inside : (n : ℕ) → n ≤ 2147483647 → (within (pos n) ≡ number (pos n)) × (within (negsuc n) ≡ number (negsuc n))
  pub outside : (n : ℕ) → 2147483647 < n → (within (pos n) ≡ blank) × (within (negsuc n) ≡ blank)
  -- ---- two numbers
  pub add : (a b c : Value) (x y : ℤ) → Numbers a b x y → primitive 0 a b c ≡ within (x +ℤ y)
  pub subtract : (a b c : Value) (x y : ℤ) → Numbers a b x y → primitive 1 a b c ≡ within (x -ℤ y)
  pub times : (a b c : Value) (x y : ℤ) → Numbers a b x y → primitive 2 a b c ≡ within (x *ℤ y)
  -- there is one such q: `ExactQuotient`
  pub divide :
      (a b c : Value) (x y : ℤ) →
      Numbers a b x y →
      y ≢ pos 0 →
      (q : ℤ) × (r : ℤ) × Division x y q r × (primitive 3 a b c ≡ within q)
  pub divide_by_zero : (a b c : Value) (x : ℤ) → Numbers a b x (pos 0) → primitive 3 a b c ≡ blank
  pub less : (a b c : Value) (x y : ℤ) → Numbers a b x y → Tells (primitive 5 a b c) (Less x y)
  pub equal : (a b c : Value) (x y : ℤ) → Numbers a b x y → Tells (primitive 6 a b c) (x ≡ y)
  -- of 13
  pub tick_difference : ExactDifference
  -- ---- truths
  pub not : (b c : Value) → (primitive 7 (truth true) b c ≡ truth false) × (primitive 7 (truth false) b c ≡ truth true)
  pub and : (a b c : Value) → TruthOrBlank a → TruthOrBlank b → Conjunction (primitive 8 a b c) a b
  pub or : (a b c : Value) → TruthOrBlank a → TruthOrBlank b → Disjunction (primitive 9 a b c) a b
  -- ---- a blank operand, first or second; of these 7 alone takes no second
  pub blank_first : (x : ℕ) (b c : Value) → Strict x → primitive x blank b c ≡ blank
  pub blank_second : (x : ℕ) (a c : Value) → Strict x → x ≢ 7 → primitive x a blank c ≡ blank
  -- ---- any kind
  pub known : (a b c : Value) → Tells (primitive 10 a b c) (a.mark ≢ blank_mark)
  -- whatever the operand is that is not chosen
  pub choose :
      (b c : Value) →
      (primitive 11 (truth true) b c ≡ b) × (primitive 11 (truth false) b c ≡ c) × (primitive 11 blank b c ≡ blank)
  pub instead : (a b c : Value) → a.mark ≢ blank_mark → primitive 12 a b c ≡ a
  pub instead_of_blank : (b c : Value) → primitive 12 blank b c ≡ b
