-- The rows of the four signs in the table of primitives: two numbers in, a number out.
use Rattle.std.specs.Prelude.{ℕ, zero, suc, ◌≤◌, ◌<◌, ◌≡◌, refl}
use Rattle.std.proofs.Common.{ap, arith}
use Rattle.value.specs.Primitive.{row_of, table, numeric, operands, count_of, Offered}
use Rattle.value.specs.Primitive as P
use Rattle.value.specs.declared.Gives.TheVariants.{ANumber}
use Rattle.value.specs.declared.Operation.{Operation}
use Rattle.value.specs.declared.Operation.TheVariants.{Add, Subtract, Times, Divide}
use Rattle.value.specs.declared.Value.{Value}

pub sign_row : (o : ℕ) → o < 4 → (f : Operation) × (row_of o ≡ numeric f ANumber)
unfolding row_of table
sign_row zero h = (Add, refl)
sign_row (suc zero) h = (Subtract, refl)
sign_row (suc (suc zero)) h = (Times, refl)
sign_row (suc (suc (suc zero))) h = (Divide, refl)
sign_row (suc (suc (suc (suc o)))) h = absurd (omega arith)

pub sign_offered : (o : ℕ) → o < 4 → Offered o
unfolding table
sign_offered o h = (omega arith, λ e. omega arith)

pub two_operands : (o : ℕ) → o < 4 → 2 ≤ operands o
unfolding operands count_of
two_operands o h = let e : operands o ≡ 2 = ap (λ r. count_of r.takes) (sign_row o h).1 in omega arith

-- a third operand is not read
pub third_unread : (o : ℕ) → o < 4 → (a b c d : Value) → P.primitive o a b c ≡ P.primitive o a b d
unfolding P.primitive row_of table
third_unread zero h a b c d = refl
third_unread (suc zero) h a b c d = refl
third_unread (suc (suc zero)) h a b c d = refl
third_unread (suc (suc (suc zero))) h a b c d = refl
third_unread (suc (suc (suc (suc o)))) h a b c d = absurd (omega arith)
