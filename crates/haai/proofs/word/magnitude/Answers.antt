use Rattle.std.proofs.Common.{sym, ◌∙◌, ap, arith}
use Rattle.value.specs.Test.{◌=?◌}
use Rattle.value.proofs.Tests.{yes, lt!, eq×?, both! }
use Rattle.program.specs.Bytes.{byte}
use Rattle.std.specs.Prelude.{ℕ, ◌<◌, ◌≡◌, false, Some, length}
use Rattle.haai.specs.Clauses.{magnitude_of}
use Rattle.haai.proofs.Words.{digit_next, digit_done, capped_le}
use Rattle.haai.proofs.word.magnitude.Goals as goal

pub loop-c-preserved : goal.loop-c-preserved
unfolding byte
loop-c-preserved c = let d = c.args.digits.now in
    let loop = c.loop-c in (
      loop.invariant.0 ∙ digit_next d loop.c-index loop.v _ c.loop-c-test.true c.with_digit-v.ensures,
      rw c.with_digit-v.ensures (capped_le _),
    )

pub returns : goal.returns
unfolding magnitude_of ◌=?◌
returns c = let d = c.args.digits.now in
    let loop = c.loop-c in
    let e = digit_done d loop.c-index loop.v c.loop-c-test.false loop.invariant.1 ∙ sym loop.invariant.0 in
    let none : (length d =? 0) ≡ false = sym c.is_empty.ensures ∙ c.if-is_empty.false in
    let some : 0 < length d = let z = eq×? none in omega arith in
    yes _ (both! (lt! some) (sym c.all_digits.ensures ∙ c.if-not-all_digits.false)) (ap (λ (n : ℕ). Some n) e)
