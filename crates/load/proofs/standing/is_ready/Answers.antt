use Rattle.std.specs.Prelude.{◌<◌, ◌≤◌, refl}
use Rattle.std.proofs.Common.{sym, ◌∙◌, arith}
use Rattle.load.proofs.Bits.{bit_low, bit_most, bit_some, never_ready}
use Rattle.load.specs.Scan.{ready_at}
use Rattle.value.proofs.Tests.{cases, flags, left×, lt?, lt×?, same_eq, same_lt, true_and}
use Rattle.value.specs.Test.{◌<?◌}
use Rattle.load.proofs.standing.is_ready.Goals as goal

pub overflow_sub-result : goal.overflow_sub-result
overflow_sub-result c = omega (arith, bit_some c.args.n)

pub overflow_add-result : goal.overflow_add-result
overflow_add-result c = omega (arith, bit_most c.args.n)

pub returns : goal.returns
unfolding ready_at
returns c = let n = c.args.n in
    cases (n <? 8)
    (λ e. let low : n < 8 = lt? e in
    flags _ _ ∙ true_and _ (same_lt refl refl ∙ e) ∙ same_eq refl (omega (arith, c.bit.ensures, bit_low n low)))
    (λ e. let high : 8 ≤ n = lt×? e in
    flags _ _ ∙ left× _ (same_lt refl refl ∙ e) ∙ sym (never_ready _ (omega arith) _ high))
