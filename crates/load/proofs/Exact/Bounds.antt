-- Where the commands of reactors lie, and that main is the last reactor.
use Rattle.std.specs.Prelude.{ℕ, zero, suc, ◌≤◌, ◌<◌, ◌≡◌, List}
use Rattle.std.proofs.Common.{ap, arith}
use native.Mathlib.Nat.{le_of_eq}
use Rattle.value.specs.Test.{◌<?◌}
use Rattle.value.proofs.Tests.{cases, lt?, lt×?}
use Rattle.program.specs.Bytes.{reactors, main_of, commands_at}
use Rattle.load.specs.Rules.{HeaderRule}

-- the commands of reactors follow one another
pub commands_follow : (p : List ℕ) (r n : ℕ) → r ≤ n → commands_at p r ≤ commands_at p n
unfolding commands_at
commands_follow p r zero l = let e : r ≡ 0 = omega arith in le_of_eq (ap (commands_at p) e)
commands_follow p r (suc n) l =
    cases (r <? suc n)
    (λ t. let h : r < suc n = lt? t in omega (arith, commands_follow p r n (omega arith)))
    (λ t. let h : suc n ≤ r = lt×? t in let e : r ≡ suc n = omega arith in le_of_eq (ap (commands_at p) e))

pub main_last : {p : List ℕ} → HeaderRule p → main_of p < reactors p
unfolding main_of
main_last header = omega (arith, header.some_reactor)
