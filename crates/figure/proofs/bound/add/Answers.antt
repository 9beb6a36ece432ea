use Rattle.std.specs.Prelude.{◌+◌, ◌<◌, ◌≤◌}
use Rattle.std.proofs.Common.{⊎_elim, arith}
use Rattle.value.proofs.Tests.{below}
use Rattle.figure.proofs.Capping.{capped_low, capped_high}
use Rattle.figure.proofs.bound.add.Goals as goal

pub returns : goal.returns
returns c = let n = c.args.a + c.args.b in
    ⊎_elim (λ (l : n < 16385). omega (arith, capped_low l)) (λ (l : 16385 ≤ n). omega (arith, capped_high l)) (below n 16385)
