use Rattle.std.specs.Prelude.{ℕ, ◌/◌, ◌%◌, ◌<◌, refl}
use Rattle.std.proofs.Common.{◌∙◌, ap, arith}
use Rattle.load.proofs.Bits.{bit_some, bit_test}
use Rattle.value.proofs.Tests.{same_eq}
use Rattle.load.proofs.standing.has_source.Goals as goal

pub nonzero_div-result : goal.nonzero_div-result
nonzero_div-result c = omega (arith, bit_some c.args.x)

pub returns : goal.returns
returns c = let t = c.args.standing in
    let b : t < 256 = omega arith in
    same_eq (ap (λ (w : ℕ). t / w % 2) c.bit.ensures ∙ bit_test t b _) refl
