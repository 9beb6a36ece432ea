use Rattle.std.specs.Prelude.{◌-◌, ◌≡◌}
use Rattle.std.proofs.Common.{arith}
use Rattle.haai.proofs.Sizes.{first_is_length}
use Rattle.haai.proofs.write.first_at.Goals as goal

pub returns : goal.returns
returns c = let e = first_is_length c.args.sizes.now c.args.end c.args.j (omega arith) in
    let f = c.code_length.ensures in
    (omega (arith, f.0), omega (arith, f.1))
