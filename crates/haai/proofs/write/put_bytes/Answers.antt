use Rattle.std.specs.Prelude.{ℕ, ◌+◌, ◌-◌, ◌≡◌, length}
use Rattle.std.proofs.Common.{◌∙◌, arith}
use Rattle.haai.proofs.Puts.{patch_mid}
use Rattle.haai.proofs.write.put_bytes.Goals as goal

pub returns : goal.returns
returns c = let at = c.args.at in
    let xs = c.args.bytes.now in
    let e : at + length xs - at ≡ length xs = omega arith in
    rw c.copy_from_slice.ensures.after (patch_mid c.args.out.now xs at _ e)
