use Rattle.std.specs.Prelude.{ℕ, ◌+◌, ◌<◌, List, [], ◌∷◌, length}
use Rattle.std.proofs.Common.{sym, ◌∙◌, ap, arith}
use Rattle.image.specs.Memory.{patch}
use Rattle.program.specs.Encode.{eight}
use Rattle.haai.proofs.Puts.{eight_unput, eight_put}
use Rattle.haai.proofs.write.put_command.Goals as goal
use Rattle.haai.proofs.write.put_command.Goals.{then-out-lt8-via-then-out-lt8}
use Rattle.haai.proofs.write.put_command.Goals.{then-out-lt8-via-else-out-lt8+then-out-at}

pub returns-then-out-lt8 : goal.returns-then-out-lt8
returns-then-out-lt8 c =
    let short : length c.args.out.now < c.args.at + 8 =
    elim c.then-out-lt8.branch [
      | then-out-lt8-via-then-out-lt8 w ↦ omega arith
      | then-out-lt8-via-else-out-lt8+then-out-at w ↦ omega arith
    ]
    in
    sym (eight_unput _ _ _ _ _ _ _ short)

pub returns : goal.returns
unfolding eight
returns c = let a = c.args in
    let room = eight_put a.out.now a.at a.code a.x a.a a.b a.v (omega arith) in
    rw c.to_le_bytes.ensures at c.put_bytes.ensures ∙ sym room
