use Rattle.std.specs.Prelude.{ℕ, ◌+◌, ◌*◌, ◌≡◌, List}
use Rattle.std.proofs.Common.{◌∙◌, ap, arith}
use Rattle.load.proofs.Told.{told_is, told_never}
use Rattle.load.specs.Clauses.{told}
use Rattle.load.specs.Refusal.{at_command}
use Rattle.load.specs.Scan.{refusal_of}
use Rattle.load.specs.declared.Scan.{Scan}
use Rattle.program.specs.Bytes.{command_at, commands_at}
use Rattle.program.specs.Command.{bytes_at, bytes_of, decode}
use Rattle.program.specs.declared.Command.{Command}
use Rattle.load.proofs.known.Known.refusal.Goals as goal

-- what is read at the byte of command i is command i, and so is what it is refused with
its : (p : List ℕ) (r i at : ℕ) (s : Scan) {c : Command} → c ≡ bytes_at p at → at ≡ commands_at p r + 8 * i →
    told (refusal_of p r s c (decode c)) at ≡ told (refusal_of p r s (bytes_of p r i) (decode (bytes_of p r i))) at
unfolding bytes_of command_at
its p r i at s e f =
    ap (λ (d : Command). told (refusal_of p r s d (decode d)) at) (e ∙ ap (bytes_at p) f)

pub unreachable-requires : goal.unreachable-requires
unreachable-requires c = let k = c.args.self.now in
    told_never _ _ c.requires.refused
    (c.in-Ok.ensures ∙ its k.program.now k.reactor c.args.i _ _ c.bytes_at-c.ensures (omega (arith, k.its_first)))

pub returns : goal.returns
unfolding command_at
returns c = let k = c.args.self.now in
    told_is _ _ c.requires.refused
    (c.in-Err.ensures ∙ its k.program.now k.reactor c.args.i _ _ c.bytes_at-c.ensures (omega (arith, k.its_first)))
    ∙ ap (at_command _) (omega (arith, k.its_first))
