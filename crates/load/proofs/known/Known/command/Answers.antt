use Rattle.std.proofs.Common.{◌∙◌, ap, arith}
use Rattle.program.specs.Bytes.{command_at}
use Rattle.program.specs.Command.{bytes_at, bytes_of}
use Rattle.load.proofs.known.Known.command.Goals as goal

pub returns : goal.returns
unfolding bytes_of command_at
returns c = let k = c.args.self.now in
    c.bytes_within.ensures ∙ ap (bytes_at k.program.now) (omega (arith, k.its_first))
