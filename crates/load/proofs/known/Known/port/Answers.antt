use Rattle.program.specs.Bytes.{byte, shape_at}
use Rattle.std.proofs.Common.{◌∙◌, ap, arith}
use Rattle.load.proofs.known.Known.port.Goals as goal

pub returns : goal.returns
unfolding shape_at
returns c = c.byte.ensures ∙ ap (byte _) (omega (arith, c.args.self.now.its_globals))
