use Rattle.load.specs.Scan.{agreed}
use Rattle.program.specs.Bytes.{sinks_in}
use Rattle.value.proofs.Tests.{same_lt}
use Rattle.std.specs.Prelude.{refl}
use Rattle.std.proofs.Common.{◌∙◌, ap}
use Rattle.load.proofs.Scan.port_agreed.Goals as goal

pub returns : goal.returns
unfolding agreed
returns c = λ r. same_lt refl (c.sinks_in.ensures ∙ ap (sinks_in _) c.kind_at-s.ensures)
