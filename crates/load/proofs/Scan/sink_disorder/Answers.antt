use Rattle.load.proofs.Told.{set_twice, told_last}
use Rattle.load.specs.Scan.{disorder, standing_at}
use Rattle.std.specs.Prelude.{refl}
use Rattle.std.proofs.Common.{◌∙◌, ap}
use Rattle.program.specs.Bytes.{byte}
use Rattle.value.proofs.Tests.{same_eq}
use Rattle.load.proofs.Scan.sink_disorder.Goals as goal

pub returns : goal.returns
unfolding disorder standing_at byte
returns c = told_last (set_twice c.args.at) _ _
    (same_eq (c.byte-standing.ensures ∙ ap (standing_at c.args.self.now) c.sink_loc-l.ensures) refl) c.unless.ensures
