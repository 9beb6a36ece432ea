use Rattle.std.specs.Prelude.{ℕ, refl}
use Rattle.std.proofs.Common.{◌∙◌, ap}
use Rattle.load.specs.Scan.{agreed}
use Rattle.program.specs.Bytes.{sink_kind}
use Rattle.value.proofs.Tests.{same_and, same_eq, same_lt}
use Rattle.load.proofs.Scan.sink_agreed.Goals as goal

pub returns : goal.returns
unfolding agreed
returns c = let args = c.args in
    let kind = c.sink_kind.ensures
    ∙ ap (λ (s : ℕ). sink_kind (args.program.now) s args.c.x) c.shape_of-s.ensures in
    same_and (same_lt refl c.sink_count.ensures)
    (same_eq c.kind_at-k.ensures kind)
