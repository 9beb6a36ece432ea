use Rattle.std.specs.Prelude.{ℕ, refl}
use Rattle.std.proofs.Common.{◌∙◌, ap}
use Rattle.load.specs.Scan.{agreed}
use Rattle.program.specs.Bytes.{source_kind, sources_in}
use Rattle.value.proofs.Tests.{same_and, same_eq, same_lt}
use Rattle.load.proofs.Scan.source_agreed.Goals as goal

pub returns : goal.returns
unfolding agreed
returns c = let args = c.args in
    let shape = c.kind_at-s.ensures in
    let kind = c.source_kind.ensures ∙ ap (λ (s : ℕ). source_kind (args.program.now) s args.c.x) shape in
    λ r. same_and (same_lt refl (c.sources_in.ensures ∙ ap (sources_in _) shape))
    (same_eq c.kind_at-k.ensures kind)
