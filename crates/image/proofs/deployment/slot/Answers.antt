use Rattle.std.specs.Prelude.{ℕ}
use Rattle.std.proofs.Common.{◌∙◌, ap, arith}
use Rattle.image.specs.Memory.{slot}
use Rattle.program.specs.Location.{slot_at}
use Rattle.image.proofs.deployment.slot.Goals as goal

pub returns : goal.returns
unfolding slot
returns c = record {
  is = omega (
    arith,
    c.slot_at.ensures.is
        ∙ ap (λ (r : ℕ). slot_at (c.args.program.now) r c.args.l) c.reactor-r.ensures,
  );
  small = omega arith;
}
