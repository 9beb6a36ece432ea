use Rattle.std.specs.Prelude.{◌+◌, ◌≡◌}
use Rattle.std.proofs.Common.{ap, arith}
use Rattle.program.proofs.Slots.{first_r, slot_high}
use Rattle.program.specs.Bytes.{commands_r, commands_in}
use Rattle.program.specs.Location.{slot_at, sink_loc}
use Rattle.program.proofs.Counts.sink_at.Goals as goal

pub returns : goal.returns
unfolding sink_loc commands_in
returns c = record {
  is = (λ p r e.
      let x = c.args.x in
      let at : slot_at p r (first_r p r + commands_r p r + x) ≡ slot_at p r (sink_loc p r x) =
      ap (slot_at p r) (omega arith) in
      omega (arith, c.first.ensures.is p r e, c.results.ensures p r e, slot_high p r x, at));
  small = omega (arith, c.first.ensures.few);
  least = omega arith;
}
