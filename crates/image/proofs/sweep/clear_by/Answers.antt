use Rattle.image.proofs.Tiles.{clear_same, slots_within}
use Rattle.image.specs.Memory.{reactor}
use Rattle.std.specs.Prelude.{refl}
use Rattle.std.proofs.Common.{◌∙◌, arith}
use Rattle.image.proofs.sweep.clear_by.Goals as goal

pub zero_around-requires : goal.zero_around-requires
zero_around-requires c = let told = c.requires in
    record {
      head = omega (arith, c.slots_d.ensures.least);
      tail = omega (
        arith,
        c.size.ensures.is _ _ told,
        c.slots_r.ensures.is _ _ told,
        slots_within c.args.program.now (reactor c.args.memory.now c.args.a) _ _ refl refl,
      );
    }

pub returns : goal.returns
returns c = let told = c.requires in
    c.zero_around.ensures
    ∙ clear_same _ _ _ _ refl refl _ _ _ _ _ refl (c.slots_d.ensures.is _ _ told)
    (c.slots_r.ensures.is _ _ told) (c.size.ensures.is _ _ told)
