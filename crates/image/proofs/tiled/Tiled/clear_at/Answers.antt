use Rattle.program.proofs.Slots.{slot_least}
use Rattle.image.proofs.Tiles.{clear_same, slots_within}
use Rattle.std.proofs.Common.{◌∙◌, arith}
use Rattle.image.proofs.tiled.Tiled.clear_at.Goals as goal

pub zero_around-requires : goal.zero_around-requires
zero_around-requires c = let p = c.args.self.now.program.now in
    let r = c.reactor-r.result in
    record {
      head = omega (arith, slot_least p r c.source_count-sources.result);
      tail = omega (arith, slots_within p r _ _ c.source_count-sources.ensures c.commands_d.ensures);
    }

pub returns : goal.returns
returns c = c.zero_around.ensures
    ∙ clear_same _ _ _ _ c.source_count-sources.ensures c.commands_d.ensures _ _ _ _ _ c.reactor-r.ensures
    c.slot_at-first.ensures.is c.slot_at-end.ensures.is c.size_of.ensures.is
