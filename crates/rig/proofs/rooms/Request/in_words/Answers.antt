use Rattle.std.proofs.Common.{sym, ◌∙◌}
use Rattle.rig.proofs.InRooms.{saved, left}
use Rattle.rig.proofs.rooms.Request.in_words.Goals as goal

pub returns-then-saves : goal.returns-then-saves
returns-then-saves c = saved _ _ _ _ _ _ _ _ _ c.fill.ensures c.on_words-a.ensures _
    (sym c.saves.ensures ∙ c.if-saves.true) c.save.ensures

pub returns-else-saves : goal.returns-else-saves
returns-else-saves c = left _ _ _ _ _ _ _ _ _ c.fill.ensures c.on_words-a.ensures
    (sym c.saves.ensures ∙ c.if-saves.false)
