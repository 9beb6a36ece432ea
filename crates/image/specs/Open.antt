-- Every definition of this room opened at once, and of those below it, for theorems that compute: such a theorem says
-- `unfolding opened`.
use Rattle.std.specs.Prelude.{ℕ}
use Rattle.load.specs.Open.{opened as below_opened}
use Rattle.image.specs.Memory.{word, used, turns, reactor, wired, next, with_used, with_turns, with_wired, all_zero}
use Rattle.image.specs.Memory.{zero_at, patch, slot, mark, content, value_at, store, deploy, size_at, starts_from}
use Rattle.image.specs.Memory.{starts_below, slots_d, slots_r}
use Rattle.image.specs.Passes.{lowest, over, table_byte, with_table_byte, blank_table, is_start, name, one_deeper}
use Rattle.image.specs.Passes.{deepen, tiles_from, chain_from, slot_sound, clear_at, own_sound, members_from, named_by}
use Rattle.image.specs.Passes.{children_from, children_of, visit, table_after, fits, lowest_unfit, fresh_sound}
use Rattle.image.specs.Passes.{grown_sound, by_turns, framed, sound_of}
use Rattle.image.specs.Start.{words_legal, started_of, start_refused, start_by, start_of}

unfoldable pub opened : ℕ
unfolding below_opened word used turns reactor wired next with_used with_turns with_wired all_zero zero_at patch slot
    mark content value_at store deploy size_at starts_from starts_below slots_d slots_r lowest over table_byte with_table_byte
    blank_table is_start name one_deeper deepen tiles_from chain_from slot_sound clear_at own_sound members_from named_by
    children_from children_of visit table_after fits lowest_unfit fresh_sound grown_sound by_turns framed sound_of words_legal
    started_of start_refused start_by start_of
opened = 0
