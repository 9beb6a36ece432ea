-- Every definition of this room opened at once, and of those below it, for theorems that compute: such a theorem says
-- `unfolding opened`.
use Rattle.std.specs.Prelude.{ℕ}
use Rattle.image.specs.Open.{opened as below_opened}
use Rattle.remus.specs.Cells.{pending, kept, keep_by, keep_from, keep_one, keep_of}
use Rattle.remus.specs.Exec.{global_value, find, there, allocated, branched, chosen, operated, supplied, reacted}
use Rattle.remus.specs.Exec.{consumed, given, exec, opening, ready, eff}
use Rattle.remus.specs.Run.{and_then, entered, commands, step_of, run_of, main_run}
use Rattle.remus.specs.Clear.{cleared_words, clear_one, clear_of, closed, finished, pairs_from, pairs, sunk}
use Rattle.remus.specs.Undo.{below, slot_back, slots_back, one_back, zero_from, back, undo_of}
use Rattle.remus.specs.Turn.{reading_at, bad_reading, asked_of, turn_refused, by_run, by_asked, by_sound, by_check}
use Rattle.remus.specs.Turn.{turn_of}
use Rattle.remus.specs.Preview.{from_run, tried, preview_refused, preview_by, preview_of}
use Rattle.remus.specs.Walk.{supplied_note, notes_of, onto, begun, step_at, step_on, step, onwards, steps}
use Rattle.remus.specs.Claim.{turns_of, memory_after}
use Rattle.remus.specs.Work.{standing}

unfoldable pub opened : ℕ
unfolding below_opened pending kept keep_by keep_from keep_one keep_of global_value find there allocated branched chosen
    operated supplied reacted consumed given exec opening ready eff and_then entered commands step_of run_of main_run
    cleared_words clear_one clear_of closed finished pairs_from pairs sunk below slot_back slots_back one_back zero_from back
    undo_of reading_at bad_reading asked_of turn_refused by_run by_asked by_sound by_check turn_of from_run tried preview_refused
    preview_by preview_of supplied_note notes_of onto begun step_at step_on step onwards steps turns_of memory_after standing
opened = 0
