-- Every definition of this room opened at once, and of those below it, for theorems that compute: such a theorem says
-- `unfolding opened`.
use Rattle.std.specs.Prelude.{ℕ}
use Rattle.program.specs.Open.{opened as below_opened}
use Rattle.load.specs.Refusal.{at_command}
use Rattle.load.specs.Scan.{standing_at, kind_at, stand, is_value, is_cell, is_point, is_deployment, is_supplied}
use Rattle.load.specs.Scan.{ready_at, in_sequence, formed, remaining, located, agreed, disorder, refusal_of}
use Rattle.load.specs.Scan.{standing_after, advance, after_of, onward, scan_of, with_sources, with_sinks, begin_of}
use Rattle.load.specs.Scan.{settled, complete}
use Rattle.load.specs.Tables.{header_legal, port_legal, shape_legal, main_legal, entry_legal, table_legal}
use Rattle.load.specs.Check.{ended, reactors_of, check_of}

unfoldable pub opened : ℕ
unfolding below_opened at_command standing_at kind_at stand is_value is_cell is_point is_deployment is_supplied ready_at
    in_sequence formed remaining located agreed disorder refusal_of standing_after advance after_of onward scan_of
    with_sources with_sinks begin_of settled complete header_legal port_legal shape_legal main_legal entry_legal table_legal
    ended reactors_of check_of
opened = 0
