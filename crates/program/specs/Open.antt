-- Every definition of this room opened at once, and of those below it, for theorems that compute: such a theorem says
-- `unfolding opened`. It alone opens `slot_at` and `size_of` for the rooms above, whose
-- other theorems go by the laws of slots.
use Rattle.std.specs.Prelude.{ℕ}
use Rattle.value.specs.Open.{opened as below_opened}
use Rattle.program.specs.Bytes.{byte, shapes, reactors, globals, global_kind, shape_at, sources_in, sinks_in}
use Rattle.program.specs.Bytes.{source_kind, sink_kind, entry_at, shape_of, commands_d, commands_r, main_of, commands_in}
use Rattle.program.specs.Bytes.{tables_end, commands_at, whole_length, command_at}
use Rattle.program.specs.Command.{bytes_at, decode, bytes_of, cmd_of, sequence_of, class_of, value_class, gives_value}
use Rattle.program.specs.Command.{takes_words, made_by}
use Rattle.program.specs.Encode.{eight, encode_give, encode, encode_all}
use Rattle.program.specs.Location.{source_count, sink_count, command_loc, sink_loc, locations, cmd_at, has_words}
use Rattle.program.specs.Location.{slot_at, size_of, point_shape, shape_made, shape_there}
use Rattle.program.specs.Kind.{give_kind, kind_made, kind_in, kind_of, content_legal, legal}

unfoldable pub opened : ℕ
unfolding below_opened eight encode_give encode encode_all byte shapes reactors globals global_kind shape_at sources_in sinks_in source_kind sink_kind entry_at
    shape_of commands_d commands_r main_of commands_in tables_end commands_at whole_length command_at bytes_at decode bytes_of
    cmd_of sequence_of class_of value_class gives_value takes_words made_by source_count sink_count command_loc sink_loc locations
    cmd_at has_words slot_at size_of point_shape shape_made shape_there give_kind kind_made kind_in kind_of content_legal legal
opened = 0
