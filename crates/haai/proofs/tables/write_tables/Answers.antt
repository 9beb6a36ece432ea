use Rattle.std.specs.Prelude.{refl}
use Rattle.haai.proofs.Puts.{table_parts}
use Rattle.haai.proofs.tables.write_tables.Goals as goal

pub returns : goal.returns
returns c = let args = c.args in
    table_parts (args.sizes.now) _ args.g _ _ _ _ _ refl c.requires.1.1 c.put_command.ensures
    c.put_zeros.ensures c.put_shapes.ensures c.put_entries.ensures
