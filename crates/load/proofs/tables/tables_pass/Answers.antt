use Rattle.load.proofs.Exact.Bytes.{entries_end, shapes_end}
use Rattle.load.proofs.TableBytes.{all_rows}
use Rattle.value.proofs.Tests.{same_and3}
use Rattle.std.proofs.Common.{◌∙◌, arith}
use Rattle.load.proofs.tables.tables_pass.Goals as goal

pub globals_pass-requires : goal.globals_pass-requires
globals_pass-requires c = omega (
  arith,
  c.requires,
  shapes_end (c.args.program.now),
  entries_end
      (c.args.program.now),
)

pub shapes_pass-requires : goal.shapes_pass-requires
shapes_pass-requires c = omega (arith, c.requires, entries_end (c.args.program.now))

pub entries_pass-requires : goal.entries_pass-requires
entries_pass-requires c = c.requires

pub returns : goal.returns
returns c = let at_globals_pass = c.globals_pass in
    let args = c.args in
    same_and3 at_globals_pass.ensures c.shapes_pass.ensures c.entries_pass.ensures ∙ all_rows
    (args.program.now)
