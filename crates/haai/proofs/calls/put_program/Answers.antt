use Rattle.std.specs.Prelude.{refl}
use Rattle.haai.proofs.Compiled.{tables_fit, writable, put_found}
use Rattle.haai.proofs.calls.put_program.Goals as goal

pub write_tables-requires : goal.write_tables-requires
write_tables-requires c = let pre = c.requires in
    tables_fit (c.args.text.now) c.args.f (c.args.table.now) pre.clean pre.limits
    (c.args.output.now) pre.room _ refl

pub write-requires : goal.write-requires
write-requires c = let pre = c.requires in
    let put = c.write_tables in
    writable (c.args.text.now) c.args.f (c.args.table.now) pre.clean pre.limits
    (c.args.output.now) pre.room _ refl _
    put.ensures

pub returns : goal.returns
returns c = let pre = c.requires in
    let put = c.write_tables in
    put_found (c.args.text.now) c.args.f (c.args.table.now) pre.clean pre.limits
    (c.args.output.now) pre.room _ refl _
    put.ensures _ c.write.ensures
