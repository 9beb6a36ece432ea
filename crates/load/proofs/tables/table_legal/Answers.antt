use Rattle.std.specs.Prelude.{ℕ, ◌-◌, ◌/◌, ◌%◌, refl}
use Rattle.std.proofs.Common.{◌∙◌, ap, arith}
use Rattle.load.proofs.Exact.Bytes.{entries_end}
use Rattle.load.specs.Tables.{entry_legal, shape_legal, table_legal}
use Rattle.program.specs.Bytes.{byte, entry_at, reactors, shape_at, shapes, tables_end}
use Rattle.value.proofs.Tests.{lt!, lt×, no, same_lt, yes}
use Rattle.load.proofs.tables.table_legal.Goals as goal

pub returns-then-i-s : goal.returns-then-i-s
unfolding table_legal
returns-then-i-s c = yes _ (lt! (omega arith)) (same_lt c.byte.ensures refl)

pub overflow_cast-o : goal.overflow_cast-o
unfolding tables_end entry_at shape_at shapes reactors byte
overflow_cast-o c = omega (arith, c.shared_slice_known-1.given 1)

pub returns-then-i-e : goal.returns-then-i-e
unfolding table_legal
returns-then-i-e c = let at_shape_at = c.shape_at-s in
    let args = c.args in
    no _ (lt× (omega arith))
    (yes _ (lt! (omega arith))
    (c.shape_legal.ensures ∙ ap (λ (s : ℕ). shape_legal (args.program.now) ((args.i - s) / 16)
    ((args.i - s) % 16)) at_shape_at.ensures.is))

pub overflow_cast-o-2 : goal.overflow_cast-o-2
unfolding tables_end entry_at shape_at shapes reactors byte
overflow_cast-o-2 c = omega (arith, c.shared_slice_known-1.given 2)

pub entry_legal-requires : goal.entry_legal-requires
entry_legal-requires c = let pre = c.requires in
    let args = c.args in
    omega (arith, pre.here, pre.inside, entries_end (args.program.now))

pub returns : goal.returns
unfolding table_legal
returns c = let at_entry_at = c.entry_at-e in
    let args = c.args in
    no _ (lt× (omega arith))
    (no _ (lt× (omega arith))
    (c.entry_legal.ensures ∙ ap (λ (e : ℕ). entry_legal (args.program.now) ((args.i - e) / 4) ((args.i - e) % 4))
    at_entry_at.ensures.is))
