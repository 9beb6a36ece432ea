use Rattle.std.specs.Prelude.{◌-◌, ◌≡◌, true, false}
use Rattle.std.proofs.Common.{◌∙◌, arith, rules, tests}
use Rattle.std.proofs.lemmas.Iterator.{first_from_Range}
use Rattle.load.proofs.Found.{found}
use Rattle.load.specs.Tables.{table_legal}
use Rattle.program.specs.Bytes.{entry_at, shape_at, tables_end}
use Rattle.load.proofs.tables.table_fault.Goals as goal

pub unwrap-requires : goal.unwrap-requires
unfolding tables_end entry_at shape_at
unwrap-requires c = let p = c.args.program.now in
    let first = first_from_Range _ _ _ c.find.result (λ i. table_legal p i ≡ false) (λ i. table_legal p i ≡ true)
    c.find.ensures.ran (λ x q k. grind (arith, tests)) (λ x q k. (search rules, grind (arith, tests))) in
    let end = c.tables_end.ensures in
    rw (found (table_legal p) 8 (tables_end p - 8) _ (omega arith) _ first (λ e. c.requires.fault (e ∙ end)))

pub returns : goal.returns
unfolding tables_end entry_at shape_at
returns c = let p = c.args.program.now in
    let first = first_from_Range _ _ _ c.find.result (λ i. table_legal p i ≡ false) (λ i. table_legal p i ≡ true)
    c.find.ensures.ran (λ x q k. grind (arith, tests)) (λ x q k. (search rules, grind (arith, tests))) in
    let end = c.tables_end.ensures in
    let e = found (table_legal p) 8 (tables_end p - 8) _ (omega arith) _ first (λ e. c.requires.fault (e ∙ end)) in cc
