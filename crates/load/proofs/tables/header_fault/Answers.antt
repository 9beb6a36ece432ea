use Rattle.std.specs.Prelude.{◌≡◌, true, false, refl}
use Rattle.std.proofs.Common.{arith, rules, tests}
use Rattle.std.proofs.lemmas.Iterator.{first_from_Range}
use Rattle.load.proofs.Found.{found}
use Rattle.load.specs.Tables.{header_legal}
use Rattle.load.proofs.tables.header_fault.Goals as goal

pub unwrap-requires : goal.unwrap-requires
unwrap-requires c = let p = c.args.program.now in
    let first = first_from_Range _ _ _ c.find.result (λ i. header_legal p i ≡ false) (λ i. header_legal p i ≡ true)
    c.find.ensures.ran (λ x q k. grind (arith, tests)) (λ x q k. (search rules, grind (arith, tests))) in
    rw (found (header_legal p) 0 8 8 refl _ first c.requires)

pub returns : goal.returns
returns c = let p = c.args.program.now in
    let first = first_from_Range _ _ _ c.find.result (λ i. header_legal p i ≡ false) (λ i. header_legal p i ≡ true)
    c.find.ensures.ran (λ x q k. grind (arith, tests)) (λ x q k. (search rules, grind (arith, tests))) in
    let e = found (header_legal p) 0 8 8 refl _ first c.requires in cc
