use Rattle.load.proofs.TableBytes.{shape_inside}
use Rattle.load.specs.Tables.{main_legal}
use Rattle.value.proofs.Tests.{both!, either!, eq!, eq×, left×, lt!, lt×, true_and}
use Rattle.value.specs.Test.{◌or◌}
use Rattle.std.proofs.Common.{sym, ◌∙◌, ap, arith}
use Rattle.std.specs.Prelude.{Bool, not}
use Rattle.load.proofs.tables.shape_fits.Goals as goal

pub returns-then-shapes-s : goal.returns-then-shapes-s
returns-then-shapes-s c = sym (left× _ (lt× (omega (arith, c.shapes.ensures))))

pub returns-then-r-main_of : goal.returns-then-r-main_of
returns-then-r-main_of c = let at_shapes = c.shapes in
    sym (both! (lt! (omega (arith, at_shapes.ensures)))
    (either! _ (ap not (eq× (λ e. c.if-r-main_of.true (e ∙ sym c.main_of.ensures))))))

pub main_fits-requires : goal.main_fits-requires
main_fits-requires c = let at_shapes = c.shapes in
    let args = c.args in
    let pre = c.requires in
    shape_inside (args.program.now) args.s (omega (arith, at_shapes.ensures)) (pre)

pub returns : goal.returns
unfolding ◌or◌
returns c = let at_main_of = c.main_of in
    let at_shapes = c.shapes in
    let args = c.args in
    let p = args.program.now in
    c.main_fits.ensures
    ∙ sym (true_and _ (lt! (omega (arith, at_shapes.ensures))) ∙ ap (λ (t : Bool). not t or main_legal p args.s)
    (eq! (omega (arith, at_main_of.ensures))))
