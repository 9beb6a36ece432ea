use Rattle.std.specs.Prelude.{ℕ, ◌+◌, ◌*◌, ◌≡◌, List, ◌∷◌, length, take, get_or, replicate}
use Rattle.std.proofs.Common.{sym, ◌∙◌, ap, arith}
use Rattle.std.proofs.lemmas.List.{length-take-le}
use lib.Seq.{take_all}
use Rattle.image.specs.Memory.{patch}
use Rattle.haai.specs.Writing.{shapes_by}
use Rattle.haai.proofs.Puts.{patch_nothing, shapes_more, length_shapes, shape_put, stretch_more}
use Rattle.haai.proofs.tables.put_shapes.Goals as goal

pub loop-j-init : goal.loop-j-init
unfolding shapes_by
loop-j-init c = sym (patch_nothing _ _)

pub loop-j-preserved : goal.loop-j-preserved
loop-j-preserved c = let a = c.args in
    let l = c.loop-j in
    let zs = a.sizes.now in
    let more = shapes_more zs l.j c.loop-j-test.true in
    let done = length_shapes (take l.j zs) in
    let long : length (take l.j zs) ≡ l.j = length-take-le l.j zs (omega arith) in
    let same = l.auto.out in
    rw more
    (stretch_more a.out.now l.out _ (shapes_by (take l.j zs)) _ a.at (a.at + 16 * l.j) l.invariant (omega arith)
    (omega arith) (shape_put l.out _ _ _ _ _ (omega arith) c.put_command.ensures c.put_command-in-loop-j.ensures))

pub returns : goal.returns
returns c = let a = c.args in
    let l = c.loop-j in
    l.invariant ∙ ap (λ zs. patch a.out.now a.at (shapes_by zs)) (take_all l.j a.sizes.now c.loop-j-test.false)
