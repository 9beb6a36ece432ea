use Rattle.std.specs.Prelude.{ℕ, ◌+◌, ◌*◌, ◌≡◌, List, ◌∷◌, length, take, get_or}
use Rattle.std.proofs.Common.{sym, ◌∙◌, ap, arith}
use Rattle.std.proofs.lemmas.List.{length-take-le}
use lib.Seq.{take_all}
use Rattle.image.specs.Memory.{patch}
use Rattle.haai.specs.Writing.{entries_by}
use Rattle.haai.proofs.Puts.{patch_nothing, entries_more, length_entries, stretch_more}
use Rattle.haai.proofs.tables.put_entries.Goals as goal

pub loop-j-init : goal.loop-j-init
unfolding entries_by
loop-j-init c = sym (patch_nothing _ _)

pub loop-j-preserved : goal.loop-j-preserved
loop-j-preserved c = let a = c.args in
    let l = c.loop-j in
    let zs = a.sizes.now in
    let more = entries_more 0 zs l.j c.loop-j-test.true in
    let done = length_entries 0 (take l.j zs) in
    let long : length (take l.j zs) ≡ l.j = length-take-le l.j zs (omega arith) in
    let same = l.auto.out in
    let zero : 0 + l.j ≡ l.j = omega arith in
    rw (more, zero)
    (stretch_more a.out.now l.out _ (entries_by 0 (take l.j zs)) _ a.at (a.at + 4 * l.j) l.invariant (omega arith)
    (omega arith) c.put_bytes.ensures)

pub returns : goal.returns
returns c = let a = c.args in
    let l = c.loop-j in
    l.invariant ∙ ap (λ zs. patch a.out.now a.at (entries_by 0 zs)) (take_all l.j a.sizes.now c.loop-j-test.false)
