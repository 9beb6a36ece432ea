use Rattle.std.specs.Prelude.{◌≡◌, length, take, refl}
use Rattle.std.proofs.Common.{◌∙◌, ap, arith}
use lib.Seq.{take-length}
use Rattle.rig.specs.Words.{bytes_of, holding}
use Rattle.rig.proofs.Copying.{save_more}
use Rattle.rig.proofs.bytes.save.Goals as goal

pub loop-k-init : goal.loop-k-init
unfolding holding bytes_of
loop-k-init c = refl

pub loop-k-preserved : goal.loop-k-preserved
loop-k-preserved c = let l = c.loop-k in
    rw (l.invariant, c.copy_from_slice.ensures.after)
    (save_more c.args.s.now c.args.w.now _ l.k _ (omega arith) refl c.to_le_bytes.ensures)

pub returns : goal.returns
returns c = let w = c.args.w.now in
    let e : c.loop-k.k ≡ length w = omega arith in
    c.loop-k.invariant ∙ ap (holding c.args.s.now) (ap (λ k. take k w) e ∙ take-length w)
