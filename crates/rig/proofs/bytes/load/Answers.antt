use Rattle.std.specs.Prelude.{◌≡◌, length}
use Rattle.std.proofs.Common.{◌∙◌, append-nil, arith}
use lib.Seq.{drop-length}
use Rattle.rig.proofs.Copying.{load_more}
use Rattle.rig.proofs.bytes.load.Goals as goal

pub loop-k-preserved : goal.loop-k-preserved
loop-k-preserved c = let l = c.loop-k in
    rw l.invariant (load_more l.k c.args.s.now c.args.w.now _ c.word_at.ensures (omega arith) (omega arith))

pub returns : goal.returns
returns c = let e : c.loop-k.k ≡ length c.args.w.now = omega arith in
    c.loop-k.invariant ∙ rw (e, drop-length) (append-nil _)
