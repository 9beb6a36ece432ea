use Rattle.std.specs.Prelude.{refl}
use Rattle.std.proofs.Common.{◌∙◌, ap, arith}
use Rattle.program.specs.Encode.{encode}
use Rattle.haai.specs.Writing.{put_commands, row_of}
use Rattle.haai.proofs.Puts.{sinks_numbered, putting_begins, putting_goes, putting_ends}
use Rattle.haai.proofs.write.put_sinks.Goals as goal

pub loop-x-init : goal.loop-x-init
loop-x-init c = putting_begins _ _ _ _ _ _

pub loop-x-preserved : goal.loop-x-preserved
unfolding encode
loop-x-preserved c = let loop_test = c.loop-x-test in
    let byte = c.byte-l in
    let put_command = c.put_command in
    let l = c.loop-x in
    putting_goes _ _ _ _ _ _ l.out _ l.x _ _ _ _ _ _ _ l.invariant loop_test.true byte.ensures
    (omega arith) put_command.ensures refl

pub returns : goal.returns
returns c = let a = c.args in
    putting_ends _ _ _ _ _ _ _ _ c.loop-x.invariant c.loop-x-test.false
    ∙ ap (put_commands (a.out.now) a.at) (sinks_numbered 0 (row_of (a.ls.now) 0 a.n))
