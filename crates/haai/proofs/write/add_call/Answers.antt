use Rattle.std.specs.Prelude.{ℕ, ◌%◌, refl, List, set}
use Rattle.std.proofs.Common.{◌∙◌, ap}
use Rattle.program.specs.Command.{alloc_mono}
use Rattle.program.specs.Encode.{encode}
use Rattle.haai.specs.Writing.{put_eight, put_commands, place_d, place_r, call_r, add_call}
use Rattle.haai.proofs.Puts.{eight_is, added_same}
use Rattle.haai.proofs.write.add_call.Goals as goal

pub returns : goal.returns
unfolding add_call encode
returns c =
    let a = c.args in
    let cur = a.c in
    let first = eight_is (a.out.now) (place_d cur) 1 (a.j % 256) 0 0 0 (alloc_mono (a.j % 256)) refl in
    added_same
    (c.put_call.ensures
    ∙ ap (λ (o : List ℕ). put_commands o (place_r cur) (call_r cur (a.ls.now) a.i a.n))
    (c.put_command.ensures
    ∙ ap (λ (k : ℕ). put_eight (a.out.now) k 1 (a.j % 256) 0 0 0) c.place_d.ensures ∙ first))
    (c.put.ensures ∙ ap (set (a.ls.now) a.entry) c.location_r.ensures)
