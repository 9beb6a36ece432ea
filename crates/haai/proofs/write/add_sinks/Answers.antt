use Rattle.std.proofs.Common.{rules}
use Rattle.std.specs.Prelude.{ℕ, refl}
use Rattle.std.proofs.Common.{◌∙◌, ap}
use Rattle.haai.specs.Emit.{sinks_from}
use Rattle.haai.specs.Writing.{put_commands, place_r, row_of, add_sinks}
use Rattle.haai.proofs.Puts.{added_same}
use Rattle.haai.proofs.write.add_sinks.Goals as goal

pub put_sinks-requires : goal.put_sinks-requires
unfolding place_r
put_sinks-requires c = search rules

pub returns : goal.returns
unfolding add_sinks
returns c = let put_sinks = c.put_sinks in
    let place_r = c.place_r in
    let a = c.args in
    added_same
    (put_sinks.ensures
    ∙ ap (λ (k : ℕ). put_commands (a.out.now) k (sinks_from 0 (row_of (a.ls.now) 0 a.n))) place_r.ensures)
    refl
