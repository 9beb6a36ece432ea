use Rattle.std.specs.Prelude.{ℕ, refl, set}
use Rattle.std.proofs.Common.{sym, ◌∙◌, ap}
use Rattle.program.specs.Command.{gives, constant}
use Rattle.program.specs.Encode.{encode, encode_give}
use Rattle.haai.specs.Writing.{location_r, add_give, add_constant, adds}
use Rattle.haai.proofs.Puts.{eight_is, added_same}
use Rattle.haai.proofs.Knowing.emit.Goals as goal

pub returns-in-Constant : goal.returns-in-Constant
unfolding adds add_constant add_give encode encode_give
returns-in-Constant c =
    let a = c.args in
    rw c.in-Constant.is
    (c.add_give.ensures
    ∙ added_same (eight_is _ _ _ _ _ _ _ (gives (constant 0 _)) refl)
    (ap (λ (k : ℕ). set (a.ls.now) k (location_r a.c 0)) c.next_entry-entry.ensures))
