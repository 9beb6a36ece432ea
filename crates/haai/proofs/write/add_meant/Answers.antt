use Rattle.std.specs.Prelude.{refl}
use Rattle.std.proofs.Common.{sym, ◌∙◌, ap}
use Rattle.program.specs.Command.{gives, global}
use Rattle.program.specs.Encode.{encode, encode_give}
use Rattle.haai.specs.Writing.{add_give, add_meant}
use Rattle.haai.proofs.Puts.{eight_is, added_same}
use Rattle.haai.proofs.write.add_meant.Goals as goal

pub returns-in-Parameter : goal.returns-in-Parameter
unfolding add_meant
returns-in-Parameter c = let put = c.put in
    let a = c.args in
    added_same refl put.ensures
    ∙ sym (ap (add_meant a.c a.entry (a.ls.now) (a.out.now)) c.in-Parameter.is)

pub returns-in-Global : goal.returns-in-Global
unfolding add_meant add_give encode encode_give
returns-in-Global c = let add_give = c.add_give in
    let a = c.args in
    add_give.ensures ∙ added_same (eight_is _ _ _ _ _ _ _ (gives (global _)) refl) refl
    ∙ sym (ap (add_meant a.c a.entry (a.ls.now) (a.out.now)) c.in-Global.is)
