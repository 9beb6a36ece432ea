use Rattle.std.specs.Prelude.{◌≡◌, refl, Bool, true, false}
use Rattle.std.proofs.Common.{sym, ◌∙◌, ap}
use mir.Val.{bool_byte}
use Rattle.value.specs.Test.{pick}
use Rattle.program.specs.Command.{takes_words}
use Rattle.program.proofs.Decode.{decoded, undecoded}
use Rattle.program.proofs.location.result_of.Goals as goal

one : (t : Bool) → bool_byte t ≡ pick t 1 0
unfolding pick
one true = refl
one false = refl

pub returns-in-Ok-clause-is : goal.returns-in-Ok-clause-is
returns-in-Ok-clause-is c d e =
    let row = decoded d c.in-Ok.code (c.in-Ok.ensures ∙ sym e) in
    one _ ∙ ap (λ (t : Bool). pick t 1 0) (c.has_result.ensures d ∙ ap takes_words (sym row))

pub returns-in-Err-clause-is : goal.returns-in-Err-clause-is
unfolding pick takes_words
returns-in-Err-clause-is c d e = rw (undecoded d (rw (← e) at c.in-Err.ensures)) refl
