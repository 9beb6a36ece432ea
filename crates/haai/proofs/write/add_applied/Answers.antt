use Rattle.std.specs.Prelude.{ℕ, ◌+◌, ◌≡◌, refl, get_or}
use Rattle.std.proofs.Common.{sym, ◌∙◌, ap, ap₂}
use Rattle.program.specs.Bytes.{byte}
use Rattle.program.specs.Command.{gives, primitive}
use Rattle.program.specs.Encode.{encode, encode_give}
use Rattle.haai.specs.Word.{sign_number}
use Rattle.haai.specs.Writing.{put_eight, place_r, add_give, add_applied}
use Rattle.haai.specs.contracts.Sign.{the_type}
use Rattle.haai.specs.declared.Operator.{Operator}
use Rattle.haai.specs.declared.Sign.{Sign}
use Rattle.haai.specs.declared.Sign.TheVariants.{Plus, Minus, Times, Divide}
use denote.Enum.Declared.{tag_of}
use Rattle.haai.proofs.Puts.{eight_is, added_same}
use Rattle.haai.proofs.write.add_applied.Goals as goal

-- a sign as a number
tagged : (s : Sign) → tag_of the_type s ≡ sign_number s
unfolding sign_number
tagged Plus = refl
tagged Minus = refl
tagged Times = refl
tagged Divide = refl

pub returns-in-Sign : goal.returns-in-Sign
unfolding add_applied add_give byte encode encode_give
returns-in-Sign c =
    let a = c.args in
    let cur = a.c in
    let out = a.out.now in
    let s = c.in-Sign.sign in
    let o = sign_number s in
    let x = get_or (a.ls.now) a.i 0 in
    let y = get_or (a.ls.now) (a.i + 1) 0 in
    let all = eight_is out (place_r cur) 10 o x y 0 (gives (primitive o x y 0)) refl in
    rw c.in-Sign.is
    (c.add_give.ensures
    ∙ added_same
    (ap (λ (n : ℕ). put_eight out (place_r cur) 10 n c.byte-a.result c.byte-b.result 0) (tagged s)
    ∙ ap₂ (λ (p q : ℕ). put_eight out (place_r cur) 10 o p q 0) c.byte-a.ensures c.byte-b.ensures ∙ all)
    refl)

pub returns-in-Reactor : goal.returns-in-Reactor
unfolding add_applied
returns-in-Reactor c = rw c.in-Reactor.is c.add_call.ensures
