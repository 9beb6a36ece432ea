use Rattle.std.specs.Prelude.{ℕ, ◌+◌, ◌*◌, ◌≡◌, refl, ◌||◌, Bool, List}
use Rattle.std.proofs.Common.{◌∙◌, ap, arith}
use Rattle.value.proofs.Tests.{same_or}
use Rattle.program.specs.Bytes.{commands_at}
use Rattle.program.specs.Command.{Made, made_by, cmd_of, decode, bytes_at}
use Rattle.image.proofs.MadeByBytes.{made_at}
use Rattle.figure.specs.Steps.{anywhere, goes_to, leads}
use Rattle.figure.proofs.Sums.{anywhere_next}
use Rattle.figure.proofs.steps.leads.Goals as goal

pub loop-j-init : goal.loop-j-init
unfolding anywhere
loop-j-init c = λ r e. refl

-- one command more
one_more : (p : List ℕ) (r q at j : ℕ) (d : Made) (s t : Bool) → at ≡ commands_at p r
    → d ≡ made_by (decode (bytes_at p (at + 8 * j))) → t ≡ goes_to p q d
    → s ≡ anywhere (λ i. goes_to p q (made_by (cmd_of p r i))) j
    → (s || t) ≡ anywhere (λ i. goes_to p q (made_by (cmd_of p r i))) (j + 1)
one_more p r q at j d s t e f h k =
    same_or k (h ∙ ap (goes_to p q) (f ∙ made_at p r j at e))
    ∙ anywhere_next (λ i. goes_to p q (made_by (cmd_of p r i))) j

pub loop-j-preserved : goal.loop-j-preserved
loop-j-preserved c = λ r e.
    one_more _ r _ _ _ _ _ _ e c.makes_at.ensures c.goes_to-some.ensures (c.loop-j.invariant r e)

pub returns : goal.returns
unfolding leads
returns c = λ r t.
    let e = c.commands_d-n.ensures _ r t in
    c.loop-j.invariant r (c.at-at.ensures.is _ r t) ∙ ap (anywhere _) (omega arith)
