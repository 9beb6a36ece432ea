use Rattle.std.specs.Prelude.{◌≤◌, ◌<◌, ◌≡◌, refl, false}
use Rattle.std.proofs.Common.{◌∙◌, ⊎_elim, arith}
use lib.ListN.{length-set}
use lib.Seq.{get_or-set_same, get_or-set_other}
use Rattle.value.proofs.Tests.{below, same_or}
use Rattle.figure.proofs.reach.join_row.Goals as goal

pub loop-q-preserved : goal.loop-q-preserved
loop-q-preserved c = let loop = c.loop-q in
    let inv = loop.invariant in (
      length-set loop.to _ _ ∙ inv.0,
      λ b h. ⊎_elim
          (λ (l : b < loop.q). get_or-set_other loop.to loop.q b _ false (λ z. omega arith) ∙ inv.1 b l)
          (λ (l : loop.q ≤ b). let z : b ≡ loop.q = omega arith in
          rw z (get_or-set_same loop.to loop.q _ false (omega (arith, inv.0)) ∙ same_or (inv.2 loop.q (omega arith)) refl))
          (below b loop.q),
      λ b h. get_or-set_other loop.to loop.q b _ false (λ z. omega arith) ∙ inv.2 b (omega arith),
    )
