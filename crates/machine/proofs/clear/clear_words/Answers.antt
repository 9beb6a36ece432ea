use Rattle.machine.proofs.Clears.{wiped}
use Rattle.machine.proofs.clear.clear_words.Goals as goal

pub returns : goal.returns
returns c = let at_wipe = c.wipe in
    let at_wipe2 = c.wipe-2 in
    λ p r d e n. wiped p r _ _ _ _ _ n d e at_wipe.ensures at_wipe2.ensures
