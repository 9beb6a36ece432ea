use Rattle.std.proofs.Common.{not}
use Rattle.std.proofs.Common.{ap}
use Rattle.image.proofs.Merging.{sweeps_link}
use Rattle.value.proofs.Tests.{both?, lt?, passed}
use Rattle.std.proofs.lemmas.Bool.{false≢true}
use Rattle.std.proofs.Common.{arith}
use Rattle.image.proofs.sweep.link.Goals as goal

pub returns-then-not-linked : goal.returns-then-not-linked
returns-then-not-linked c = λ e. absurd (false≢true e)

pub overflow_add-k : goal.overflow_add-k
overflow_add-k c = let m = c.requires.most in omega arith

pub returns : goal.returns
returns c = let t = both? (passed c.linked.ensures (ap not c.if-not-linked.false)) in
    let b = both? t.1 in
    λ e. sweeps_link _ _ _ _ _ c.requires b.1
    (lt? t.0) (lt? b.0) _ c.put_table_byte.ensures
