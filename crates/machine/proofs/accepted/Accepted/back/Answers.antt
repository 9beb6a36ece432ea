use Rattle.value.proofs.Tests.{eq!, eq×}
use Rattle.machine.proofs.accepted.Accepted.back.Goals as goal

pub returns-then-turns-eq0 : goal.returns-then-turns-eq0
returns-then-turns-eq0 c = let at_if1 = c.if-turns-eq0 in
    let at_turns = c.turns in
    rw (← at_turns.ensures, eq! at_if1.true) c.first_back.ensures

pub returns-else-turns-eq0 : goal.returns-else-turns-eq0
returns-else-turns-eq0 c = let at_if1 = c.if-turns-eq0 in
    let at_turns = c.turns in
    rw (← at_turns.ensures, eq× at_if1.false) c.later_back.ensures
