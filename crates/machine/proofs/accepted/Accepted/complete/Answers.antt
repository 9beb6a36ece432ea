use Rattle.std.specs.Prelude.{refl}
use Rattle.machine.proofs.accepted.Accepted.complete.Goals as goal

pub returns : goal.returns
returns c = let at_write_sinks = c.write_sinks in
    let at_used = c.used-u in
    rw (← at_used.ensures, ← at_write_sinks.ensures, ← c.finish.ensures) refl
