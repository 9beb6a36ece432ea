use Rattle.std.specs.Prelude.{◌-◌, length}
use Rattle.haai.proofs.Small.{Checking}
use Rattle.haai.proofs.grammar.form.Given as goal

abbrev pub invariant-loop-a : goal.invariant-loop-a
invariant-loop-a l = Checking l.t l.s l.a

abbrev pub decreases-loop-a : goal.decreases-loop-a
decreases-loop-a l = length l.t - l.a
