use Rattle.std.specs.Prelude.{ℕ, ◌≡◌}
use Rattle.program.specs.Bytes.{commands_at}
use Rattle.program.specs.Command.{made_by, cmd_of}
use Rattle.figure.specs.Steps.{anywhere, goes_to}
use Rattle.figure.proofs.steps.leads.Given as goal

abbrev pub invariant-loop-j : goal.invariant-loop-j
invariant-loop-j l =
    (r : ℕ) → l.at ≡ commands_at l.program r
    → l.some ≡ anywhere (λ i. goes_to l.program l.q (made_by (cmd_of l.program r i))) l.j
