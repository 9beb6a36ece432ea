use Rattle.std.specs.Prelude.{◌≡◌, refl, not}
use Rattle.std.proofs.Common.{ap}
use Rattle.value.proofs.Tests.{same_lt}
use Rattle.value.specs.Test.{◌<?◌}
use Rattle.program.specs.Bytes.{commands_d}
use Rattle.program.specs.Command.{sequence_of}
use Rattle.program.specs.Clauses.{row_of}
use Rattle.program.specs.declared.commands.Code.{Code}
use Rattle.load.specs.Scan.{in_sequence}
use Rattle.load.proofs.Codes.{by_name}
use lib.Dec.{ltb}
use Rattle.load.proofs.Scan.in_sequence.Goals as goal

pub returns-in-AllocMono : goal.returns-in-AllocMono
unfolding in_sequence sequence_of
returns-in-AllocMono c = λ d. rw c.in-AllocMono.is (same_lt refl c.commands_d.ensures)

pub returns-in-MakePoly : goal.returns-in-MakePoly
unfolding in_sequence sequence_of
returns-in-MakePoly c = λ d. rw c.in-MakePoly.is (same_lt refl c.commands_d.ensures)

pub returns-in-Cell : goal.returns-in-Cell
unfolding in_sequence sequence_of
returns-in-Cell c = λ d. rw c.in-Cell.is (same_lt refl c.commands_d.ensures)

pub returns-in_default : goal.returns-in_default
unfolding in_sequence sequence_of
returns-in_default c = let args = c.args in
    let fine = ap not (same_lt refl c.commands_d.ensures) in
    λ d.
    by_name
    (λ (k : Code). not (ltb args.self.now.next c.commands_d.result)
    ≡ in_sequence (sequence_of (row_of k d)) (args.self.now.next <? commands_d args.program.now args.r))
    args.code
    (λ e. absurd (c.in_default.not-AllocMono e)) (λ e. absurd (c.in_default.not-MakePoly e)) (λ e. fine) (λ e. fine)
    (λ e. fine) (λ e. fine) (λ e. fine) (λ e. fine) (λ e. fine) (λ e. fine) (λ e. absurd (c.in_default.not-Cell e))
    (λ e. fine) (λ e. fine)
