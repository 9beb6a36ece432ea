use Rattle.std.proofs.lemmas.Result.{err_from_is_err_and}
use Rattle.program.proofs.Decode.{decoded, undecoded}
use Rattle.load.proofs.Told.{command, need_both, operand, port_or_kind, told_no, told_yes, withdrawn}
use Rattle.load.specs.Clauses.{told}
use Rattle.program.specs.Command.{sequence_of}
use Rattle.value.specs.Test.{◌and◌, pick, ◌=?◌}
use Rattle.load.specs.Refusal.{at_command}
use Rattle.load.specs.Scan.{refusal_of, formed, in_sequence}
use Rattle.std.proofs.Common.{◌∙◌, ap}
use Rattle.std.specs.Prelude.{ℕ, refl}
use Rattle.value.proofs.Tests.{same_and}
use Rattle.load.proofs.Scan.refuse.Goals as goal

-- each return is after so many tests; the first two are asked at once
pub returns-in_err-unless : goal.returns-in_err-unless
unfolding refusal_of
returns-in_err-unless c = let p = err_from_is_err_and c.from_residual.result c.from_residual.ensures.1 in rw (p.1, p.2, decoded c.args.c c.in-Ok.code c.in-Ok.ensures)
    ((told_no (command c.args.at) _ _ (same_and (c.in_sequence.ensures c.args.c) c.formed.ensures) _ c.in_err-unless.ensures)
    ∙ ap (λ (n : ℕ). told n c.args.at) (need_both _ _ 3 _))

pub returns-in_err-unless-2 : goal.returns-in_err-unless-2
unfolding refusal_of
returns-in_err-unless-2 c = let p = err_from_is_err_and c.from_residual-in_err-unless-2.result c.from_residual-in_err-unless-2.ensures.1 in rw (p.1, p.2, decoded c.args.c c.in-Ok.code c.in-Ok.ensures)
    ((told_yes (command c.args.at) _ _ (same_and (c.in_sequence.ensures c.args.c) c.formed.ensures) _ c.in_ok-unless.ensures
    (told_no (withdrawn c.args.at) _ _ (c.remaining.ensures) _ c.in_err-unless-2.ensures))
    ∙ ap (λ (n : ℕ). told n c.args.at) (need_both _ _ 3 _))

pub returns-in_err-unless-3 : goal.returns-in_err-unless-3
unfolding refusal_of
returns-in_err-unless-3 c = let p = err_from_is_err_and c.from_residual-in_err-unless-3.result c.from_residual-in_err-unless-3.ensures.1 in rw (p.1, p.2, decoded c.args.c c.in-Ok.code c.in-Ok.ensures)
    ((told_yes (command c.args.at) _ _ (same_and (c.in_sequence.ensures c.args.c) c.formed.ensures) _ c.in_ok-unless.ensures
    (told_yes (withdrawn c.args.at) _ _ (c.remaining.ensures) _ c.in_ok-unless-2.ensures
    (told_no (operand c.args.at) _ _ (c.located.ensures) _ c.in_err-unless-3.ensures)))
    ∙ ap (λ (n : ℕ). told n c.args.at) (need_both _ _ 3 _))

pub returns-in_err-unless-4 : goal.returns-in_err-unless-4
unfolding refusal_of
returns-in_err-unless-4 c = let p = err_from_is_err_and c.from_residual-in_err-unless-4.result c.from_residual-in_err-unless-4.ensures.1 in rw (p.1, p.2, decoded c.args.c c.in-Ok.code c.in-Ok.ensures)
    ((told_yes (command c.args.at) _ _ (same_and (c.in_sequence.ensures c.args.c) c.formed.ensures) _ c.in_ok-unless.ensures
    (told_yes (withdrawn c.args.at) _ _ (c.remaining.ensures) _ c.in_ok-unless-2.ensures
    (told_yes (operand c.args.at) _ _ (c.located.ensures) _ c.in_ok-unless-3.ensures
    (told_no (port_or_kind c.args.at) _ _ (c.agreed.ensures) _ c.in_err-unless-4.ensures))))
    ∙ ap (λ (n : ℕ). told n c.args.at) (need_both _ _ 3 _))

pub returns : goal.returns
unfolding refusal_of
returns c = rw (decoded c.args.c c.in-Ok.code c.in-Ok.ensures) ((told_yes (command c.args.at) _ _ (same_and (c.in_sequence.ensures c.args.c) c.formed.ensures) _ c.in_ok-unless.ensures
    (told_yes (withdrawn c.args.at) _ _ (c.remaining.ensures) _ c.in_ok-unless-2.ensures
    (told_yes (operand c.args.at) _ _ (c.located.ensures) _ c.in_ok-unless-3.ensures
    (told_yes (port_or_kind c.args.at) _ _ (c.agreed.ensures) _ c.in_ok-unless-4.ensures
    c.disorder.ensures))))
    ∙ ap (λ (n : ℕ). told n c.args.at) (need_both _ _ 3 _))

pub returns-in_default : goal.returns-in_default
unfolding refusal_of told formed in_sequence sequence_of ◌and◌ pick ◌=?◌ at_command
returns-in_default c = rw (undecoded c.args.c c.in_default.ensures) refl
