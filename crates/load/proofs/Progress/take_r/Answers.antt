use Rattle.std.proofs.Common.{not}
use Rattle.std.specs.Prelude.{ℕ, ◌+◌, ◌≡◌, refl, false}
use Rattle.std.proofs.Common.{sym, ◌∙◌, ap, arith}
use Rattle.load.proofs.Sequence.{step_refused, step_taken}
use Rattle.load.proofs.Stands.{advanced}
use Rattle.load.specs.Clauses.{state}
use Rattle.load.specs.Scan.{advance, after_of, standing_after}
use Rattle.program.specs.Bytes.{commands_d}
use Rattle.program.specs.Command.{decode}
use Rattle.program.specs.Location.{command_loc}
use Rattle.value.proofs.Tests.{lt×, no, not_false, not_true, yes}
use Rattle.value.specs.Test.{◌<?◌}
use Rattle.load.proofs.Progress.take_r.Goals as goal

pub returns-then-not-command_r : goal.returns-then-not-command_r
returns-then-not-command_r c = let args = c.args in
    let k = args.known.now in
    let p = k.program.now in
    let s = state args.locations.now args.self.next in
    let q : (args.self.next <? commands_d p k.reactor) ≡ false = lt× (omega (arith, k.its_declared, c.requires.here.0))
    in
    let off = not_true _ (ap not c.if-not-command_r.true) in
    record {
      step = (
        step_refused p k.reactor s args.c false q (sym (c.command_r.ensures.told args.self.next) ∙ off),
        c.command_r.ensures.done args.self.next ∙ sym (no _ off refl),
      );
      counted = tt;
    }

pub overflow_add-result-2 : goal.overflow_add-result-2
overflow_add-result-2 c = omega (arith, c.result_of.ensures.one, c.requires.here)

pub returns : goal.returns
unfolding after_of command_loc
returns c = let args = c.args in
    let k = args.known.now in
    let p = k.program.now in
    let r = k.reactor in
    let s = state args.locations.now args.self.next in
    let q : (args.self.next <? commands_d p r) ≡ false = lt× (omega (arith, k.its_declared, c.requires.here.0)) in
    let on = not_false _ (ap not c.if-not-command_r.false) in
    record {
      step = (
        step_taken p r s args.c false q (sym (c.command_r.ensures.told args.self.next) ∙ on),
        refl,
        advanced p r s _ (decode args.c) (c.command_r.ensures.done args.self.next ∙ sym (yes _ on refl))
            ∙ ap (λ (k : ℕ). advance (standing_after p r s (k + args.self.next) (decode args.c))) k.its_sources,
      );
      counted = ap (λ (k : ℕ). args.self.results + k) (c.result_of.ensures.is args.c refl);
    }
