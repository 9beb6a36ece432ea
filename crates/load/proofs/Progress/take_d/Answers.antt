use Rattle.std.specs.Prelude.{ℕ, ◌+◌, ◌≡◌, refl, true}
use Rattle.std.proofs.Common.{◌∙◌, ap, arith}
use Rattle.load.proofs.Sequence.{step_refused, step_taken}
use Rattle.load.proofs.Stands.{advanced}
use Rattle.load.specs.Clauses.{state}
use Rattle.load.specs.Scan.{advance, after_of, standing_after}
use Rattle.program.specs.Bytes.{commands_d}
use Rattle.program.specs.Command.{decode}
use Rattle.program.specs.Location.{command_loc}
use Rattle.value.proofs.Tests.{lt! }
use Rattle.value.specs.Test.{◌<?◌}
use Rattle.load.proofs.Progress.take_d.Goals as goal

pub returns-in_err-m : goal.returns-in_err-m
returns-in_err-m c = let args = c.args in
    let k = args.known.now in
    let p = k.program.now in
    let s = state args.locations.now args.self.next in
    let q : (args.self.next <? commands_d p k.reactor) ≡ true = lt! (omega (arith, k.its_declared, c.requires)) in
    record {
      step = rw c.from_residual.ensures (step_refused p k.reactor s args.c true q (c.in_err-m.ensures s 0), refl);
      counted = rw c.from_residual.ensures tt;
    }

pub returns : goal.returns
unfolding after_of command_loc
returns c = let args = c.args in
    let k = args.known.now in
    let p = k.program.now in
    let r = k.reactor in
    let s = state args.locations.now args.self.next in
    let q : (args.self.next <? commands_d p r) ≡ true = lt! (omega (arith, k.its_declared, c.requires)) in
    let m = c.in_ok-m.ensures s (k.sources + args.self.next) in
    record {
      step = (
        step_taken p r s args.c true q m.0,
        refl,
        advanced p r s _ (decode args.c) (c.stand.ensures args.self.next ∙ m.1)
            ∙ ap (λ (k : ℕ). advance (standing_after p r s (k + args.self.next) (decode args.c))) k.its_sources,
      );
      counted = refl;
    }
