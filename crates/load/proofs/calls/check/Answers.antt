use Rattle.load.proofs.Exact.{exact}
use Rattle.load.specs.Check.{checked}
use Rattle.answer.specs.Answer.{number_of}
use Rattle.program.specs.Bytes.{main_of}
use Rattle.program.specs.Location.{size_of}
use Rattle.std.specs.Prelude.{refl, Ok}
use Rattle.std.proofs.Common.{sym, ◌∙◌, ap, arith}
use Rattle.answer.proofs.Handed.{handed_on}
use Rattle.load.proofs.calls.check.Goals as goal

pub returns : goal.returns
unfolding checked main_of
returns c = let p = c.args.program.now in
    let e = c.in_ok-judge.ensures.ruling in
    let header = ((exact p).0 (ap number_of (sym e))).tables.header in
    let main = c.main_of.ensures in
    let told = c.fact.ensures.known p (c.in_ok-judge.ensures.facts refl)
    (omega (arith, main, header.some_reactor)) in
    ap Ok (c.size.ensures.is p _ told ∙ ap (size_of p) main) ∙ e

pub returns-in_err-judge : goal.returns-in_err-judge
unfolding checked
returns-in_err-judge c = rw (handed_on _ c.from_residual.ensures.1) c.in_err-judge.ensures.ruling

pub judge-requires : goal.judge-requires
judge-requires c = refl
