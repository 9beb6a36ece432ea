use Rattle.std.proofs.Common.{sym, ◌∙◌, ap}
use Rattle.haai.specs.Compile.{Compilation}
use Rattle.haai.specs.Clauses.{compiled}
use Rattle.haai.proofs.Compiled.{right_goes, wrong_stops}
use Rattle.haai.proofs.calls.compile.Goals as goal

pub compile_formed-requires : goal.compile_formed-requires
compile_formed-requires c = sym c.form.ensures ∙ c.in-Ok.is

pub returns-in-Ok : goal.returns-in-Ok
unfolding compiled
returns-in-Ok c = let form = sym c.form.ensures ∙ c.in-Ok.is in
    let done = c.compile_formed.ensures
    ∙ right_goes (c.args.text.now) (c.args.output.now) form in
    record { answer = ap (λ (r : Compilation). r.answer) done; output = ap (λ (r : Compilation). r.output) done }

pub returns-in-Err : goal.returns-in-Err
unfolding compiled
returns-in-Err c = let form = sym c.form.ensures ∙ c.in-Err.is in
    let done = wrong_stops (c.args.text.now) (c.args.output.now) _ form in
    record { answer = ap (λ (r : Compilation). r.answer) done; output = ap (λ (r : Compilation). r.output) done }
