use Rattle.std.proofs.Common.{◌∙◌, ap, arith}
use Rattle.program.specs.Location.{results}
use Rattle.program.proofs.Slots.{size_formula}
use Rattle.program.proofs.location.size_of.Goals as goal

pub returns : goal.returns
returns c = let args = c.args in
    let run = c.commands_r-run.ensures in
    let counted = c.results.ensures.is ∙ ap (results (args.program.now) args.r) run in
    let D = c.commands_d.ensures in
    let in_ports = c.source_count.ensures in
    let out_ports = c.sink_count.ensures in
    let size = size_formula (args.program.now) args.r in
    record { is = omega (arith, counted, D, in_ports, out_ports, size); small = omega (arith, c.results.ensures.few) }
