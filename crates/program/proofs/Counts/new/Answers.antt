use Rattle.std.proofs.Common.{arith}
use Rattle.program.proofs.Counts.new.Goals as goal

pub returns : goal.returns
returns c = λ p r low at sources declared running results sinks.
    record {
      of_at = omega arith;
      of_sources = omega arith;
      of_declared = omega arith;
      of_running = omega arith;
      of_results = omega arith;
      of_sinks = omega arith;
    }
