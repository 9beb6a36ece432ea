use Rattle.std.specs.Prelude.{◌+◌, ◌-◌, ◌≡◌}
use Rattle.std.proofs.Common.{◌∙◌, ap, arith}
use Rattle.program.specs.Bytes.{commands_r}
use Rattle.program.specs.Location.{slot_at, results}
use Rattle.program.proofs.Slots.{first_r, slot_low, slot_r, slot_high}
use Rattle.program.proofs.location.slot_at.Goals as goal

-- a source, a D command or the first R command
pub returns-then-l-first : goal.returns-then-l-first
returns-then-l-first c = let args = c.args in
    let s = c.source_count.ensures in
    let d = c.commands_d.ensures in
    let low = slot_low (args.program.now) args.r args.l (omega (arith, s, d)) in
    record { is = omega (arith, s, d, low); small = omega arith }

-- an R command or the first sink
pub returns-then-past-run : goal.returns-then-past-run
returns-then-past-run c = let args = c.args in
    let p = args.program.now in
    let r = args.r in
    let S = c.source_count in
    let D = c.commands_d in
    let s = S.ensures in
    let d = D.ensures in
    let run = c.commands_r-run.ensures in
    let past = args.l - first_r p r in
    let same : args.l - (S.result + D.result) ≡ past = omega (arith, s, d, run) in
    let counted = c.results.ensures.is ∙ ap (results p r) same in
    let is : slot_at p r args.l ≡ slot_at p r (first_r p r + past) = ap (slot_at p r) (omega (arith, s, d, run)) in
    let mid = slot_r p r past (omega (arith, s, d, run)) in
    record { is = omega (arith, s, d, run, counted, is, mid); small = omega (arith, c.results.ensures.few) }

-- a later sink, or the end
pub returns : goal.returns
returns c = let args = c.args in
    let p = args.program.now in
    let r = args.r in
    let s = c.source_count.ensures in
    let d = c.commands_d.ensures in
    let run = c.commands_r-run.ensures in
    let end = first_r p r + commands_r p r in
    let past = args.l - end in
    let counted = c.results-2.ensures.is ∙ ap (results p r) run in
    let is : slot_at p r args.l ≡ slot_at p r (end + past) = ap (slot_at p r) (omega (arith, s, d, run)) in
    record { is = omega (arith, s, d, run, counted, is, slot_high p r past); small = omega (arith, c.results-2.ensures.few) }
