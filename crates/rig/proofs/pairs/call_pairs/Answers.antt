use Rattle.std.specs.Prelude.{refl, List, ℕ}
use Rattle.std.proofs.Common.{arith, rules, ◌∙◌, ap}
use lib.Seq.{length-take-le}
use Rattle.rig.specs.Clauses.{call_held}
use Rattle.rig.proofs.FirstSinks.{first_words}
use Rattle.rig.proofs.ManyReadings.{all_read, too_many}
use Rattle.rig.proofs.pairs.call_pairs.Goals as goal

pub returns-then-n-gt-TOO_MANY : goal.returns-then-n-gt-TOO_MANY
returns-then-n-gt-TOO_MANY c =
    let given = λ (x : List ℕ). call_held c.args.call c.args.program.now c.args.memory.now x c.load-2.new.w in
    let read = too_many _ _ _ _ c.args.readings.now _ _ _ _ refl _ (c.on_bytes-answer.ensures ∙ ap given c.load.ensures)
    c.requires.runs (length-take-le _ _ (omega arith) ∙ omega arith) c.if-n-gt-TOO_MANY.true _ c.with_place.ensures in
    first_words _ _ _ _ _ c.args.sinks.now _ _ _ _ c.requires.runs (λ i. search rules)
    (length-take-le _ _ (omega arith) ∙ c.min-2.ensures) (omega arith) c.load-2.ensures c.save.ensures _ read

pub returns-else-n-gt-TOO_MANY : goal.returns-else-n-gt-TOO_MANY
returns-else-n-gt-TOO_MANY c =
    let given = λ (x : List ℕ). call_held c.args.call c.args.program.now c.args.memory.now x c.load-2.new.w in
    let read = all_read _ _ _ _ c.args.readings.now _ _ _ _ refl _ (c.on_bytes-answer.ensures ∙ ap given c.load.ensures)
    (length-take-le _ _ (omega arith) ∙ omega arith) in
    first_words _ _ _ _ _ c.args.sinks.now _ _ _ _ c.requires.runs (λ i. search rules)
    (length-take-le _ _ (omega arith) ∙ c.min-2.ensures) (omega arith) c.load-2.ensures c.save.ensures _ read
