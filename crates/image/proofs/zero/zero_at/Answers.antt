use Rattle.std.specs.Prelude.{◌+◌, ◌-◌, length}
use Rattle.std.proofs.Common.{◌∙◌, arith}
use Rattle.image.proofs.Zeros.{zero_part, zero_past, zero_rest}
use Rattle.image.proofs.zero.zero_at.Goals as goal

pub returns-then-memory-from : goal.returns-then-memory-from
returns-then-memory-from c = zero_past _ _ _ (omega arith)

pub returns-then-memory-from-2 : goal.returns-then-memory-from-2
returns-then-memory-from-2 c = c.all_zero.ensures
    ∙ zero_rest _ c.args.from (length (c.args.memory.now) - c.args.from) _
    (omega arith) (omega arith)

pub returns : goal.returns
returns c = c.all_zero-2.ensures
    ∙ zero_part _ c.args.from (c.args.from + c.args.n - c.args.from) _ (omega arith)
