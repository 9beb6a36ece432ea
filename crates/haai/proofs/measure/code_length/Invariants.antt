use Rattle.std.specs.Prelude.{◌+◌, ◌*◌, ◌≤◌, ◌≡◌, drop}
use Rattle.haai.specs.Tables.{sizes_length}
use Rattle.haai.proofs.measure.code_length.Given as goal

abbrev pub invariant-loop-size : goal.invariant-loop-size
invariant-loop-size l =
    (sizes_length l.sizes ≡ l.total + sizes_length (drop l.size-index l.sizes)) × (l.total ≤ 4080 * l.size-index)
