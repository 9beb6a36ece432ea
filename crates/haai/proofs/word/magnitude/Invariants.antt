use Rattle.std.specs.Prelude.{◌≤◌, ◌≡◌, drop}
use Rattle.haai.specs.Word.{decimal}
use Rattle.haai.specs.Clauses.{capped, most}
use Rattle.haai.proofs.word.magnitude.Given as goal

abbrev pub invariant-loop-c : goal.invariant-loop-c
invariant-loop-c l =
    (capped (decimal 0 l.digits) ≡ capped (decimal l.v (drop l.c-index l.digits))) × (l.v ≤ most)
