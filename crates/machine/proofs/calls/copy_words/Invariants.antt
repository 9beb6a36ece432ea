-- Below i the words are those of `from`.
use Rattle.std.specs.Prelude.{◌≡◌, take}
use Rattle.machine.proofs.calls.copy_words.Given as goal

abbrev pub invariant-loop-i : goal.invariant-loop-i
invariant-loop-i l = take l.i l.to ≡ take l.i l.from
