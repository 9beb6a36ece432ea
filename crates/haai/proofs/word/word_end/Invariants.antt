use Rattle.std.specs.Prelude.{ℕ, ◌-◌, ◌≡◌, not, length}
use Rattle.value.specs.Test.{sweep}
use Rattle.program.specs.Bytes.{byte}
use Rattle.haai.specs.Word.{ends_word, word_end}
use Rattle.haai.proofs.word.word_end.Given as goal

abbrev pub invariant-loop-j : goal.invariant-loop-j
invariant-loop-j l = word_end l.t l.i ≡ sweep (λ (j : ℕ). not (ends_word (byte l.t j))) l.j (length l.t - l.j)
