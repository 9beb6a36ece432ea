use Rattle.std.specs.Prelude.{ℕ, ◌-◌, ◌≡◌, length}
use Rattle.value.specs.Test.{sweep}
use Rattle.program.specs.Bytes.{byte}
use Rattle.haai.specs.Word.{is_space, word_start}
use Rattle.haai.proofs.word.word_start.Given as goal

abbrev pub invariant-loop-j : goal.invariant-loop-j
invariant-loop-j l = word_start l.t l.i ≡ sweep (λ (j : ℕ). is_space (byte l.t j)) l.j (length l.t - l.j)
