-- 4.29 The call figure, whole.
use Rattle.std.specs.Prelude.{ℕ, ◌+◌, Bool, not, List, Ok, Err}
use Rattle.value.specs.Test.{◌≤?◌, ◌=?◌, guard, sweep}
use Rattle.program.specs.Bytes.{reactors, main_of}
use Rattle.answer.specs.Answer.{Answer}
use Rattle.answer.specs.declared.Refusal.TheVariants.{Circular, FigureTooLarge}
use Rattle.load.specs.Check.{check_of}
use Rattle.image.specs.Memory.{most_words, main_at}
use Rattle.figure.specs.Steps.{reached, circular}
use Rattle.figure.specs.Bound.{bound_of}

-- 5.33 The lowest reactor that is needed and reaches itself; the count of reactors if none does. t is the table.
unfoldable pub lowest_circular : List ℕ → List (List Bool) → ℕ
lowest_circular p t = sweep (λ r. not (circular p t r)) 0 (reactors p)

-- 4.32 The words before main's deployment, and main's bound.
unfoldable pub words_needed : List ℕ → ℕ
words_needed p = main_at + bound_of p (main_of p)

-- 4.29 Of an accepted program: 23, 24, or the figure.
unfoldable pub figured : List ℕ → Answer
figured p =
    let q = lowest_circular p (reached p) in
    guard (q =? reactors p) (Err (Circular q)) (λ _.
    let n = words_needed p in
    guard (n ≤? most_words) (Err FigureTooLarge) (λ _. Ok n))

unfoldable pub figured_by : List ℕ → Answer → Answer
figured_by p (Ok size) = figured p
figured_by p (Err w) = Err w

-- 4.29 The program's own refusals come first.
unfoldable pub figure_of : List ℕ → Answer
figure_of p = figured_by p (check_of p)
