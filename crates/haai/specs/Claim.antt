-- 8.14, 8.15 What is proved of a text that compiles. An element of each of these types stands in proofs/Haai.antt.
use Rattle.std.specs.Prelude.{ℕ, ◌*◌, ◌≡◌, List, [], ◌∷◌, take, Ok}
use Rattle.program.specs.Bytes.{main_of}
use Rattle.program.specs.Location.{sink_count}
use Rattle.answer.specs.Answer.{number_of}
use Rattle.load.specs.Check.{IsAccepted}
use Rattle.image.specs.Start.{start_of}
use Rattle.remus.specs.Exec.{global_value}
use Rattle.remus.specs.Turn.{Turn, turn_of}
use Rattle.remus.specs.Walk.{Input}
use Rattle.haai.specs.Syntax.{Text}
use Rattle.haai.specs.Meaning.{meaning_of, pairs_of}
use Rattle.haai.specs.Compile.{compile_of, tree_of}

-- the bytes that are written
abbrev pub bytes_for : List ℕ → List ℕ → ℕ → List ℕ
bytes_for t out n = take n (compile_of t out).output

-- the turn that i brings, from the memory m
abbrev pub turn : List ℕ → List ℕ → Input → Turn
turn p m i = turn_of p m i.readings i.sink_space

-- where the turn completes, main's sinks are what the text means for the readings and the time
abbrev pub Faithful : Text → List ℕ → List ℕ → Input → Type 0
Faithful x p m i = (u : ℕ) → (turn p m i).answer ≡ Ok u
    → take (2 * sink_count p (main_of p)) (turn p m i).sink_space ≡ pairs_of (meaning_of (global_value i.readings m) x)

-- each of the turns, on the memory that the one before left
abbrev pub AllFaithful : Text → List ℕ → List ℕ → List Input → Type 0
AllFaithful x p m [] = Unit {0}
AllFaithful x p m (i ∷ is) = Faithful x p m i × AllFaithful x p (turn p m i).memory is

-- 8.14 What compile writes, the check accepts.
abbrev pub AlwaysAccepted : Type 0
AlwaysAccepted = (t out : List ℕ) (n : ℕ) → (compile_of t out).answer ≡ Ok n → IsAccepted (bytes_for t out n)

-- 8.15 In any list of turns from a start, each completed one's sinks are what main's expressions mean then.
abbrev pub AlwaysFaithful : Type 0
AlwaysFaithful = (t out : List ℕ) (n : ℕ) → (compile_of t out).answer ≡ Ok n
    → (m : List ℕ) → number_of (start_of (bytes_for t out n) m).answer ≡ 0
    → (is : List Input) → AllFaithful (tree_of t) (bytes_for t out n) (start_of (bytes_for t out n) m).memory is
