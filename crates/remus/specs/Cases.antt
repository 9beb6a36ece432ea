-- The bench cases in one table with one claim: what each row asks, the definitions answer as the row says.
use Rattle.std.specs.Prelude.{ℕ, zero, suc, ◌+◌, ◌*◌, ◌≡◌, refl, true, false, List, [], ◌∷◌, ◌++◌, set, take}
use Rattle.std.specs.Prelude.{replicate}
use Rattle.std.specs.Prelude.{ℤ, pos, negsuc}
use Rattle.value.specs.Test.{pick, ◌=?◌}
use Rattle.value.specs.Value.{blank_mark, kept_mark, value, blank, number, truth}
use Rattle.value.specs.Primitive.{primitive}
use Rattle.value.specs.declared.Value.{Value}
use Rattle.load.specs.Programs.{zeros, joined, command, with_command, clock, nest, toggle, stocked, ticking, graded}
use Rattle.load.specs.Programs.{peak, last, counters}
use Rattle.load.specs.Check as Check
use Rattle.answer.specs.Answer.{place_of, number_of, refusal_number, refusal_place}
use Rattle.image.specs.Memory.{word, used}
use Rattle.image.specs.Start.{start_of}
use Rattle.remus.specs.Turn.{Turn, turn_of}
use Rattle.remus.specs.Preview.{Preview, preview_of}
use Rattle.remus.specs.Run.{Ran, ran, stopped, main_run}
use Rattle.remus.specs.Undo.{undo_of}
use Rattle.remus.specs.Walk.{Next, go, stop, over, steps, begun}
use Rattle.remus.specs.Open.{opened}

-- ---- the table

pub data Ask : Type 0 where
  -- number and place
  checks : (p : List ℕ) → Ask
  starts : (p : List ℕ) (n : ℕ) → Ask
  -- of turns with these readings after a start with n words, each one's number, place, word 1 and sink words
  turns : (p : List ℕ) (n : ℕ) (readings : List (List ℕ)) (sinks : List ℕ) → Ask
  -- number and place of the walk's first turn after a start
  walks : (p : List ℕ) (n : ℕ) (readings : List ℕ) → Ask
  -- number and place of a turn on this memory
  resumes : (p memory readings : List ℕ) → Ask
  -- after that many turns, of a run that stops: 1 if undo_of brings every word back
  undoes : (count : ℕ) (p : List ℕ) (n : ℕ) (readings sinks : List ℕ) → Ask
  -- of a preview after a start with n words and that many turns, its number, place, work memory, at first k words of 5,
  -- and sink space, at first 9 9
  previews : (count : ℕ) (p : List ℕ) (n k : ℕ) (readings : List ℕ) → Ask
  -- mark and content
  primitive_of : (x : ℕ) (a b : Value) → Ask

pub record Row : Type 0 where
  pub ask : Ask
  pub answer : List ℕ

abbrev shown : Turn → List ℕ
shown t = number_of t.answer ∷ place_of t.answer ∷ word t.memory 1 ∷ t.sink_space

-- turns, one after the other on the memory that the one before left
unfoldable pub after : List (List ℕ) → List ℕ → List ℕ → List ℕ → List ℕ
after [] p m sk = []
after (rd ∷ rds) p m sk = let t = turn_of p m rd sk in shown t ++ after rds p t.memory sk

-- the memory after so many turns
unfoldable pub memory_of : ℕ → List ℕ → List ℕ → List ℕ → List ℕ → List ℕ
memory_of zero p m rd sk = m
memory_of (suc k) p m rd sk = memory_of k p (turn_of p m rd sk).memory rd sk

unfoldable pub same : List ℕ → List ℕ → ℕ
same [] [] = 1
same [] (x ∷ xs) = 0
same (x ∷ xs) [] = 0
same (x ∷ xs) (y ∷ ys) = pick (x =? y) (same xs ys) 0

abbrev foreseen : Preview → List ℕ
foreseen v = number_of v.answer ∷ place_of v.answer ∷ (v.work ++ v.sink_space)

abbrev undone : List ℕ → List ℕ → Ran → List ℕ
undone p m (ran m') = []
undone p m (stopped w m') = same (undo_of p (used m) m') m ∷ []

unfoldable pub undone_from : List ℕ → List ℕ → List ℕ → List ℕ
undone_from p rd m = undone p m (main_run p rd m)

abbrev ended : Next → List ℕ
ended (go s) = []
ended (stop w) = refusal_number w ∷ refusal_place w ∷ []
ended (over s) = 0 ∷ used s.words ∷ []

unfoldable pub answer_of : Ask → List ℕ
answer_of (checks p) = let c = Check.check_of p in number_of c ∷ place_of c ∷ []
answer_of (starts p n) = let s = start_of p (replicate n 7) in number_of s.answer ∷ place_of s.answer ∷ []
answer_of (turns p n rds sk) = after rds p (start_of p (replicate n 7)).memory sk
answer_of (resumes p m rd) = let t = turn_of p m rd (9 ∷ 9 ∷ []) in number_of t.answer ∷ place_of t.answer ∷ []
answer_of (walks p n rd) = ended (steps p rd 1000 (begun p (start_of p (replicate n 7)).memory))
answer_of (undoes k p n rd sk) = undone_from p rd (memory_of k p (start_of p (replicate n 7)).memory rd sk)
answer_of (previews c p n k rd) =
    let sk : List ℕ = 9 ∷ 9 ∷ [] in
    foreseen (preview_of p (memory_of c p (start_of p (replicate n 7)).memory rd sk) (replicate k 5) rd sk)
answer_of (primitive_of x a b) = let v = primitive x a b blank in v.mark ∷ v.content ∷ []

abbrev row : Ask → List ℕ → Row
row a l = record { ask = a; answer = l }

abbrev pair : Value → List ℕ
pair v = v.mark ∷ v.content ∷ []

abbrev int : ℤ → List ℕ
int z = pair (number z)

abbrev yes : Value
yes = truth true

abbrev no : Value
no = truth false

-- the toggle's image after two turns, in 56 words: main, whose branch point heads plus at 44, chained to minus at 33
abbrev two_turns : List ℕ
two_turns =
    joined (
    (55 ∷ 2 ∷ [])
    ∷ (2 ∷ 1 ∷ 0 ∷ 5 ∷ 44 ∷ zeros 26)
    ∷ (1 ∷ 1 ∷ 0 ∷ zeros 8)
    ∷ (0 ∷ 1 ∷ 33 ∷ zeros 8)
    ∷ zeros 1 ∷ [])

-- the running maximum's image after a turn, with this in its cell
abbrev holding : Value → List ℕ
holding v = joined ((21 ∷ 1 ∷ []) ∷ (0 ∷ 1 ∷ 0 ∷ v.mark ∷ v.content ∷ zeros 14) ∷ [])

-- a fresh image with a second deployment behind main, whose wired word nothing judges
abbrev two_fresh : List ℕ
two_fresh = joined ((44 ∷ 0 ∷ []) ∷ (2 ∷ zeros 30) ∷ (1 ∷ 7 ∷ zeros 9) ∷ [])

-- k deployments of the nest from a on, each named by the one before
unfoldable pub deeper : ℕ → ℕ → List ℕ
deeper zero a = []
deeper (suc zero) a = 0 ∷ 1 ∷ 0 ∷ 5 ∷ zeros 9
deeper (suc (suc k)) a = (0 ∷ 1 ∷ 0 ∷ 5 ∷ (a + 13) ∷ zeros 8) ++ deeper (suc k) (a + 13)

-- the nest's image, k deep
abbrev nested : ℕ → List ℕ
nested k = (2 + 13 * k) ∷ 1 ∷ deeper k 2

-- ---- rows of one kind

abbrev checked : List ℕ → ℕ → ℕ → Row
checked p n q = row (checks p) (n ∷ q ∷ [])

abbrev gives : ℕ → Value → Value → List ℕ → Row
gives x a b l = row (primitive_of x a b) l

abbrev nothing : List ℕ
nothing = 0 ∷ 0 ∷ []

-- a line of the table of 8 or 9: the answers for a and, from left to right, true, false, blank
abbrev across : ℕ → Value → Value → Value → Value → List Row
across x a t f b = gives x a yes (pair t) ∷ gives x a no (pair f) ∷ gives x a blank (pair b) ∷ []

abbrev faulty : List ℕ → ℕ → Row
faulty m q = row (resumes toggle m (1 ∷ 7 ∷ 1 ∷ 5 ∷ [])) (9 ∷ q ∷ [])

abbrev resumed : Value → ℕ → ℕ → Row
resumed v n q = row (resumes peak (holding v) (1 ∷ 7 ∷ [])) (n ∷ q ∷ [])

-- ---- the rows

abbrev about_check : List Row
about_check =
    checked clock 0 7  -- *
    ∷ checked (take 43 clock) 1 43  -- *
    ∷ checked (set clock 38 1) 4 36  -- *
    ∷ checked nest 0 13
    ∷ checked toggle 0 31
    -- 5.35 refused by name at the command's byte, after 3 and before 4
    ∷ checked stocked 25 126
    ∷ checked (set stocked 130 1) 3 126  -- a third operand, which it never took
    ∷ checked (set stocked 128 29) 25 126  -- an operand that names no location
    ∷ row (starts stocked 55) (25 ∷ 126 ∷ [])
    ∷ checked ticking 0 31  -- 1.24
    ∷ checked (set toggle 71 14) 3 70  -- no primitive has this number
    ∷ checked graded 0 19  -- 1.19
    -- 5.16, 5.29 to 5.31 the toggle with one command out of order among those that deploy, supply, run and read at
    -- location 11
    ∷ checked (with_command toggle 190 (command 5 0 3 11 0)) 6 190  -- source 0 again
    ∷ checked (with_command (with_command toggle 206 (command 8 0 1 0 0)) 214 (command 8 0 1 0 0)) 6 214  -- the sink
    ∷ checked (with_command toggle 190 (command 6 0 0 11 0)) 19 190  -- React before source 1 is supplied
    ∷ checked (with_command toggle 198 (command 7 0 0 11 0)) 19 198  -- Consume before React
    ∷ checked (with_command toggle 206 (command 6 0 0 11 0)) 20 206  -- a second React
    ∷ checked (with_command toggle 206 (command 5 0 2 11 0)) 20 206  -- Supply after React, and source 0 again
    ∷ checked (with_command toggle 182 (command 9 0 10 0 0)) 20 182  -- a second AllocPoly
    ∷ checked (with_command toggle 86 (command 1 2 0 0 0)) 21 86  -- AllocMono of its own reactor
    ∷ checked (with_command toggle 206 (command 5 2 2 11 0)) 5 206  -- a late Supply to no source: 5 comes first
    -- 2.43 to 2.45 programs with cells
    ∷ checked peak 0 19
    ∷ checked last 0 13
    ∷ checked counters 0 41
    ∷ checked (with_command peak 29 (command 11 2 0 0 0)) 3 29  -- a cell of a reactor's kind
    ∷ checked (with_command peak 29 (command 11 1 0 0 2)) 3 29  -- a truth's, with no truth in it
    ∷ checked (with_command peak 29 (command 12 0 0 0 0)) 3 29  -- Fetch among the D commands
    ∷ checked (with_command peak 45 (command 12 0 0 1 0)) 4 45  -- Fetch of no cell
    ∷ checked (with_command peak 77 (command 13 0 5 1 0)) 4 77  -- Keep in no cell
    ∷ checked (with_command last 45 (command 13 0 0 0 0)) 4 45  -- Keep of a cell, which is no value
    ∷ checked (with_command peak 77 (command 13 0 3 0 0)) 5 77  -- a truth for a number's cell
    ∷ checked (with_command last 53 (command 13 0 1 0 0)) 20 53  -- a second Keep
    ∷ checked (with_command last 45 (command 4 1 0 0 0)) 7 25  -- none
    ∷ []

-- `negsuc n` is -(n + 1)
abbrev about_primitives : List Row
about_primitives =
    gives 3 (number (negsuc 2147483647)) (number (negsuc 0)) nothing  -- *
    ∷ gives 3 (number (negsuc 6)) (number (pos 2)) (int (negsuc 2))  -- *
    ∷ gives 5 blank (number (pos 5)) nothing  -- *
    -- 1.24 tick differences
    ∷ gives 13 (number (negsuc 2147483647)) (number (pos 2147483647)) (int (pos 1))  -- one past the highest, less it
    ∷ gives 13 (number (pos 2147483647)) (number (negsuc 2147483647)) (int (negsuc 0))  -- and the other way
    ∷ gives 13 (number (pos 0)) (number (negsuc 2147483647)) (int (negsuc 2147483647))  -- half a turn
    ∷ gives 13 (number (negsuc 4)) (number (negsuc 4)) (int (pos 0))  -- equal ticks
    ∷ gives 13 (number (pos 5)) (number (pos 7)) (int (negsuc 1))
    ∷ gives 13 blank (number (pos 5)) nothing
    ∷ gives 13 (number (pos 5)) blank nothing
    -- 1.19, 1.20 the whole tables of `and` and `or`
    ∷ across 8 yes yes no blank
    ++ across 8 no no no no
    ++ across 8 blank blank no blank
    ++ across 9 yes yes yes yes
    ++ across 9 no yes no blank
    ++ across 9 blank yes blank blank

abbrev about_turns : List Row
about_turns =
    row (starts clock 8) (14 ∷ 0 ∷ [])  -- * one word short
    ∷ row (starts clock 9) (0 ∷ 9 ∷ [])  -- *
    ∷ row (starts clock 1) (8 ∷ 1 ∷ [])
    ∷ row (turns clock 9 (replicate 2 []) (9 ∷ 9 ∷ 9 ∷ []))  -- * its sink is the time, 1 and then 2
    ((0 ∷ 9 ∷ 1 ∷ 1 ∷ 1 ∷ 9 ∷ []) ++ (0 ∷ 9 ∷ 2 ∷ 1 ∷ 2 ∷ 9 ∷ []))
    ∷ row (turns nest 833 ([] ∷ []) (9 ∷ 9 ∷ [])) (14 ∷ 0 ∷ 0 ∷ 9 ∷ 9 ∷ [])  -- * one word less than 64 deployments take
    ∷ row (turns nest 834 ([] ∷ []) (9 ∷ 9 ∷ [])) (15 ∷ 0 ∷ 0 ∷ 9 ∷ 9 ∷ [])  -- * room for them, and 2 + 64 * 13 words
    ∷ row (walks nest 834 []) (15 ∷ 0 ∷ [])  -- and so says the walk
    ∷ row (walks toggle 55 (1 ∷ 7 ∷ 1 ∷ 5 ∷ [])) (0 ∷ 44 ∷ [])
    ∷ row (starts toggle 55) (0 ∷ 33 ∷ [])
    ∷ row (turns toggle 55 (replicate 3 (1 ∷ 7 ∷ 1 ∷ 5 ∷ [])) (9 ∷ 9 ∷ []))  -- it subtracts, adds, subtracts; u was 33
    ((0 ∷ 44 ∷ 1 ∷ 1 ∷ 2 ∷ []) ++ ((0 ∷ 55 ∷ 2 ∷ 1 ∷ 12 ∷ []) ++ (0 ∷ 55 ∷ 3 ∷ 1 ∷ 2 ∷ [])))
    ∷ row (turns toggle 54 (replicate 3 (1 ∷ 7 ∷ 1 ∷ 5 ∷ [])) (9 ∷ 9 ∷ []))  -- one word short for plus, each time
    ((0 ∷ 44 ∷ 1 ∷ 1 ∷ 2 ∷ []) ++ ((14 ∷ 0 ∷ 1 ∷ 9 ∷ 9 ∷ []) ++ (14 ∷ 0 ∷ 1 ∷ 9 ∷ 9 ∷ [])))
    ∷ row (turns ticking 55 ((1 ∷ 2147483648 ∷ 1 ∷ 2147483647 ∷ []) ∷ []) (9 ∷ 9 ∷ []))  -- as 13 above
    (0 ∷ 44 ∷ 1 ∷ 1 ∷ 1 ∷ [])
    -- 1.19 settled by the first count, by the second, by neither
    ∷ row (turns graded 21 ((1 ∷ 100 ∷ 0 ∷ 0 ∷ []) ∷ []) (9 ∷ 9 ∷ [])) (0 ∷ 21 ∷ 1 ∷ 2 ∷ 0 ∷ [])
    ∷ row (turns graded 21 ((0 ∷ 0 ∷ 1 ∷ 8 ∷ []) ∷ []) (9 ∷ 9 ∷ [])) (0 ∷ 21 ∷ 1 ∷ 2 ∷ 0 ∷ [])
    ∷ row (turns graded 21 ((1 ∷ 99 ∷ 0 ∷ 0 ∷ []) ∷ []) (9 ∷ 9 ∷ [])) (0 ∷ 21 ∷ 1 ∷ 0 ∷ 0 ∷ [])
    -- 3.24 the first content, a greater, a blank, a refused turn, a smaller, a greater
    ∷ row (turns peak 21
    ((1 ∷ 3 ∷ []) ∷ (1 ∷ 5 ∷ []) ∷ (0 ∷ 0 ∷ []) ∷ (7 ∷ 0 ∷ []) ∷ (1 ∷ 2 ∷ []) ∷ (1 ∷ 9 ∷ []) ∷ []) (9 ∷ 9 ∷ []))
    ((0 ∷ 21 ∷ 1 ∷ 1 ∷ 4 ∷ []) ++ ((0 ∷ 21 ∷ 2 ∷ 1 ∷ 5 ∷ []) ++ ((0 ∷ 21 ∷ 3 ∷ 1 ∷ 5 ∷ [])
    ++ ((11 ∷ 0 ∷ 3 ∷ 9 ∷ 9 ∷ []) ++ ((0 ∷ 21 ∷ 4 ∷ 1 ∷ 5 ∷ []) ++ (0 ∷ 21 ∷ 5 ∷ 1 ∷ 9 ∷ []))))))
    -- what is kept is fetched in the next turn, a blank too
    ∷ row (turns last 15 ((1 ∷ 5 ∷ []) ∷ (0 ∷ 0 ∷ []) ∷ (1 ∷ 7 ∷ []) ∷ []) (9 ∷ 9 ∷ []))
    ((0 ∷ 15 ∷ 1 ∷ 1 ∷ 4 ∷ []) ++ ((0 ∷ 15 ∷ 2 ∷ 1 ∷ 5 ∷ []) ++ (0 ∷ 15 ∷ 3 ∷ 0 ∷ 0 ∷ [])))
    -- a deployment that does not run keeps its cell
    ∷ row (turns counters 73 (replicate 4 []) (9 ∷ 9 ∷ 9 ∷ 9 ∷ []))
    ((0 ∷ 58 ∷ 1 ∷ 1 ∷ 11 ∷ 1 ∷ 0 ∷ []) ++ ((0 ∷ 73 ∷ 2 ∷ 1 ∷ 21 ∷ 1 ∷ 1 ∷ [])
    ++ ((0 ∷ 73 ∷ 3 ∷ 1 ∷ 12 ∷ 1 ∷ 2 ∷ []) ++ (0 ∷ 73 ∷ 4 ∷ 1 ∷ 22 ∷ 1 ∷ 3 ∷ []))))
    -- one word short for the second, after main's Keep: the turn changes no cell
    ∷ row (turns counters 72 (replicate 2 []) (9 ∷ 9 ∷ 9 ∷ 9 ∷ []))
    ((0 ∷ 58 ∷ 1 ∷ 1 ∷ 11 ∷ 1 ∷ 0 ∷ []) ++ (14 ∷ 0 ∷ 1 ∷ 9 ∷ 9 ∷ 9 ∷ 9 ∷ []))
    ∷ row (undoes 1 counters 72 [] (9 ∷ 9 ∷ 9 ∷ 9 ∷ [])) (1 ∷ [])
    ∷ row (walks counters 73 []) (0 ∷ 58 ∷ [])
    ∷ row (undoes 0 nest 200 [] (9 ∷ 9 ∷ [])) (1 ∷ [])  -- a refused turn, undone in place
    ∷ row (undoes 1 toggle 54 (1 ∷ 7 ∷ 1 ∷ 5 ∷ []) (9 ∷ 9 ∷ [])) (1 ∷ [])
    ∷ []

abbrev about_images : List Row
about_images =
    row (resumes toggle two_turns (1 ∷ 7 ∷ 1 ∷ 5 ∷ [])) (0 ∷ 55 ∷ [])
    -- 5.19 the places of 9
    ∷ faulty (set two_turns 0 54) 0  -- u inside a deployment
    ∷ faulty (set two_turns 1 2147483648) 0  -- the turns
    ∷ faulty (set two_turns 33 3) 0  -- no such reactor, so no tiling
    ∷ faulty (set two_turns 55 1) 0  -- a word from u on
    ∷ faulty (set two_turns 4 33) 2  -- main's next
    ∷ faulty (set two_turns 46 44) 2  -- a chain that does not fall is its owner's fault
    ∷ faulty (set two_turns 34 0) 33  -- minus not wired
    ∷ faulty (set two_turns 47 1) 44  -- a slot of plus
    ∷ faulty (set (set two_turns 47 1) 34 0) 33  -- both: the lowest
    ∷ faulty (set two_turns 6 33) 44  -- nothing names plus
    ∷ faulty (set two_turns 46 0) 33  -- nothing names minus
    ∷ faulty (set (set two_turns 46 0) 47 1) 44  -- own words come before names
    ∷ faulty (set two_turns 1 0) 2  -- turns 0, and main is wired
    ∷ faulty two_fresh 33  -- the second deployment
    -- 3.19 what a cell may hold
    ∷ resumed (number (negsuc 4)) 0 21
    ∷ resumed blank 0 21
    ∷ resumed (value blank_mark 1) 9 2  -- a blank with content
    ∷ resumed yes 9 2  -- another kind
    ∷ resumed (value kept_mark 0) 9 2  -- a blank as it waits within a turn
    ∷ row (resumes clock (9 ∷ zeros 8) []) (0 ∷ 9 ∷ [])  -- a clock as a start leaves it
    ∷ row (resumes clock (11 ∷ zeros 10) []) (9 ∷ 0 ∷ [])  -- as a release with larger sizes left it
    ∷ row (resumes nest (nested 64) []) (15 ∷ 0 ∷ [])  -- depth 64 is sound
    ∷ row (resumes nest (nested 65) []) (9 ∷ 0 ∷ [])  -- and 65 is not: a depth has no place
    ∷ []

-- a refused preview: number, place, the words of work memory, sinks as they were
abbrev not_shown : ℕ → ℕ → List ℕ → List ℕ
not_shown n q work = n ∷ q ∷ (work ++ (9 ∷ 9 ∷ []))

abbrev about_previews : List Row
about_previews =
    row (previews 0 clock 9 9 []) (0 ∷ 9 ∷ ((9 ∷ 1 ∷ 0 ∷ 1 ∷ zeros 5) ++ (1 ∷ 1 ∷ [])))
    ∷ row (previews 1 toggle 55 55 (1 ∷ 7 ∷ 1 ∷ 5 ∷ [])) (0 ∷ 55 ∷ (take 55 two_turns ++ (1 ∷ 12 ∷ [])))  -- 4.28
    ∷ row (previews 0 (take 43 clock) 1 2 []) (not_shown 1 43 (replicate 2 5))
    ∷ row (previews 0 clock 1 2 []) (not_shown 8 1 (replicate 2 5))  -- 8 comes before 22
    ∷ row (previews 0 clock 8 9 []) (not_shown 22 9 (replicate 9 5))  -- 22 before 9: no start has made them ready
    ∷ row (previews 0 clock 8 8 []) (not_shown 9 0 (replicate 8 5))
    ∷ row (previews 0 clock 9 8 (1 ∷ [])) (not_shown 22 8 (replicate 8 5))  -- and before 10
    ∷ row (previews 0 clock 9 9 (1 ∷ [])) (not_shown 10 1 (replicate 9 5))
    ∷ row (previews 0 toggle 33 33 (1 ∷ 7 ∷ 1 ∷ 5 ∷ [])) (not_shown 14 1 (33 ∷ 0 ∷ 2 ∷ zeros 30))  -- a copy of memory
    ∷ row (previews 0 nest 834 834 []) (not_shown 15 0 (15 ∷ zeros 833))
    ∷ []

abbrev pub starred : List Row
starred = about_check ++ (about_primitives ++ (about_turns ++ (about_previews ++ about_images)))

abbrev pub answers : List Row → List (List ℕ)
answers [] = []
answers (r ∷ rs) = answer_of r.ask ∷ answers rs

abbrev pub expected : List Row → List (List ℕ)
expected [] = []
expected (r ∷ rs) = r.answer ∷ expected rs

pub starred_hold : answers starred ≡ expected starred
unfolding opened after memory_of same undone_from answer_of deeper
starred_hold = refl
