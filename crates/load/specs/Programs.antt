-- The bench programs, and ways to change them. What is asked of them stands in crate remus, in the one table of cases.
use Rattle.std.specs.Prelude.{ℕ, ◌+◌, List, [], ◌∷◌, ◌++◌, set, take, drop, replicate}

abbrev pub zeros : ℕ → List ℕ
zeros n = replicate n 0

abbrev pub joined : List (List ℕ) → List ℕ
joined [] = []
joined (l ∷ ls) = l ++ joined ls

abbrev pub command : ℕ → ℕ → ℕ → ℕ → ℕ → List ℕ
command code x a b v = code ∷ x ∷ a ∷ b ∷ v ∷ 0 ∷ 0 ∷ 0 ∷ []

-- 2.49 The clock: its sink is the time.
abbrev pub clock : List ℕ
clock = joined ((1 ∷ 1 ∷ 1 ∷ zeros 5) ∷ (0 ∷ 1 ∷ zeros 14) ∷ (0 ∷ 0 ∷ 2 ∷ 0 ∷ []) ∷ (4 ∷ zeros 7) ∷ (8 ∷ zeros 7) ∷ [])

-- 2.54 The nest: main deploys itself at a branch point.
abbrev pub nest : List ℕ
nest =
    joined (
    (1 ∷ 1 ∷ 1 ∷ zeros 5) ∷ (0 ∷ 1 ∷ zeros 14) ∷ (0 ∷ 1 ∷ 5 ∷ 0 ∷ [])
    ∷ command 2 0 0 0 0  -- 0 a branch point of shape 0
    ∷ command 3 2 0 0 0 ∷ command 9 0 1 0 0 ∷ command 6 0 0 2 0 ∷ command 7 0 0 2 0 ∷ command 8 0 4 0 0 ∷ [])

-- 2.53 The toggle: reactors 0 and 1 of size 11, plus and minus; main, of size 31, takes minus where the time is odd,
-- which it tells by times and divide.
abbrev pub toggle : List ℕ
toggle =
    joined (
    (1 ∷ 2 ∷ 3 ∷ 2 ∷ zeros 4) ∷ (0 ∷ 0 ∷ [])
    ∷ (2 ∷ 1 ∷ zeros 14) ∷ (0 ∷ 1 ∷ zeros 14)
    ∷ (0 ∷ 0 ∷ 2 ∷ 0 ∷ []) ∷ (0 ∷ 0 ∷ 2 ∷ 0 ∷ []) ∷ (1 ∷ 1 ∷ 16 ∷ 0 ∷ [])
    ∷ command 10 0 0 1 0 ∷ command 8 0 2 0 0  -- plus
    ∷ command 10 1 0 1 0 ∷ command 8 0 2 0 0  -- minus
    ∷ command 2 0 0 0 0  -- 0 a branch point
    ∷ command 4 0 0 0 0 ∷ command 4 1 0 0 0 ∷ command 4 2 0 0 0  -- 1 the time, 2 and 3 the readings
    ∷ command 3 0 0 0 2 ∷ command 10 3 1 4 0 ∷ command 10 2 5 4 0  -- 4 two, 5 half the time, 6 twice that
    ∷ command 10 6 6 1 0  -- 7 whether it is the time, so that it is even
    ∷ command 3 2 0 0 0 ∷ command 3 2 0 0 1 ∷ command 10 11 7 8 9  -- 8 plus, 9 minus, 10 the operator
    ∷ command 9 0 10 0 0 ∷ command 5 0 2 11 0 ∷ command 5 1 3 11 0  -- 11 the deployment, supplied
    ∷ command 6 0 0 11 0 ∷ command 7 0 0 11 0 ∷ command 8 0 15 0 0 ∷ [])

-- 5.35 The toggle with a remainder where it divides.
abbrev pub stocked : List ℕ
stocked = set toggle 127 4

-- 1.24 The toggle with a tick difference where it subtracts.
abbrev pub ticking : List ℕ
ticking = set toggle 71 13

-- 1.19 Whether a card passes, both its counts being below their limits, 100 and 8.
abbrev pub graded : List ℕ
graded =
    joined (
    (1 ∷ 1 ∷ 1 ∷ 2 ∷ zeros 4) ∷ (0 ∷ 0 ∷ [])
    ∷ (0 ∷ 1 ∷ zeros 7) ∷ (1 ∷ zeros 6)  -- its sink is a truth
    ∷ (0 ∷ 0 ∷ 8 ∷ 0 ∷ [])
    ∷ command 4 1 0 0 0 ∷ command 3 0 0 0 100 ∷ command 10 5 0 1 0  -- 2 whether the first count is below its limit
    ∷ command 4 2 0 0 0 ∷ command 3 0 0 0 8 ∷ command 10 5 3 4 0  -- 5 whether the second is
    ∷ command 10 8 2 5 0 ∷ command 8 0 6 0 0 ∷ [])

-- 2.52 A running maximum: of 4 and of all readings so far, a blank one left out. Size 19.
abbrev pub peak : List ℕ
peak =
    joined (
    (1 ∷ 1 ∷ 1 ∷ 1 ∷ zeros 4) ∷ (0 ∷ []) ∷ (0 ∷ 1 ∷ zeros 14) ∷ (0 ∷ 1 ∷ 7 ∷ 0 ∷ [])
    ∷ command 11 0 0 0 4  -- 0 a cell, at first 4
    ∷ command 4 1 0 0 0 ∷ command 12 0 0 0 0  -- 1 the reading, 2 the maximum before
    ∷ command 10 5 2 1 0 ∷ command 10 11 3 1 2  -- 3 whether the reading is above it, 4 the greater of them
    ∷ command 10 12 4 2 0  -- 5 the maximum, which is the one before for a blank reading
    ∷ command 13 0 5 0 0 ∷ command 8 0 5 0 0 ∷ [])

-- The reading of the turn before, at first 4; fetched after the new one is kept. Size 13.
abbrev pub last : List ℕ
last =
    joined (
    (1 ∷ 1 ∷ 1 ∷ 1 ∷ zeros 4) ∷ (0 ∷ []) ∷ (0 ∷ 1 ∷ zeros 14) ∷ (0 ∷ 1 ∷ 4 ∷ 0 ∷ [])
    ∷ command 11 0 0 0 4  -- 0 a cell
    ∷ command 4 1 0 0 0 ∷ command 13 0 1 0 0 ∷ command 12 0 0 0 0 ∷ command 8 0 3 0 0 ∷ [])

-- Reactor 0 counts even turns, from 20 on, and reactor 1 odd ones, from 10 on, each of size 15. Main, of size 41,
-- counts all: its sinks are the count of the one that runs, and its own count before the turn.
abbrev pub counters : List ℕ
counters =
    joined (
    (1 ∷ 2 ∷ 3 ∷ 0 ∷ zeros 4) ∷ (0 ∷ 1 ∷ zeros 14) ∷ (0 ∷ 2 ∷ zeros 14)
    ∷ (0 ∷ 1 ∷ 5 ∷ 0 ∷ []) ∷ (0 ∷ 1 ∷ 5 ∷ 0 ∷ []) ∷ (1 ∷ 2 ∷ 18 ∷ 0 ∷ [])
    ∷ command 11 0 0 0 20 ∷ command 12 0 0 0 0 ∷ command 3 0 0 0 1  -- even: 0 a cell, 1 what it holds, 2 one
    ∷ command 10 0 1 2 0 ∷ command 13 0 3 0 0 ∷ command 8 0 3 0 0  -- 3 one more, kept
    ∷ command 11 0 0 0 10 ∷ command 12 0 0 0 0 ∷ command 3 0 0 0 1  -- odd
    ∷ command 10 0 1 2 0 ∷ command 13 0 3 0 0 ∷ command 8 0 3 0 0
    ∷ command 2 0 0 0 0 ∷ command 11 0 0 0 0  -- 0 a branch point, 1 a cell
    ∷ command 12 0 0 1 0 ∷ command 3 0 0 0 1 ∷ command 10 0 2 3 0 ∷ command 13 0 4 1 0  -- 4 one more, kept
    ∷ command 4 0 0 0 0 ∷ command 3 0 0 0 2 ∷ command 10 3 6 7 0 ∷ command 10 2 8 7 0  -- 6 the time, 9 twice its half
    ∷ command 10 6 9 6 0 ∷ command 3 2 0 0 0 ∷ command 3 2 0 0 1 ∷ command 10 11 10 11 12  -- 10 even, 13 the operator
    ∷ command 9 0 13 0 0 ∷ command 6 0 0 14 0 ∷ command 7 0 0 14 0  -- 14 the deployment, 16 its count
    ∷ command 12 0 0 1 0 ∷ command 8 0 16 0 0 ∷ command 8 1 17 0 0 ∷ [])

-- the program with another command at byte q
abbrev pub with_command : List ℕ → ℕ → List ℕ → List ℕ
with_command p q c = take q p ++ (c ++ drop (q + 8) p)
