-- Figures in one table with one claim: what each row asks, the definition answers as the row says.
use Rattle.std.specs.Prelude.{ℕ, zero, suc, ◌+◌, ◌-◌, ◌*◌, ◌≡◌, refl, List, [], ◌∷◌, ◌++◌, length}
use Rattle.answer.specs.Answer.{number_of, place_of}
use Rattle.load.specs.Programs.{zeros, joined, command, clock, nest, toggle, peak, counters}
use Rattle.figure.specs.Figure.{figure_of}
use Rattle.figure.specs.Open.{opened}

-- ---- branch points

-- two reactors of shape 0, and main, of size 17, with two branch points of that shape
abbrev two_points : List ℕ
two_points =
    joined (
    (1 ∷ 2 ∷ 3 ∷ zeros 5) ∷ (0 ∷ 1 ∷ zeros 14) ∷ (0 ∷ 1 ∷ zeros 14)
    ∷ (0 ∷ 0 ∷ 2 ∷ 0 ∷ []) ∷ (0 ∷ 0 ∷ 2 ∷ 0 ∷ []) ∷ (1 ∷ 2 ∷ 7 ∷ 0 ∷ [])
    ∷ command 4 0 0 0 0 ∷ command 8 0 0 0 0
    ∷ command 4 0 0 0 0 ∷ command 8 0 0 0 0
    ∷ command 2 0 0 0 0 ∷ command 2 0 0 0 0  -- 0 and 1 the branch points
    ∷ command 3 2 0 0 0 ∷ command 9 0 2 0 0 ∷ command 9 0 2 1 0  -- 2 reactor 0, deployed at both
    ∷ command 6 0 0 3 0 ∷ command 6 0 0 4 0 ∷ command 7 0 0 3 0 ∷ command 8 0 7 0 0 ∷ [])

-- Reactor 0, of shape 0, and reactor 1, whose branch point leads to itself. Main, of size 9, deploys the one given.
abbrev circle : ℕ → List ℕ
circle r =
    joined (
    (1 ∷ 3 ∷ 3 ∷ zeros 5) ∷ (0 ∷ 1 ∷ zeros 14) ∷ (0 ∷ 1 ∷ zeros 14) ∷ (0 ∷ 1 ∷ zeros 14)
    ∷ (0 ∷ 0 ∷ 2 ∷ 0 ∷ []) ∷ (1 ∷ 1 ∷ 5 ∷ 0 ∷ []) ∷ (2 ∷ 1 ∷ 3 ∷ 0 ∷ [])
    ∷ command 4 0 0 0 0 ∷ command 8 0 0 0 0
    ∷ command 2 1 0 0 0 ∷ command 3 3 0 0 1 ∷ command 9 0 1 0 0 ∷ command 6 0 0 2 0 ∷ command 4 0 0 0 0
    ∷ command 8 0 4 0 0
    ∷ command 1 r 0 0 0 ∷ command 6 0 0 0 0 ∷ command 4 0 0 0 0 ∷ command 8 0 2 0 0 ∷ [])

-- ---- towers: reactors without sources, each of which deploys the one below it

-- how often it does, and how many Globals it has; of size 3 + 2 · (both + 1)
pub record Floor : Type 0 where
  pub deploys : ℕ
  pub globals : ℕ

abbrev floor : ℕ → ℕ → Floor
floor d k = record { deploys = d; globals = k }

abbrev entry : Floor → List ℕ
entry f = 0 ∷ f.deploys ∷ (f.deploys + f.globals + 1) ∷ 0 ∷ []

-- n commands, each of which names l, l + 1 and so on
abbrev each : (ℕ → List ℕ) → ℕ → ℕ → List ℕ
each c zero l = []
each c (suc n) l = c l ++ each c n (l + 1)

-- of reactor r; the sink takes the first Global
abbrev commands : ℕ → Floor → List ℕ
commands r f =
    each (λ l. command 1 (r - 1) 0 0 0) f.deploys 0 ++ each (λ l. command 6 0 0 l 0) f.deploys 0
    ++ each (λ l. command 4 0 0 0 0) f.globals 0 ++ command 8 0 (2 * f.deploys) 0 0

abbrev entries : List Floor → List ℕ
entries [] = []
entries (f ∷ fs) = entry f ++ entries fs

abbrev bodies : ℕ → List Floor → List ℕ
bodies r [] = []
bodies r (f ∷ fs) = commands r f ++ bodies (r + 1) fs

abbrev tower : List Floor → List ℕ
tower fs = joined ((1 ∷ 1 ∷ length fs ∷ zeros 5) ∷ (0 ∷ 1 ∷ zeros 14) ∷ entries fs ∷ bodies 0 fs ∷ [])

-- bounds 7, 36, 159, 814, 3,273 and 16,382
abbrev most : List ℕ
most = tower (floor 0 1 ∷ floor 3 2 ∷ floor 4 1 ∷ floor 5 2 ∷ floor 4 2 ∷ floor 5 1 ∷ [])

-- bounds 11, 46, 199, 815, 4,092 and 16,383
abbrev past : List ℕ
past = tower (floor 0 3 ∷ floor 3 1 ∷ floor 4 1 ∷ floor 4 3 ∷ floor 5 1 ∷ floor 4 1 ∷ [])

-- ---- the table

pub record Row : Type 0 where
  pub program : List ℕ
  pub number : ℕ
  pub place : ℕ

abbrev row : List ℕ → ℕ → ℕ → Row
row p n q = record { program = p; number = n; place = q }

abbrev pub rows : List Row
rows =
    row clock 0 9  -- main alone: 2 + 7
    ∷ row [] 1 0  -- what the check refuses
    ∷ row toggle 0 55  -- 2 + 31, and plus and minus, of size 11, once each
    ∷ row peak 0 21  -- a cell makes no deployment
    ∷ row counters 0 73  -- 2 + 41 + 15 + 15
    ∷ row two_points 0 47  -- 2 + 17, and for each branch point 7 + 7
    ∷ row nest 23 0  -- its branch point leads to itself
    ∷ row (circle 0) 0 18  -- main does not come to the circle: 2 + 9 + 7
    ∷ row (circle 1) 23 1  -- main comes to it, and is not on it
    ∷ row most 0 16384  -- the most words
    ∷ row past 24 0  -- one more
    ∷ []

abbrev pub answered : List Row → List Row
answered [] = []
answered (r ∷ rs) = let a = figure_of r.program in row r.program (number_of a) (place_of a) ∷ answered rs

pub rows_hold : answered rows ≡ rows
unfolding opened
rows_hold = refl
