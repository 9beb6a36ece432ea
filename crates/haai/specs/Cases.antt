-- Texts by hand, in tables with one claim each: number and place, the bytes of some, and an average and a toggle over
-- three turns. What each row says was counted by hand, and the definitions answer it.
use Rattle.std.specs.Prelude.{ℕ, zero, suc, ◌+◌, ◌/◌, ◌%◌, ◌≡◌, refl, List, [], ◌∷◌, ◌++◌, take, replicate}
use Prim.Native.Char.{code}
use Prim.Native.String.{String, [] as empty, ◌∷◌ as ◌then◌}
use Rattle.answer.specs.Answer.{number_of, place_of}
use Rattle.load.specs.Programs.{zeros, joined, command, clock}
use Rattle.image.specs.Start.{start_of}
use Rattle.remus.specs.Exec.{global_value}
use Rattle.remus.specs.Turn.{Turn}
use Rattle.remus.specs.Walk.{Input}
use Rattle.remus.specs.Claim.{turns_of}
use Rattle.haai.specs.Meaning.{meaning_of, pairs_of}
use Rattle.haai.specs.Compile.{compile_of, tree_of}
use Rattle.haai.specs.Open.{opened}

-- ---- long texts

unfoldable pub bytes : String → List ℕ
bytes empty = []
bytes (c then s) = code c ∷ bytes s

abbrev between : String → List ℕ → String → List ℕ
between a t b = bytes a ++ (t ++ bytes b)

abbrev repeated : ℕ → List ℕ → List ℕ
repeated zero t = []
repeated (suc n) t = t ++ repeated n t

-- the first n of what f gives
abbrev each : (ℕ → List ℕ) → ℕ → List ℕ
each f zero = []
each f (suc n) = each f n ++ f n

-- names of two letters: aa, ab, .. az, ba, ..
abbrev name : ℕ → List ℕ
name i = (97 + i / 26) ∷ (97 + i % 26) ∷ []

-- n sources, of 11 bytes each
abbrev many_sources : ℕ → List ℕ
many_sources = each (λ i. between "(source " (name i) ")")

-- n definitions, of 13 bytes each
abbrev many_definitions : ℕ → List ℕ
many_definitions = each (λ i. between "(defr (" (name i) ") 1)")

-- n brackets, each in the one before, which are 5 bytes apart
abbrev nested : ℕ → List ℕ
nested n = repeated n (bytes "(+ 1 ") ++ between "1" (repeated n (bytes ")")) ""

-- a sum of sums, with 2 ^ n leaves and one sum less
abbrev sums : ℕ → String → List ℕ
sums zero leaf = bytes leaf
sums (suc n) leaf = between "(+ " (sums n leaf) "" ++ between " " (sums n leaf) ")"

-- four of them, with a space after each
abbrev four_sums : ℕ → String → List ℕ
four_sums n leaf = repeated 4 (sums n leaf ++ bytes " ")

-- a main with 32 calls in 4 expressions of out, and then the rest
abbrev calling : String → List ℕ
calling rest = between "(defr (f) 1)(defr (m) (out " (four_sums 3 "(f)") rest

-- ---- numbers and places

pub record Row : Type 0 where
  pub space : ℕ
  pub text : List ℕ
  pub number : ℕ
  pub place : ℕ

abbrev row : ℕ → List ℕ → ℕ → ℕ → Row
row k t n q = record { space = k; text = t; number = n; place = q }

-- in an output space of 600 bytes
abbrev long : List ℕ → ℕ → ℕ → Row
long = row 600

abbrev case : String → ℕ → ℕ → Row
case t = long (bytes t)

-- 16
abbrev forms : List Row
forms =
    case "" 16 0  -- empty text
    ∷ case " \n" 16 2  -- blank text
    ∷ case "(source a) " 16 11  -- no defr
    ∷ case "x" 16 0  -- a word at top level
    ∷ case "(defr (m) 1))" 16 12  -- a bracket too many
    ∷ case "(foo a)" 16 1  -- neither source nor defr
    ∷ case "(time)" 16 1  -- a taken word there
    ∷ case "(source)" 16 7  -- source without name
    ∷ case "(source 5)" 16 8  -- number as name
    ∷ case "(source 5a)" 16 8  -- a name that begins with a digit
    ∷ case "(source -a)" 16 8  -- or with a hyphen
    ∷ case "(source A)" 16 8  -- upper case
    ∷ case "(source abcdefghijklmnopq)" 16 8  -- 17 letters
    ∷ case "(source a b)" 16 10  -- a second word in source
    ∷ case "(defr (m) 1)(source a)" 16 13  -- source after defr
    ∷ case "(defr m 1)" 16 6  -- no bracket after defr
    ∷ case "(defr () 1)" 16 7  -- no name
    ∷ case "(defr (m))" 16 9  -- no body
    ∷ case "(defr (m) 1 2)" 16 12  -- a second body
    ∷ case "(defr (m) 1 " 16 12  -- ends too soon
    ∷ case "(defr (f a b c d e f g h) 1)" 16 23  -- eighth parameter
    ∷ case "(defr (m) (out))" 16 14  -- out without e
    ∷ case "(defr (m) (out 1 2 3 4 5 6 7 8))" 16 29  -- eighth e
    ∷ case "(defr (m) ())" 16 11  -- empty bracket
    ∷ case "(defr (m) ((m)))" 16 11  -- bracket as operator
    ∷ case "(defr (m) (5 1))" 16 11  -- number as operator
    ∷ case "(defr (m) (+ + 1))" 16 13  -- sign as operand
    ∷ case "(defr (m) 2147483648)" 16 10  -- number too large
    ∷ case "(defr (m) -2147483649)" 16 10  -- number too low
    ∷ case "(defr (m) +1)" 16 10  -- plus sign
    ∷ case "(defr (m)\t1)" 16 9  -- a tab ends no word
    ∷ case "(source time)(defr (m) 1" 16 24  -- 16 before a lower 17
    ∷ long (many_sources 32) 16 342  -- the 32nd source: 31 · 11, at the word after its bracket
    ∷ long (many_definitions 33) 16 416  -- the 33rd definition: 32 · 13, at its bracket
    ∷ long (between "(defr (m) " (nested 17) ")") 16 90  -- the 17th bracket: 10 + 16 · 5
    ∷ long (between "(defr (m) (out 1 " (nested 17) "))") 16 97  -- the same in out, whose own does not count
    ∷ []

-- 17
abbrev names : List Row
names =
    case "(source time)(defr (m) 1)" 17 8  -- taken: source name
    ∷ case "(defr (out) 1)" 17 7  -- taken: reactor name
    ∷ case "(defr (f defr) 1)(defr (m) 1)" 17 9  -- taken: parameter
    ∷ case "(defr (m) out)" 17 10  -- taken: operand
    ∷ case "(defr (m) (time))" 17 11  -- taken: operator
    ∷ case "(defr (m) (+ 1 (out 1)))" 17 16  -- out inside an expression
    ∷ case "(source a)(source a)(defr (m) 1)" 17 18  -- repeated source
    ∷ case "(source a)(defr (a) 1)" 17 17  -- reactor like source
    ∷ case "(defr (f x x) 1)(defr (m) 1)" 17 11  -- parameter twice
    ∷ case "(defr (f f) 1)(defr (m) 1)" 17 9  -- parameter like own reactor
    ∷ case "(defr (f x) 1)(defr (x) 1)" 17 21  -- reactor like earlier parameter
    ∷ case "(defr (m) x)" 17 10  -- unknown operand
    ∷ case "(defr (m) (x 1))" 17 11  -- unknown operator
    ∷ case "(defr (f) 1)(defr (m) f)" 17 22  -- reactor as operand
    ∷ case "(source a)(defr (m) (a))" 17 21  -- source as operator
    ∷ case "(defr (m) (m))" 17 11  -- itself
    ∷ case "(defr (f) (m))(defr (m) 1)" 17 11  -- later reactor
    ∷ case "(defr (f x) x)(defr (m) x)" 17 24  -- another's parameter
    ∷ case "(defr (m) (+ 1))" 17 11  -- count
    ∷ case "(defr (f x) x)(defr (m) (f y z))" 17 25  -- count before an operand's fault
    ∷ case "(defr (m) (+))" 17 11  -- count, none
    ∷ case "(defr (f) (out 1 2))(defr (m) (f))" 17 31  -- several sinks
    ∷ case "(defr (m p p) p)" 17 7  -- main with parameters
    -- before 18: 33 calls, and an unknown name after 12 + 15 + 4 · 60 + 4 bytes
    ∷ long (calling "(f) x))") 17 271
    ∷ []

-- 18, with the bytes needed: 8, one for each source, 20 for each reactor and 8 for each command; 0 where a limit is
-- passed
abbrev spaces : List Row
spaces =
    row 43 (bytes "(defr (m) 1)") 18 44  -- a byte short
    ∷ long (calling "))") 18 1088  -- 32 calls: 8 + 40 + 8 · (2 + 32 + 96)
    ∷ long (calling "(f)))") 18 0  -- 33 calls in one reactor
    ∷ long (between "(defr (m) (out " (four_sums 4 "1") "))") 18 1052  -- 128 R commands: 8 + 20 + 8 · 4 · 32
    ∷ long (between "(defr (f x) (out " (four_sums 4 "1") "x))(defr (m) 1)") 18 0  -- a Sink more: 129
    ∷ long (many_definitions 32) 18 1160  -- 32 definitions: 8 + 32 · (20 + 8 · 2)
    ∷ []

-- 0
abbrev wholes : List Row
wholes =
    row 44 (bytes "(defr (m) 1)") 0 44  -- no byte short
    ∷ case "(defr(m)1)" 0 44  -- brackets end words
    ∷ case "\n(defr\n(m)\n1\n)\n" 0 44  -- line feeds do
    ∷ case "(defr (m) time)" 0 44  -- the time
    ∷ case "(defr (m) (+ -0 0000000000007))" 0 60  -- -0 and leading zeros
    ∷ case "(defr (m) -2147483648)" 0 44  -- the lowest number
    ∷ case "(defr (m) 2147483647)" 0 44  -- the largest
    ∷ case "(source abcdefghijklmnop)(defr (m) abcdefghijklmnop)" 0 45  -- 16 letters
    ∷ case "(source a-1)(defr (m) a-1)" 0 45  -- a hyphen and a digit in a name
    ∷ case "(defr (f a b c d e x g) 1)(defr (m) 1)" 0 80  -- 7 parameters
    ∷ case "(defr (m) (out 1 2 3 4 5 6 7))" 0 140  -- 7 expressions of out
    ∷ case "(defr (f x) x)(defr (g x) x)(defr (m) 1)" 0 100  -- one name for parameters of two reactors
    ∷ long (many_sources 31 ++ bytes "(defr (m) be)") 0 75  -- 31 sources, and the last one's value
    ∷ long (between "(defr (m) " (nested 16) ")") 0 300  -- 16 brackets
    ∷ long (between "(defr (m) (out 1 " (nested 16) "))") 0 316  -- the same in out
    ∷ []

abbrev answered : List Row → List Row
answered [] = []
answered (r ∷ rs) =
    let a = (compile_of r.text (replicate r.space 0)).answer in
    row r.space r.text (number_of a) (place_of a) ∷ answered rs

pub forms_hold : answered forms ≡ forms
unfolding opened bytes
forms_hold = refl

pub names_hold : answered names ≡ names
unfolding opened bytes
names_hold = refl

pub spaces_hold : answered spaces ≡ spaces
unfolding opened bytes
spaces_hold = refl

pub wholes_hold : answered wholes ≡ wholes
unfolding opened bytes
wholes_hold = refl

-- ---- bytes

-- the average of three readings
abbrev average : List ℕ
average =
    bytes "(source a) (source b) (source c)\n(defr (average x y z) (/ (+ (+ x y) z) 3))\n"
    ++ bytes "(defr (main) (average a b c))\n"

abbrev average_program : List ℕ
average_program =
    joined (
    (1 ∷ 2 ∷ 2 ∷ 3 ∷ zeros 4) ∷ zeros 3
    ∷ (3 ∷ 1 ∷ zeros 14) ∷ (0 ∷ 1 ∷ zeros 14)
    ∷ (0 ∷ 0 ∷ 5 ∷ 0 ∷ []) ∷ (1 ∷ 1 ∷ 9 ∷ 0 ∷ [])
    ∷ command 10 0 0 1 0 ∷ command 10 0 3 2 0 ∷ command 3 0 0 0 3 ∷ command 10 3 4 5 0 ∷ command 8 0 6 0 0
    ∷ command 1 0 0 0 0  -- 0 the deployment
    ∷ command 4 1 0 0 0 ∷ command 4 2 0 0 0 ∷ command 4 3 0 0 0  -- 1, 2 and 3 the readings
    ∷ command 5 0 1 0 0 ∷ command 5 1 2 0 0 ∷ command 5 2 3 0 0
    ∷ command 6 0 0 0 0 ∷ command 7 0 0 0 0 ∷ command 8 0 8 0 0 ∷ [])

-- a call whose operand is a call, which is whole first
abbrev called_twice : List ℕ
called_twice = bytes "(defr (f) 1)(defr (g x) x)(defr (m) (g (f)))"

abbrev called_twice_program : List ℕ
called_twice_program =
    joined (
    (1 ∷ 3 ∷ 3 ∷ zeros 5) ∷ (0 ∷ 1 ∷ zeros 14) ∷ (1 ∷ 1 ∷ zeros 14) ∷ (0 ∷ 1 ∷ zeros 14)
    ∷ (0 ∷ 0 ∷ 2 ∷ 0 ∷ []) ∷ (1 ∷ 0 ∷ 1 ∷ 0 ∷ []) ∷ (2 ∷ 2 ∷ 6 ∷ 0 ∷ [])
    ∷ command 3 0 0 0 1 ∷ command 8 0 0 0 0
    ∷ command 8 0 0 0 0
    ∷ command 1 0 0 0 0 ∷ command 1 1 0 0 0  -- 0 and 1 the deployments
    ∷ command 6 0 0 0 0 ∷ command 7 0 0 0 0  -- 3 what f gives
    ∷ command 5 0 3 1 0 ∷ command 6 0 0 1 0 ∷ command 7 0 0 1 0 ∷ command 8 0 6 0 0 ∷ [])

-- a number below 0, with its low byte first
abbrev below_zero : List ℕ
below_zero =
    joined (
    (1 ∷ 1 ∷ 1 ∷ zeros 5) ∷ (0 ∷ 1 ∷ zeros 14) ∷ (0 ∷ 0 ∷ 2 ∷ 0 ∷ [])
    ∷ (3 ∷ 0 ∷ 0 ∷ 0 ∷ 254 ∷ 255 ∷ 255 ∷ 255 ∷ []) ∷ command 8 0 0 0 0 ∷ [])

-- what a text leaves in an output space of 200 bytes, each of them 9
unfoldable pub output : List ℕ → List ℕ
output t = (compile_of t (replicate 200 9)).output

abbrev filled : List ℕ → List ℕ
filled p = take 200 (p ++ replicate 200 9)

pub bytes_hold : (output (bytes "(defr (m) time)") ≡ filled clock) × (output (bytes "(defr (m) -2)") ≡ filled below_zero)
    × (output average ≡ filled average_program) × (output called_twice ≡ filled called_twice_program)
unfolding opened bytes output
bytes_hold = (refl, refl, refl, refl)

-- ---- turns

-- the turns that these readings bring from a start with 300 words: each one's sink space, at first 9 9 9
abbrev inputs : List (List ℕ) → List Input
inputs [] = []
inputs (rd ∷ rds) = record { readings = rd; sink_space = 9 ∷ 9 ∷ 9 ∷ [] } ∷ inputs rds

abbrev sink_spaces : List Turn → List (List ℕ)
sink_spaces [] = []
sink_spaces (r ∷ rs) = r.sink_space ∷ sink_spaces rs

unfoldable pub ran : List ℕ → List (List ℕ) → List (List ℕ)
ran t rds =
    let c = compile_of t (replicate 600 0) in
    let p = take (place_of c.answer) c.output in
    sink_spaces (turns_of p (start_of p (replicate 300 7)).memory (inputs rds))

-- what the text means in these turns, from the one after n turns on
unfoldable pub meant : List ℕ → ℕ → List (List ℕ) → List (List ℕ)
meant t n [] = []
meant t n (rd ∷ rds) = pairs_of (meaning_of (global_value rd (0 ∷ n ∷ [])) (tree_of t)) ∷ meant t (n + 1) rds

-- 10, 20 and 30 give 20; a blank one among them gives blank
abbrev cards : List (List ℕ)
cards = (1 ∷ 10 ∷ 1 ∷ 20 ∷ 1 ∷ 30 ∷ []) ∷ (1 ∷ 10 ∷ 0 ∷ 0 ∷ 1 ∷ 30 ∷ []) ∷ (1 ∷ 10 ∷ 1 ∷ 20 ∷ 1 ∷ 30 ∷ []) ∷ []

pub average_holds : (ran average cards ≡ (1 ∷ 20 ∷ 9 ∷ []) ∷ (0 ∷ 0 ∷ 9 ∷ []) ∷ (1 ∷ 20 ∷ 9 ∷ []) ∷ [])
    × (meant average 0 cards ≡ (1 ∷ 20 ∷ []) ∷ (0 ∷ 0 ∷ []) ∷ (1 ∷ 20 ∷ []) ∷ [])
unfolding opened bytes ran meant
average_holds = (refl, refl)

-- 2.53's toggle without a branch point: minus where the time is odd, else plus; 7 and 5 give 2, 12, 2
abbrev toggle : List ℕ
toggle =
    bytes "(source a)(source b)(defr (odd t) (- t (* 2 (/ t 2))))(defr (plus x y) (+ x y))"
    ++ bytes "(defr (minus x y) (- x y))(defr (main) (+ (* (odd time) (minus a b)) (* (- 1 (odd time)) (plus a b))))"

abbrev both : List ℕ
both = 1 ∷ 7 ∷ 1 ∷ 5 ∷ []

abbrev thrice : List (List ℕ)
thrice = both ∷ both ∷ both ∷ []

pub toggle_holds : (ran toggle thrice ≡ (1 ∷ 2 ∷ 9 ∷ []) ∷ (1 ∷ 12 ∷ 9 ∷ []) ∷ (1 ∷ 2 ∷ 9 ∷ []) ∷ [])
    × (meant toggle 0 thrice ≡ (1 ∷ 2 ∷ []) ∷ (1 ∷ 12 ∷ []) ∷ (1 ∷ 2 ∷ []) ∷ [])
unfolding opened bytes ran meant
toggle_holds = (refl, refl)
