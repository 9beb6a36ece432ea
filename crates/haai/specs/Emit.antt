-- 8.10, 8.11 The bytes of a tree.
use Rattle.std.specs.Prelude.{ℕ, ◌+◌, ◌-◌, Bool, true, false, List, [], ◌∷◌, ◌++◌, length, get_or, replicate}
use Rattle.value.specs.Test.{◌≤?◌, ◌and◌, guard}
use Rattle.value.specs.Value.{number_kind}
use Rattle.program.specs.Command.{Cmd, alloc_mono, gives, supply, react, sink, constant, global, consume, primitive}
use Rattle.program.specs.Encode.{encode_all}
use Rattle.haai.specs.Syntax as S
use Rattle.haai.specs.Syntax.{Operator, sign, reactor, Expr, Exprs, parameter, apply, also, count_of}
use Rattle.haai.specs.Syntax.{Definition, Text}

-- ---- an expression's commands

-- 8.11 An AllocMono for each call, in the order in which calls are whole.
unfoldable pub allocates : Operator → List Cmd
allocates (sign o) = []
allocates (reactor k) = alloc_mono k ∷ []

unfoldable mutual
  pub declares : Expr → List Cmd
  declares (parameter i) = []
  declares (S.global g) = []
  declares (S.constant n) = []
  declares (apply f es) = declares_all es ++ allocates f

  pub declares_all : Exprs → List Cmd
  declares_all S.none = []
  declares_all (also es e) = declares_all es ++ declares e

unfoldable pub calls : Exprs → ℕ
calls es = length (declares_all es)

-- how many R commands an application takes after those of its n operands
unfoldable pub own_steps : Operator → ℕ → ℕ
own_steps (sign o) n = 1
own_steps (reactor k) n = n + 2

-- an expression's R commands
unfoldable mutual
  pub steps : Expr → ℕ
  steps (parameter i) = 0
  steps (S.global g) = 1
  steps (S.constant n) = 1
  steps (apply f es) = steps_all es + own_steps f (count_of es)

  pub steps_all : Exprs → ℕ
  steps_all S.none = 0
  steps_all (also es e) = steps_all es + steps e

-- 8.11 Locations: base is the location of the reactor's first R command. A value is at its parameter's location, or
-- else at its expression's last command; r R commands come before.
unfoldable pub location_of : ℕ → ℕ → Expr → ℕ
location_of base r (parameter i) = i
location_of base r (S.global g) = base + r
location_of base r (S.constant n) = base + r
location_of base r (apply f es) = base + (r + steps (apply f es) - 1)

unfoldable pub locations_of : ℕ → ℕ → Exprs → List ℕ
locations_of base r S.none = []
locations_of base r (also es e) = locations_of base r es ++ (location_of base (r + steps_all es) e ∷ [])

-- the sources from x on of the deployment at b, each from its location
unfoldable pub supplies : ℕ → ℕ → List ℕ → List Cmd
supplies b x [] = []
supplies b x (l ∷ ls) = supply x l b ∷ supplies b (x + 1) ls

-- after the operands, which are at ls; a call's deployment is at b
unfoldable pub applied : ℕ → List ℕ → Operator → List Cmd
applied b ls (sign o) = gives (primitive o (get_or ls 0 0) (get_or ls 1 0) 0) ∷ []
applied b ls (reactor k) = supplies b 0 ls ++ (react b ∷ gives (consume 0 b) ∷ [])

-- s the reactor's parameters, base as above; d AllocMonos and r R commands come before the expression's
module _ (s base : ℕ) where
  unfoldable mutual
    pub runs : Expr → ℕ → ℕ → List Cmd
    runs (parameter i) d r = []
    runs (S.global g) d r = gives (global g) ∷ []
    runs (S.constant n) d r = gives (constant number_kind n) ∷ []
    runs (apply f es) d r = runs_all es d r ++ applied (s + (d + calls es)) (locations_of base r es) f

    pub runs_all : Exprs → ℕ → ℕ → List Cmd
    runs_all S.none d r = []
    runs_all (also es e) d r = runs_all es d r ++ runs e (d + calls es) (r + steps_all es)

-- 8.11 At the end the sinks, from x on.
unfoldable pub sinks_from : ℕ → List ℕ → List Cmd
sinks_from x [] = []
sinks_from x (l ∷ ls) = sink x l ∷ sinks_from (x + 1) ls

-- ---- a definition

unfoldable pub declared : Definition → ℕ
declared f = calls f.body

unfoldable pub running : Definition → ℕ
running f = steps_all f.body + count_of f.body

unfoldable pub first_r : Definition → ℕ
first_r f = f.parameters + declared f

unfoldable pub sequence_d : Definition → List Cmd
sequence_d f = declares_all f.body

unfoldable pub sequence_r : Definition → List Cmd
sequence_r f =
    runs_all f.parameters (first_r f) f.body 0 0 ++ sinks_from 0 (locations_of (first_r f) 0 f.body)

unfoldable pub commands_of : Definition → List Cmd
commands_of f = sequence_d f ++ sequence_r f

-- ---- the program

-- 8.10 A shape for each reactor; kind 0, number, for each port.
unfoldable pub shape_bytes : Definition → List ℕ
shape_bytes f = f.parameters ∷ count_of f.body ∷ replicate 14 0

unfoldable pub shapes_of : List Definition → List ℕ
shapes_of [] = []
shapes_of (f ∷ fs) = shape_bytes f ++ shapes_of fs

-- the entries from reactor j on
unfoldable pub entries_from : ℕ → List Definition → List ℕ
entries_from j [] = []
entries_from j (f ∷ fs) = j ∷ declared f ∷ running f ∷ 0 ∷ entries_from (j + 1) fs

unfoldable pub code_of : List Definition → List ℕ
code_of [] = []
code_of (f ∷ fs) = encode_all (commands_of f) ++ code_of fs

unfoldable pub header_bytes : ℕ → ℕ → List ℕ
header_bytes reactors globals = 1 ∷ reactors ∷ reactors ∷ globals ∷ 0 ∷ 0 ∷ 0 ∷ 0 ∷ []

unfoldable pub program_of : Text → List ℕ
program_of x =
    header_bytes (length x.definitions) x.sources
    ++ (replicate x.sources 0
    ++ (shapes_of x.definitions ++ (entries_from 0 x.definitions ++ code_of x.definitions)))

-- 5.28 Whether no reactor has more than 32 D or 128 R commands. No other limit of a program can be passed by a text
-- whose form is right: its bytes are at most 41,639.
unfoldable pub within_limits : List Definition → Bool
within_limits [] = true
within_limits (f ∷ fs) = guard ((declared f ≤? 32) and (running f ≤? 128)) false (λ _. within_limits fs)
