-- How the bytes of a text's commands are written: which commands a word adds, where they go, and where the values of
-- open applications stand. The locations of the operands that an open application has so far are a row of seven bytes;
-- row 0 is that of the body, row i that of the i-th open application from the outermost on.
use Rattle.std.specs.Prelude.{ℕ, zero, suc, ◌+◌, ◌-◌, ◌*◌, ◌%◌, ◌≤◌, ◌≡◌, true, List, [], ◌∷◌, ◌++◌, length}
use Rattle.std.specs.Prelude.{get_or, set, replicate}
use Rattle.value.specs.Test.{pick, ◌≤?◌, ◌<?◌, ◌=?◌}
use Rattle.value.specs.Value.{number_kind}
use Rattle.program.specs.Command.{Cmd, alloc_mono, gives, react, constant, global, consume, primitive}
use Rattle.program.specs.Encode.{eight, encode}
use Rattle.image.specs.Memory.{patch}
use Rattle.haai.specs.Grammar.{form_of}
use Rattle.haai.specs.Names.{fault_of}
use Rattle.haai.specs.Emit.{supplies, sinks_from, within_limits, code_of, header_bytes}
use Rattle.haai.specs.Clauses.{check_of, right as right_form}
use Rattle.haai.specs.Places.{sources_in, parameters_in, meant_in}
use Rattle.haai.specs.Tables.{size_at, size_length, opened_at, innermost, known_by, Sizes, FoundIs}
use Rattle.haai.specs.Word.{sign_number}
use Rattle.haai.specs.declared.Application.{Application}
use Rattle.haai.specs.declared.Cursor.{Cursor}
use Rattle.haai.specs.declared.Found.{Found}
use Rattle.haai.specs.declared.Knowing.{Knowing}
use Rattle.haai.specs.declared.Meant.{Meant}
use Rattle.haai.specs.declared.Meant.TheVariants.{Parameter as AParameter, Global}
use Rattle.haai.specs.declared.Operator.{Operator}
use Rattle.haai.specs.declared.Operator.TheVariants.{Sign, Reactor as AReactor}
use Rattle.haai.specs.declared.Role.{Role}
use Rattle.haai.specs.declared.Role.TheVariants.{Source, Reactor, Parameter, Operand, Constant}
use Rattle.haai.specs.declared.Role.TheVariants.{Operator as AnOperator, Apply, Define, Fixed}
use Rattle.haai.specs.declared.Size.{Size}
use Rattle.haai.specs.declared.Tally.{Tally}
use Rattle.haai.specs.declared.Tree.{Tree}

-- ---- commands in the output

-- the bytes of c from byte `at` on, where there is room for all of them
unfoldable pub put_command : List ℕ → ℕ → Cmd → List ℕ
put_command out at c = pick (at + 8 ≤? length out) (patch out at (encode c)) out

-- the same of a command by its code, x, a, b and v
unfoldable pub put_eight : List ℕ → ℕ → ℕ → ℕ → ℕ → ℕ → ℕ → List ℕ
put_eight out at code x a b v = pick (at + 8 ≤? length out) (patch out at (eight code x a b v)) out

unfoldable pub put_commands : List ℕ → ℕ → List Cmd → List ℕ
put_commands out at [] = out
put_commands out at (c ∷ cs) = put_commands (put_command out at c) (at + 8) cs

-- ---- places: c says where the present reactor's commands begin, how many parameters and D commands it has, and how
-- many D and R commands are written

unfoldable pub place_d : Cursor → ℕ
place_d c = c.first + 8 * c.calls

unfoldable pub place_r : Cursor → ℕ
place_r c = c.first + 8 * (c.declared + c.steps)

-- the location of the next deployment, and of the n-th R command from here on, as bytes
unfoldable pub deployment_loc : Cursor → ℕ
deployment_loc c = (c.parameters + c.calls) % 256

unfoldable pub location_r : Cursor → ℕ → ℕ
location_r c n = (c.parameters + c.declared + c.steps + n) % 256

-- where the commands of definition j begin, by the sizes zs; the tables end before byte `end`
unfoldable pub first_at : List Size → ℕ → ℕ → ℕ
first_at zs end zero = end
first_at zs end (suc j) = first_at zs end j + size_length (size_at zs j)

-- no program's commands begin later
abbrev pub most_first : ℕ
most_first = 200000

unfoldable pub cursor_of : List Size → ℕ → Tally → Tree → Cursor
cursor_of zs first v u =
    record {
      first = first;
      parameters = v.names - v.own;
      declared = (size_at zs u.definitions).declared;
      calls = u.calls;
      steps = u.steps;
    }

-- ---- locations of operands

-- n entries of the locations from i on
unfoldable pub row_of : List ℕ → ℕ → ℕ → List ℕ
row_of ls i zero = []
row_of ls i (suc n) = get_or ls i 0 ∷ row_of ls (i + 1) n

-- how many operands the innermost application has, or the body
unfoldable pub operands_so_far : Tree → List Application → ℕ
operands_so_far u pl = pick (u.level =? 0) u.count (innermost u pl).operands

-- no row has more than seven
unfoldable pub few : ℕ → ℕ
few n = pick (n <? 7) n 7

-- the entry for one more operand of an application at level i that has n
unfoldable pub entry_for : ℕ → ℕ → ℕ
entry_for i n = 7 * i + few n

-- where the next value is noted
unfoldable pub next_entry : Tree → List Application → ℕ
next_entry u pl = entry_for u.level (operands_so_far u pl)

-- ---- what a word adds: commands in D, commands in R, and the location of a value

pub record Added : Type 0 where
  pub output : List ℕ
  pub locations : List ℕ

unfoldable pub added : List ℕ → List ℕ → Added
added out ls = record { output = out; locations = ls }

-- one R command that gives a value
unfoldable pub add_give : Cursor → ℕ → Cmd → List ℕ → List ℕ → Added
add_give c entry g ls out = added (put_command out (place_r c) g) (set ls entry (location_r c 0))

unfoldable pub add_meant : Cursor → ℕ → List ℕ → List ℕ → Meant → Added
add_meant c entry ls out (AParameter i) = added out (set ls entry (i % 256))
add_meant c entry ls out (Global g) = add_give c entry (gives (global (g % 256))) ls out

-- a call of reactor j, whose n operands are in the row from i on
unfoldable pub call_r : Cursor → List ℕ → ℕ → ℕ → List Cmd
call_r c ls i n =
    let b = deployment_loc c in supplies b 0 (row_of ls i n) ++ (react b ∷ gives (consume 0 b) ∷ [])

unfoldable pub add_call : Cursor → ℕ → ℕ → ℕ → List ℕ → ℕ → List ℕ → Added
add_call c j i n ls entry out =
    added (put_commands (put_command out (place_d c) (alloc_mono (j % 256))) (place_r c) (call_r c ls i n))
    (set ls entry (location_r c (n + 1)))

-- the application with operator o, whose n operands are in the row from i on
unfoldable pub add_applied : Cursor → Operator → ℕ → ℕ → List ℕ → ℕ → List ℕ → Added
add_applied c (Sign o) i n ls entry out =
    add_give c entry (gives (primitive (sign_number o) (get_or ls i 0) (get_or ls (i + 1) 0) 0)) ls out
add_applied c (AReactor j) i n ls entry out = add_call c j i n ls entry out

-- the entry for an application at level u .level once it is whole
unfoldable pub outer_entry : Tree → List Application → ℕ
outer_entry u pl =
    entry_for (u.level - 1) (pick (u.level ≤? 1) u.count (opened_at pl (u.level - 2)).operands)

-- the sinks of a definition with n expressions
unfoldable pub add_sinks : Cursor → ℕ → List ℕ → List ℕ → Added
add_sinks c n ls out = added (put_commands out (place_r c) (sinks_from 0 (row_of ls 0 n))) ls

-- the innermost application is whole
unfoldable pub add_apply : Knowing → Cursor → List ℕ → List ℕ → Added
add_apply x c ls out =
    let a = innermost x.tree x.pile in
    add_applied c a.operator (7 * x.tree.level) (few a.operands) ls (outer_entry x.tree x.pile) out

module _ (t w : List ℕ) (x : Knowing) (c : Cursor) (ls out : List ℕ) where
  unfoldable pub add_operand : Added
  add_operand =
      add_meant c (next_entry x.tree x.pile) ls out
      (meant_in (parameters_in t x.places x.tally) (sources_in t x.places x.tally) w)

  unfoldable pub add_constant : ℕ → Added
  add_constant n = add_give c (next_entry x.tree x.pile) (gives (constant number_kind n)) ls out

  -- the word w in its role
  unfoldable pub adds : Role → Added
  adds Source = added out ls
  adds Reactor = added out ls
  adds Parameter = added out ls
  adds Operand = add_operand
  adds (Constant n) = add_constant n
  adds AnOperator = added out ls
  adds Apply = add_apply x c ls out
  adds Define = add_sinks c (few x.tree.count) ls out
  adds Fixed = added out ls

-- ---- a text that can be written

-- a text without fault, of which f is found, with its definitions' sizes zs
pub record Clean (t : List ℕ) (f : Found) (zs : List Size) : Type 0 where
  pub right : check_of (form_of t) ≡ right_form
  pub found : FoundIs (known_by (length t) (form_of t)) f zs
  pub clean : f.fault ≡ length t

-- zs has the sizes of the text's definitions, the tables end before byte `end`, and the output has room for all
pub record Writable (t : List ℕ) (zs : List Size) (end : ℕ) (out : List ℕ) : Type 0 where
  pub right : check_of (form_of t) ≡ right_form
  pub clean : fault_of (known_by (length t) (form_of t)) ≡ length t
  pub sizes : Sizes zs (known_by (length t) (form_of t)).definitions
  pub long : length zs ≡ 32
  pub limits : within_limits (known_by (length t) (form_of t)).definitions ≡ true
  pub early : end ≤ 1000
  pub room : end + length (code_of (known_by (length t) (form_of t)).definitions) ≤ length out

-- ---- the tables before the commands

-- the shapes, and the entries from reactor j on, of definitions of these sizes
unfoldable pub shapes_by : List Size → List ℕ
shapes_by [] = []
shapes_by (z ∷ zs) = (z.parameters ∷ z.sinks ∷ replicate 14 0) ++ shapes_by zs

unfoldable pub entries_by : ℕ → List Size → List ℕ
entries_by j [] = []
entries_by j (z ∷ zs) = j ∷ z.declared ∷ z.running ∷ 0 ∷ entries_by (j + 1) zs

-- g sources
unfoldable pub tables_of : List Size → ℕ → List ℕ
tables_of zs g = header_bytes (length zs) g ++ (replicate g 0 ++ (shapes_by zs ++ entries_by 0 zs))
