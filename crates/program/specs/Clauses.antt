-- What the contracts of the code speak of beside the definitions: the codes of commands; the header as one value; and
-- what is asked of a reactor most often as one number, with a table of such numbers, filled in once for a whole call.
use Rattle.std.specs.Prelude.{ℕ, ◌/◌, ◌%◌, ◌≤◌, ◌<◌, ◌≡◌, ◌≢◌, ◌⊎◌, List, get_or, Result, MatchResult}
use Rattle.program.specs.Bytes.{most_reactors, byte, shapes, reactors, globals, commands_d, commands_r, commands_at}
use Rattle.program.specs.Command.{Cmd, v_of, alloc_mono, make_poly, constant, global, supply, react, consume, sink}
use Rattle.program.specs.Command.{alloc_poly, primitive, cell, fetch, keep, gives}
use Rattle.program.specs.declared.Command.{Command}
use Rattle.program.specs.declared.Header.{Header}
use Rattle.program.specs.declared.commands.Code.{Code}
use Rattle.program.specs.declared.commands.Code.TheVariants.{AllocMono, MakePoly, Constant, Global, Supply, React}
use Rattle.program.specs.declared.commands.Code.TheVariants.{Consume, Sink, AllocPoly, Primitive, Cell, Fetch, Keep}
use Rattle.program.specs.declared.commands.UnknownCode.{UnknownCode}
use Rattle.program.specs.Location.{source_count, sink_count, results}

-- the byte of a code
abbrev pub byte_of : Code → ℕ
byte_of AllocMono = 1
byte_of MakePoly = 2
byte_of Constant = 3
byte_of Global = 4
byte_of Supply = 5
byte_of React = 6
byte_of Consume = 7
byte_of Sink = 8
byte_of AllocPoly = 9
byte_of Primitive = 10
byte_of Cell = 11
byte_of Fetch = 12
byte_of Keep = 13

-- what a command of this code is, by the command table
abbrev pub row_of : Code → Command → Cmd
row_of AllocMono c = alloc_mono c.x
row_of MakePoly c = make_poly c.x
row_of Constant c = gives (constant c.x (v_of c))
row_of Global c = gives (global c.x)
row_of Supply c = supply c.x c.a c.b
row_of React c = react c.b
row_of Consume c = gives (consume c.x c.b)
row_of Sink c = sink c.x c.a
row_of AllocPoly c = alloc_poly c.a c.b
row_of Primitive c = gives (primitive c.x c.a c.b c.v0)
row_of Cell c = cell c.x (v_of c)
row_of Fetch c = gives (fetch c.b)
row_of Keep c = keep c.a c.b

-- n is no code's byte
abbrev pub NoCode : ℕ → Type 0
NoCode n = (n < 1) ⊎ (13 < n)

-- the result is the code with this byte, or it is no code's
abbrev pub Codes : ℕ → Result Code UnknownCode → Type 0
Codes n r = MatchResult r (λ code. byte_of code ≡ n) (λ e. NoCode n)

unfoldable pub header_of : List ℕ → Header
header_of p = record { format = byte p 0; shapes = shapes p; reactors = reactors p; globals = globals p }

-- its parts: 24 bits for the byte at which the commands begin, and 8 for each count
abbrev pub at_of : ℕ → ℕ
at_of w = w % 16777216

abbrev pub sources_of : ℕ → ℕ
sources_of w = w / 16777216 % 256

abbrev pub declared_of : ℕ → ℕ
declared_of w = w / 4294967296 % 256

abbrev pub running_of : ℕ → ℕ
running_of w = w / 1099511627776 % 256

abbrev pub results_of : ℕ → ℕ
results_of w = w / 281474976710656 % 256

abbrev pub sinks_of : ℕ → ℕ
sinks_of w = w / 72057594037927936

-- w tells of reactor r: where its commands begin, its sources, D commands, R commands, those of them that have a
-- result, and its sinks
pub record Tells (p : List ℕ) (r w : ℕ) : Type 0 where
  pub of_at : at_of w ≡ commands_at p r
  pub of_sources : sources_of w ≡ source_count p r
  pub of_declared : declared_of w ≡ commands_d p r
  pub of_running : running_of w ≡ commands_r p r
  pub of_results : results_of w ≡ results p r (commands_r p r)
  pub of_sinks : sinks_of w ≡ sink_count p r

-- a table of the reactors' numbers: one that is not 0 is right, and of a reactor; each reactor has one
pub record Facts (p t : List ℕ) : Type 0 where
  pub right : (r : ℕ) → get_or t r 0 ≢ 0 → Tells p r (get_or t r 0)
  pub legal : (r : ℕ) → get_or t r 0 ≢ 0 → r < reactors p
  pub known : (r : ℕ) → r < reactors p → Tells p r (get_or t r 0)
  pub few : reactors p ≤ most_reactors
