-- 2.30 Which programs are to be accepted, as a proposition. Nothing here speaks of the scan; positions in a reactor's
-- command list (D then R, from 0) do.
use Rattle.std.specs.Prelude.{ℕ, ◌+◌, ◌≤◌, ◌<◌, ◌≡◌, ◌⊎◌, ◌↔◌, true, List, length, Ok}
use Rattle.value.specs.Value.{number_kind, truth_kind, reactor_kind}
use Rattle.value.specs.Primitive.{row_of, operands, Offered}
use Rattle.value.specs.declared.Takes.{Takes}
use Rattle.value.specs.declared.Takes.TheVariants.{TwoNumbers, OneTruth, TwoTruths, OneOfAny, TruthThenTwo, TwoAlike}
use Rattle.program.specs.Bytes.{byte, most_bytes, most_shapes, most_reactors, most_globals, shapes, reactors, globals}
use Rattle.program.specs.Bytes.{global_kind, sources_in, sinks_in, source_kind, sink_kind, entry_at, shape_of, commands_d}
use Rattle.program.specs.Bytes.{commands_r, main_of, commands_in, whole_length}
use Rattle.program.specs.Command.{Cmd, cmd_of, bytes_of, v_of, sequence_of, gives_value, D, R, alloc_mono, make_poly, constant}
use Rattle.program.specs.Command.{global, supply, react, consume, sink, alloc_poly, primitive, cell, fetch, keep, none}
use Rattle.program.specs.Command.{gives}
use Rattle.program.specs.Location.{source_count, sink_count, command_loc, size_of, cmd_at, shape_there}
use Rattle.program.specs.Kind.{kind_of, Content}
use Rattle.program.specs.declared.Command.{Command}
use Rattle.load.specs.Check.{check_of, IsAccepted}

-- ---- header and tables

-- 2.3 The header's eight bytes.
pub record HeaderRule (p : List ℕ) : Type 0 where
  pub format : byte p 0 ≡ 1
  pub some_shape : 1 ≤ shapes p
  pub few_shapes : shapes p ≤ most_shapes
  pub some_reactor : 1 ≤ reactors p
  pub few_reactors : reactors p ≤ most_reactors
  pub few_globals : globals p ≤ most_globals
  pub zeros : (i : ℕ) → 4 ≤ i → i < 8 → byte p i ≡ 0

-- 2.5, 2.6 A shape: its counts, and the kinds of its ports. A port that is not there has kind 0, and a reactor among
-- the kinds is of a shape below s.
pub record ShapeRule (p : List ℕ) (s : ℕ) : Type 0 where
  pub few_sources : sources_in p s ≤ 7
  pub some_sink : 1 ≤ sinks_in p s
  pub few_sinks : sinks_in p s ≤ 7
  pub source_kinds : (x : ℕ) → x < sources_in p s → source_kind p s x < reactor_kind s
  pub sink_kinds : (x : ℕ) → x < sinks_in p s → sink_kind p s x < reactor_kind s
  pub no_source : (x : ℕ) → sources_in p s ≤ x → x < 7 → source_kind p s x ≡ 0
  pub no_sink : (x : ℕ) → sinks_in p s ≤ x → x < 7 → sink_kind p s x ≡ 0

-- 2.7 An entry: the reactor's shape and how many commands it has.
pub record EntryRule (p : List ℕ) (r : ℕ) : Type 0 where
  pub shape : shape_of p r < shapes p
  pub few_declared : commands_d p r ≤ 32
  pub some_running : 1 ≤ commands_r p r
  pub few_running : commands_r p r ≤ 128
  pub zero_byte : byte p (entry_at p r + 3) ≡ 0

-- 2.8 Which shape main may have: nothing comes in, and only numbers and truths go out.
pub record MainRule (p : List ℕ) : Type 0 where
  pub no_sources : source_count p (main_of p) ≡ 0
  pub plain_sinks : (x : ℕ) → x < sink_count p (main_of p) → sink_kind p (shape_of p (main_of p)) x ≤ truth_kind

-- ---- one command

-- 2.13 Bytes for which a command has no use are zero.
abbrev pub ZeroBytes : Command → Cmd → Type 0
ZeroBytes c (alloc_mono x) = (c.a ≡ 0) × (c.b ≡ 0) × (v_of c ≡ 0)
ZeroBytes c (make_poly x) = (c.a ≡ 0) × (c.b ≡ 0) × (v_of c ≡ 0)
ZeroBytes c (cell x v) = (c.a ≡ 0) × (c.b ≡ 0)
ZeroBytes c (gives (constant x v)) = (c.a ≡ 0) × (c.b ≡ 0)
ZeroBytes c (gives (global x)) = (c.a ≡ 0) × (c.b ≡ 0) × (v_of c ≡ 0)
ZeroBytes c (gives (consume x b)) = (c.a ≡ 0) × (v_of c ≡ 0)
ZeroBytes c (gives (primitive x a b d)) = (c.v1 ≡ 0) × (c.v2 ≡ 0) × (c.v3 ≡ 0) × (operands x < 2 → c.b ≡ 0)
    × (operands x < 3 → c.v0 ≡ 0)
ZeroBytes c (gives (fetch b)) = (c.x ≡ 0) × (c.a ≡ 0) × (v_of c ≡ 0)
ZeroBytes c (supply x a b) = v_of c ≡ 0
ZeroBytes c (react b) = (c.x ≡ 0) × (c.a ≡ 0) × (v_of c ≡ 0)
ZeroBytes c (sink x a) = (c.b ≡ 0) × (v_of c ≡ 0)
ZeroBytes c (alloc_poly a b) = (c.x ≡ 0) × (v_of c ≡ 0)
ZeroBytes c (keep a b) = (c.x ≡ 0) × (v_of c ≡ 0)
ZeroBytes c none = ⊥

module _ (p : List ℕ) (r : ℕ) where
  -- 2.16 What a value operand may name, an operator among them: a source, or a command before l that gives a value. l
  -- is the location of the command that names.
  abbrev pub IsValue : ℕ → ℕ → Type 0
  IsValue l a = (a < source_count p r) ⊎ ((a < l) × (gives_value (cmd_at p r a) ≡ true))

  -- 2.17 What a deployment operand may name.
  abbrev pub IsDeployment : ℕ → ℕ → Type 0
  IsDeployment l b = ((x : ℕ) × (cmd_at p r b ≡ alloc_mono x))
      ⊎ ((b < l) × ((a : ℕ) × (c : ℕ) × (cmd_at p r b ≡ alloc_poly a c)))

  -- 2.18 What a branch point operand may name.
  abbrev pub IsPoint : ℕ → Type 0
  IsPoint b = (x : ℕ) × (cmd_at p r b ≡ make_poly x)

  -- 2.19 What a cell operand may name.
  abbrev pub IsCell : ℕ → Type 0
  IsCell b = (x : ℕ) × (v : ℕ) × (cmd_at p r b ≡ cell x v)

  -- 1.10, 2.23 A primitive's operands: where they are, and their kinds.
  abbrev pub Operands : ℕ → Takes → ℕ → ℕ → ℕ → Type 0
  Operands l TwoNumbers a b c = IsValue l a × IsValue l b × (kind_of p r a ≡ number_kind) × (kind_of p r b ≡ number_kind)
  Operands l OneTruth a b c = IsValue l a × (kind_of p r a ≡ truth_kind)
  Operands l TwoTruths a b c = IsValue l a × IsValue l b × (kind_of p r a ≡ truth_kind) × (kind_of p r b ≡ truth_kind)
  Operands l OneOfAny a b c = IsValue l a
  Operands l TruthThenTwo a b c = IsValue l a × IsValue l b × IsValue l c × (kind_of p r a ≡ truth_kind)
      × (kind_of p r b ≡ kind_of p r c)
  Operands l TwoAlike a b c = IsValue l a × IsValue l b × (kind_of p r a ≡ kind_of p r b)

  -- 2.33 to 2.45 What is asked of each command: ranges of x, operands, ports (2.24), kinds (2.23), and that an
  -- AllocMono names a lower reactor (2.29). l is the command's own location.
  abbrev pub CommandRule : ℕ → Cmd → Type 0
  CommandRule l (alloc_mono x) = (x < reactors p) × (x < r)
  CommandRule l (make_poly x) = x < shapes p
  CommandRule l (cell x v) = (x ≤ truth_kind) × Content p x v
  CommandRule l (gives (constant x v)) = (x < reactor_kind (shapes p)) × Content p x v
  CommandRule l (gives (global x)) = x ≤ globals p
  CommandRule l (gives (consume x b)) = IsDeployment l b × (x < sinks_in p (shape_there p r b))
  CommandRule l (gives (primitive x a b c)) = Offered x × Operands l (row_of x).takes a b c
  CommandRule l (gives (fetch b)) = IsCell b
  CommandRule l (supply x a b) = IsValue l a × IsDeployment l b × (x < sources_in p (shape_there p r b))
      × (kind_of p r a ≡ source_kind p (shape_there p r b) x)
  CommandRule l (react b) = IsDeployment l b
  CommandRule l (sink x a) = IsValue l a × (x < sink_count p r) × (kind_of p r a ≡ sink_kind p (shape_of p r) x)
  CommandRule l (alloc_poly a b) = IsValue l a × IsPoint b × (kind_of p r a ≡ reactor_kind (shape_there p r b))
  CommandRule l (keep a b) = IsValue l a × IsCell b × (kind_of p r a ≡ kind_of p r b)
  CommandRule l none = ⊥

  -- ---- the order of commands

  -- command k is the one, among the reactor's, of which P holds
  pub record Once (P : Cmd → Type 0) (k : ℕ) : Type 0 where
    pub there : k < commands_in p r
    pub is : P (cmd_of p r k)
    pub only : (i : ℕ) → i < commands_in p r → P (cmd_of p r i) → i ≡ k

  abbrev pub Supplies : ℕ → ℕ → Cmd → Type 0
  Supplies x b c = (a : ℕ) × (c ≡ supply x a b)

  abbrev pub Reacts : ℕ → Cmd → Type 0
  Reacts b c = c ≡ react b

  abbrev pub Consumes : ℕ → Cmd → Type 0
  Consumes b c = (x : ℕ) × (c ≡ gives (consume x b))

  abbrev pub Allocates : ℕ → Cmd → Type 0
  Allocates b c = (a : ℕ) × (c ≡ alloc_poly a b)

  abbrev pub Keeps : ℕ → Cmd → Type 0
  Keeps b c = (a : ℕ) × (c ≡ keep a b)

  abbrev pub Sets : ℕ → Cmd → Type 0
  Sets x c = (a : ℕ) × (c ≡ sink x a)

  -- 2.25 A deployment: one Supply for each source, later one React, and after that Consumes, as many as there are.
  pub record Served (b : ℕ) : Type 0 where
    pub at : ℕ
    pub react : Once (Reacts b) at
    pub supplied : (x : ℕ) → x < sources_in p (shape_there p r b) → (i : ℕ) × Once (Supplies x b) i × (i < at)
    pub consumed : (i : ℕ) → i < commands_in p r → Consumes b (cmd_of p r i) → at < i

  pub record ReactorRule : Type 0 where
    -- 2.12 D codes among the D commands, R codes among the R commands.
    pub in_d : (i : ℕ) → i < commands_d p r → sequence_of (cmd_of p r i) ≡ D
    pub in_r : (i : ℕ) → commands_d p r ≤ i → i < commands_in p r → sequence_of (cmd_of p r i) ≡ R
    pub zero_bytes : (i : ℕ) → i < commands_in p r → ZeroBytes (bytes_of p r i) (cmd_of p r i)
    pub commands : (i : ℕ) → i < commands_in p r → CommandRule (command_loc p r i) (cmd_of p r i)
    pub deployments : (b : ℕ) → IsDeployment (command_loc p r (commands_in p r)) b → Served b
    -- 2.26 Of AllocPolys a branch point has one.
    pub points : (b : ℕ) → IsPoint b → (i : ℕ) × Once (Allocates b) i
    -- 2.27 Of Keeps a cell has one.
    pub cells : (b : ℕ) → IsCell b → (i : ℕ) × Once (Keeps b) i
    -- 2.28 Of Sinks an own sink has one.
    pub set : (x : ℕ) → x < sink_count p r → (i : ℕ) × Once (Sets x) i

-- ---- a program

-- header, tables and length; all but the commands
pub record TablesRight (p : List ℕ) : Type 0 where
  pub few_bytes : length p ≤ most_bytes
  pub header : HeaderRule p
  pub global_kinds : (x : ℕ) → 1 ≤ x → x ≤ globals p → global_kind p x ≤ truth_kind
  pub every_shape : (s : ℕ) → s < shapes p → ShapeRule p s
  pub entries : (r : ℕ) → r < reactors p → EntryRule p r
  pub main : MainRule p
  -- 2.2 The length follows from the counts.
  pub whole : length p ≡ whole_length p

pub record Rules (p : List ℕ) : Type 0 where
  pub tables : TablesRight p
  pub every_reactor : (r : ℕ) → r < reactors p → ReactorRule p r

-- 2.30 The check accepts exactly these programs: `exact` in proofs/Exact.antt.
abbrev pub ExactAcceptance : Type 0
ExactAcceptance = (p : List ℕ) → IsAccepted p ↔ Rules p

-- 4.4 The answer is then the size of main: `accepted_size` in proofs/Exact/Ladder.antt.
abbrev pub AcceptedSize : Type 0
AcceptedSize = (p : List ℕ) → IsAccepted p → check_of p ≡ Ok (size_of p (main_of p))
