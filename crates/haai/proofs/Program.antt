-- The program of a tree, read by the accessors: its header, shapes, entries and commands are those of the tree.
use Rattle.std.specs.Prelude.{ℕ, zero, suc, ◌+◌, ◌-◌, ◌*◌, ◌≤◌, ◌<◌, ◌≡◌, refl, List, ◌++◌, length}
use Rattle.std.proofs.Common.{sym, ◌∙◌, ap}
use Rattle.std.specs.Prelude.{get_or, replicate}
use Rattle.std.proofs.Common.{arith}
use lib.ListN.{length-append, get_or-replicate, length-replicate}
use Rattle.program.specs.Bytes.{byte, reactors, shapes, globals, shape_at, sources_in, sinks_in, source_kind, sink_kind}
use Rattle.program.specs.Bytes.{entry_at, shape_of, commands_d, commands_r, commands_in, tables_end, commands_at, whole_length}
use Rattle.program.specs.Bytes.{command_at}
use Rattle.program.specs.Command.{Cmd, bytes_at, bytes_of, decode, cmd_of}
use Rattle.program.specs.Command as C
use Rattle.program.specs.Encode.{encode, Small}
use Rattle.program.specs.Location.{source_count, sink_count}
use Rattle.program.proofs.Encode.{byte_left, byte_right, command_inside, reads_back}
use Rattle.haai.specs.Syntax as S
use Rattle.haai.specs.Syntax.{Definition, Text}
use Rattle.haai.specs.Emit.{declares_all, calls, locations_of, runs_all, sinks_from, declared, running, first_r}
use Rattle.haai.specs.Emit.{sequence_d, sequence_r, commands_of, shape_bytes, shapes_of, entries_from, code_of}
use Rattle.haai.specs.Emit.{header_bytes, program_of}
use Rattle.haai.proofs.Lists.{length_sinks, length_locations, length_runs_all}
use Rattle.haai.proofs.Formed.{nth}
use Rattle.haai.proofs.Placing.{length_shapes, length_entries, shape_inside, entry_bytes, entry_inside, before}
use Rattle.haai.proofs.Placing.{before_first, before_next, code_inside, length_code, as_command}

pub length_commands : (f : Definition) → length (commands_of f) ≡ declared f + running f
unfolding commands_of sequence_d sequence_r declared running calls
length_commands f =
    let ls = locations_of (first_r f) 0 f.body in
    let rs = runs_all f.parameters (first_r f) f.body 0 0 in
    let a = length-append (declares_all f.body) (rs ++ sinks_from 0 ls) in
    let b = length-append rs (sinks_from 0 ls) in
    let c = length_runs_all f.parameters (first_r f) f.body 0 0 in
    let d = length_sinks 0 ls in
    let e = length_locations (first_r f) 0 f.body in
    omega arith

module _ (x : Text) where
  abbrev p : List ℕ
  p = program_of x

  abbrev ds : List Definition
  ds = x.definitions

  abbrev n : ℕ
  n = length x.definitions

  abbrev g : ℕ
  g = x.sources

  abbrev code : List ℕ
  code = code_of x.definitions

  abbrev tables : List ℕ
  tables = shapes_of x.definitions ++ (entries_from 0 x.definitions ++ code_of x.definitions)

  -- ---- the header

  pub shapes_are : shapes p ≡ n
  unfolding shapes byte program_of header_bytes
  shapes_are = refl

  pub reactors_are : reactors p ≡ n
  unfolding reactors byte program_of header_bytes
  reactors_are = refl

  pub globals_are : globals p ≡ g
  unfolding globals byte program_of header_bytes
  globals_are = refl

  -- ---- the stretches

  past_header : (i j : ℕ) → j ≡ 8 + i → byte p j ≡ byte (replicate g 0 ++ tables) i
  unfolding program_of header_bytes
  past_header i j e = byte_right (header_bytes n g) (replicate g 0 ++ tables) 8 i j refl e

  pub in_globals : (i : ℕ) → 8 ≤ i → i < 8 + g → byte p i ≡ 0
  in_globals i h l =
      let z : i ≡ 8 + (i - 8) = omega arith in
      let k : i - 8 < g = omega arith in
      past_header (i - 8) i z
      ∙ byte_left (replicate g 0) tables (i - 8) (let q = length-replicate {A = ℕ} g 0 in omega arith)
      ∙ (unfold byte in get_or-replicate g (i - 8) 0 0 k)

  past_globals : (i j : ℕ) → j ≡ 8 + g + i → byte p j ≡ byte tables i
  past_globals i j e =
      past_header (g + i) j (omega arith)
      ∙ byte_right (replicate g 0) tables g i (g + i) (length-replicate {A = ℕ} g 0) refl

  in_shapes : (s k i : ℕ) → s < n → k < 16 → i ≡ 8 + g + 16 * s + k → byte p i ≡ byte (shape_bytes (nth ds s)) k
  in_shapes s k i h l e =
      past_globals (16 * s + k) i (omega arith)
      ∙ byte_left (shapes_of ds) (entries_from 0 ds ++ code) (16 * s + k) (let q = length_shapes ds in omega arith)
      ∙ shape_inside k l ds s (16 * s + k) h refl

  past_shapes : (i j : ℕ) → j ≡ 8 + g + 16 * n + i → byte p j ≡ byte (entries_from 0 ds ++ code) i
  past_shapes i j e =
      past_globals (16 * n + i) j (omega arith)
      ∙ byte_right (shapes_of ds) (entries_from 0 ds ++ code) (16 * n) i (16 * n + i) (length_shapes ds) refl

  in_entries : (r k i : ℕ) → r < n → k < 4 → i ≡ 8 + g + 16 * n + 4 * r + k
      → byte p i ≡ byte (entry_bytes r (nth ds r)) k
  in_entries r k i h l e =
      let z : 0 + r ≡ r = omega arith in
      past_shapes (4 * r + k) i (omega arith)
      ∙ byte_left (entries_from 0 ds) code (4 * r + k) (let q = length_entries 0 ds in omega arith)
      ∙ entry_inside k l 0 ds r (4 * r + k) h refl
      ∙ ap (λ (y : ℕ). byte (entry_bytes y (nth ds r)) k) z

  abbrev end : ℕ
  end = 8 + g + 16 * n + 4 * n

  in_code : (i j : ℕ) → j ≡ end + i → byte p j ≡ byte code i
  in_code i j e =
      past_shapes (4 * n + i) j (omega arith)
      ∙ byte_right (entries_from 0 ds) code (4 * n) i (4 * n + i) (length_entries 0 ds) refl

  -- ---- shapes and entries

  shape_place : (s : ℕ) → shape_at p s ≡ 8 + g + 16 * s
  unfolding shape_at
  shape_place s = ap (λ (y : ℕ). 8 + y + 16 * s) globals_are

  entry_place : (r : ℕ) → entry_at p r ≡ 8 + g + 16 * n + 4 * r
  unfolding entry_at
  entry_place r = let a = shape_place (shapes p) in let b = shapes_are in omega arith

  module _ (s : ℕ) (h : s < n) where
    pub sources_in_lem : sources_in p s ≡ (nth ds s).parameters
    unfolding sources_in byte shape_bytes
    sources_in_lem = in_shapes s 0 (shape_at p s) h (omega arith) (let a = shape_place s in omega arith)

    pub sinks_in_lem : sinks_in p s ≡ S.count_of (nth ds s).body
    unfolding sinks_in byte shape_bytes
    sinks_in_lem = in_shapes s 1 (shape_at p s + 1) h (omega arith) (let a = shape_place s in omega arith)

    kind_zero : (k i : ℕ) → 2 ≤ k → k < 16 → i ≡ shape_at p s + k → byte p i ≡ 0
    kind_zero k i l h₂ e = in_shapes s k i h h₂ (let a = shape_place s in omega arith) ∙ zeros k l h₂
      where
        zeros : (k : ℕ) → 2 ≤ k → k < 16 → byte (shape_bytes (nth ds s)) k ≡ 0
        zeros zero l h₂ = absurd (omega arith)
        zeros (suc zero) l h₂ = absurd (omega arith)
        zeros (suc (suc k)) l h₂ = unfold byte shape_bytes in get_or-replicate 14 k 0 0 (omega arith)

    pub kind_of_source : (y : ℕ) → y < 7 → source_kind p s y ≡ 0
    unfolding source_kind
    kind_of_source y l = kind_zero (2 + y) (shape_at p s + 2 + y) (omega arith) (omega arith) (omega arith)

    pub kind_of_sink : (y : ℕ) → y < 7 → sink_kind p s y ≡ 0
    unfolding sink_kind
    kind_of_sink y l = kind_zero (9 + y) (shape_at p s + 9 + y) (omega arith) (omega arith) (omega arith)

    pub shape_of_lem : shape_of p s ≡ s
    unfolding shape_of byte
    shape_of_lem = in_entries s 0 (entry_at p s) h (omega arith) (let a = entry_place s in omega arith)

    pub declared_is : commands_d p s ≡ declared (nth ds s)
    unfolding commands_d byte
    declared_is = in_entries s 1 (entry_at p s + 1) h (omega arith) (let a = entry_place s in omega arith)

    pub running_is : commands_r p s ≡ running (nth ds s)
    unfolding commands_r byte
    running_is = in_entries s 2 (entry_at p s + 2) h (omega arith) (let a = entry_place s in omega arith)

    pub last_zero : byte p (entry_at p s + 3) ≡ 0
    unfolding byte
    last_zero = in_entries s 3 (entry_at p s + 3) h (omega arith) (let a = entry_place s in omega arith)

    pub sources_are : source_count p s ≡ (nth ds s).parameters
    unfolding source_count
    sources_are = ap (λ (y : ℕ). sources_in p y) shape_of_lem ∙ sources_in_lem

    pub sinks_are : sink_count p s ≡ S.count_of (nth ds s).body
    unfolding sink_count
    sinks_are = ap (λ (y : ℕ). sinks_in p y) shape_of_lem ∙ sinks_in_lem

    pub commands_in_lem : commands_in p s ≡ length (commands_of (nth ds s))
    unfolding commands_in
    commands_in_lem = let a = declared_is in let b = running_is in let c = length_commands (nth ds s) in omega arith

  -- ---- commands

  commands_place : (r : ℕ) → r ≤ n → commands_at p r ≡ end + before ds r
  unfolding commands_at tables_end
  commands_place zero h =
      let a = entry_place (reactors p) in
      let b = reactors_are in
      let c = before_first ds in
      omega arith
  commands_place (suc r) h =
      let a = commands_place r (omega arith) in
      let b = before_next ds r (omega arith) in
      let c = commands_in_lem r (omega arith) in
      omega arith

  module _ (r i : ℕ) (h : r < n) (l : i < length (commands_of (nth ds r))) where
    abbrev c : Cmd
    c = get_or (commands_of (nth ds r)) i C.none

    at_byte : (k j : ℕ) → k < 8 → j ≡ command_at p r i + k → byte p j ≡ byte (encode c) k
    unfolding command_at
    at_byte k j l₂ e =
        let a = commands_place r (omega arith) in
        in_code (before ds r + (8 * i + k)) j (omega arith)
        ∙ code_inside ds r (8 * i + k) (before ds r + (8 * i + k)) h (omega arith) refl
        ∙ command_inside k l₂ (commands_of (nth ds r)) i (8 * i + k) l refl

    pub bytes_are : bytes_of p r i ≡ as_command c
    unfolding bytes_of bytes_at
    bytes_are =
        let e₀ = at_byte 0 (command_at p r i) (omega arith) (omega arith) in
        let e₁ = at_byte 1 (command_at p r i + 1) (omega arith) refl in
        let e₂ = at_byte 2 (command_at p r i + 2) (omega arith) refl in
        let e₃ = at_byte 3 (command_at p r i + 3) (omega arith) refl in
        let e₄ = at_byte 4 (command_at p r i + 4) (omega arith) refl in
        let e₅ = at_byte 5 (command_at p r i + 5) (omega arith) refl in
        let e₆ = at_byte 6 (command_at p r i + 6) (omega arith) refl in
        let e₇ = at_byte 7 (command_at p r i + 7) (omega arith) refl in
        rw (e₀, e₁, e₂, e₃, e₄, e₅, e₆, e₇)

    pub command_is : Small c → cmd_of p r i ≡ c
    unfolding cmd_of
    command_is q = ap decode bytes_are ∙ reads_back c q

  pub length_program : length p ≡ end + before ds n
  unfolding program_of header_bytes
  length_program =
      let a = length-append (replicate {A = ℕ} g 0) tables in
      let b = length-replicate {A = ℕ} g 0 in
      let c = length-append (shapes_of ds) (entries_from 0 ds ++ code) in
      let d = length_shapes ds in
      let e = length-append (entries_from 0 ds) code in
      let f = length_entries 0 ds in
      let k = length_code ds in
      omega arith

  pub whole_length_lem : length p ≡ whole_length p
  unfolding whole_length
  whole_length_lem = let r = reactors_are in let a = commands_place n (omega arith) in rw r (length_program ∙ sym a)
