-- 5.2, 5.3 Why a program is refused: of all its faults the first, by number and place.
-- All is said by positions: nothing here speaks of tests that compute, of their ladder or of the scan.
use Rattle.std.specs.Prelude.{ℕ, ◌+◌, ◌≤◌, ◌<◌, ◌≡◌, ◌⊎◌, ◌↔◌, ◌≢◌, List, length, Err}
use Rattle.value.specs.Value.{number_kind, truth_kind, reactor_kind}
use Rattle.value.specs.Primitive.{row_of, table, operands, remainder}
use Rattle.value.specs.declared.Takes.{Takes}
use Rattle.value.specs.declared.Takes.TheVariants.{TwoNumbers, OneTruth, TwoTruths, OneOfAny, TruthThenTwo, TwoAlike}
use Rattle.program.specs.Bytes.{byte, most_bytes, most_shapes, most_reactors, most_globals, header_end, shapes, reactors}
use Rattle.program.specs.Bytes.{globals, global_kind, shape_at, sources_in, sinks_in, source_kind, sink_kind, entry_at}
use Rattle.program.specs.Bytes.{shape_of, commands_d, commands_r, main_of, commands_in, tables_end, whole_length, command_at}
use Rattle.program.specs.Command.{Cmd, Sequence, cmd_of, bytes_of, sequence_of, D, R, neither, alloc_mono, make_poly}
use Rattle.program.specs.Command.{constant, global, supply, react, consume, sink, alloc_poly, primitive, cell, fetch}
use Rattle.program.specs.Command.{keep, none, gives}
use Rattle.program.specs.Location.{sink_count, command_loc, shape_there}
use Rattle.program.specs.Kind.{kind_of, Content}
use Rattle.answer.specs.Answer.{refusal_number, refusal_place, number_of}
use Rattle.load.specs.Check.{check_of}
use Rattle.load.specs.Rules.{HeaderRule, MainRule, ZeroBytes, IsValue, IsDeployment, IsPoint, IsCell, Reacts}
use Rattle.load.specs.Rules.{Allocates, Keeps, Sets, ReactorRule, TablesRight}
use Rattle.load.specs.Order.{Never, OutOfOrder}
use Rattle.answer.specs.declared.Refusal.{Refusal}

-- ---- bytes of the header and the tables: where, and what is wrong there

abbrev pub Between : ℕ → ℕ → ℕ → Type 0
Between low high x = (low ≤ x) × (x ≤ high)

-- 2.6 k may be the kind of port x, where shape s has `count` of them: below the kind of s itself, or 0 if x is not used
abbrev pub Port : ℕ → ℕ → ℕ → ℕ → Type 0
Port s count x k = (x < count → k < reactor_kind s) × (count ≤ x → k ≡ 0)

module _ (p : List ℕ) where
  pub data HeaderFault : ℕ → Type 0 where
    format : byte p 0 ≢ 1 → HeaderFault 0
    shape_count : (Between 1 most_shapes (shapes p) → ⊥) → HeaderFault 1
    reactor_count : (Between 1 most_reactors (reactors p) → ⊥) → HeaderFault 2
    global_count : most_globals < globals p → HeaderFault 3
    spare_header : {i : ℕ} → 4 ≤ i → i < header_end → byte p i ≢ 0 → HeaderFault i

  -- 5.12 Which bytes of the tables are at fault: those of globals (2.4), shapes (2.5, 2.6) and entries (2.7). A shape
  -- that main cannot have (2.8) is a fault of main's entry.
  pub data TableFault : ℕ → Type 0 where
    kind_of_global : {x : ℕ} → 1 ≤ x → x ≤ globals p → truth_kind < global_kind p x → TableFault (7 + x)
    count_of_sources : {s : ℕ} → s < shapes p → 7 < sources_in p s → TableFault (shape_at p s)
    count_of_sinks : {s : ℕ} → s < shapes p → (Between 1 7 (sinks_in p s) → ⊥) → TableFault (shape_at p s + 1)
    kind_of_source : {s x : ℕ} → s < shapes p → x < 7 → (Port s (sources_in p s) x (source_kind p s x) → ⊥)
        → TableFault (shape_at p s + 2 + x)
    kind_of_sink : {s x : ℕ} → s < shapes p → x < 7 → (Port s (sinks_in p s) x (sink_kind p s x) → ⊥)
        → TableFault (shape_at p s + 9 + x)
    no_shape : {r : ℕ} → r < reactors p → shapes p ≤ shape_of p r → TableFault (entry_at p r)
    main_shape : shape_of p (main_of p) < shapes p → (MainRule p → ⊥) → TableFault (entry_at p (main_of p))
    d_count : {r : ℕ} → r < reactors p → 32 < commands_d p r → TableFault (entry_at p r + 1)
    r_count : {r : ℕ} → r < reactors p → (Between 1 128 (commands_r p r) → ⊥) → TableFault (entry_at p r + 2)
    spare_entry : {r : ℕ} → r < reactors p → byte p (entry_at p r + 3) ≢ 0 → TableFault (entry_at p r + 3)

-- i is at fault, and no place before it is
abbrev pub Lowest : (ℕ → Type 0) → ℕ → Type 0
Lowest F i = F i × ((j : ℕ) → j < i → F j → ⊥)

-- ---- a command, held against those before it

-- a primitive's operands may have the kinds i, j, k
abbrev pub KindsFit : Takes → ℕ → ℕ → ℕ → Type 0
KindsFit TwoNumbers i j k = (i ≡ number_kind) × (j ≡ number_kind)
KindsFit OneTruth i j k = i ≡ truth_kind
KindsFit TwoTruths i j k = (i ≡ truth_kind) × (j ≡ truth_kind)
KindsFit OneOfAny i j k = Unit {0}
KindsFit TruthThenTwo i j k = (i ≡ truth_kind) × (j ≡ k)
KindsFit TwoAlike i j k = i ≡ j

-- 3: the range of x, and the content of a constant and of a fresh cell
abbrev pub Ranged : List ℕ → Cmd → Type 0
Ranged p (alloc_mono x) = x < reactors p
Ranged p (make_poly x) = x < shapes p
Ranged p (cell x v) = (x ≤ truth_kind) × Content p x v
Ranged p (gives (constant x v)) = (x < reactor_kind (shapes p)) × Content p x v
Ranged p (gives (global x)) = x ≤ globals p
Ranged p (gives (consume x b)) = Unit {0}
Ranged p (gives (primitive x a b c)) = x < length table
Ranged p (gives (fetch b)) = Unit {0}
Ranged p (supply x a b) = Unit {0}
Ranged p (react b) = Unit {0}
Ranged p (sink x a) = Unit {0}
Ranged p (alloc_poly a b) = Unit {0}
Ranged p (keep a b) = Unit {0}
Ranged p none = ⊥

-- 25: not withdrawn
abbrev pub Remaining : Cmd → Type 0
Remaining (alloc_mono x) = Unit {0}
Remaining (make_poly x) = Unit {0}
Remaining (cell x v) = Unit {0}
Remaining (gives (constant x v)) = Unit {0}
Remaining (gives (global x)) = Unit {0}
Remaining (gives (consume x b)) = Unit {0}
Remaining (gives (primitive x a b c)) = x ≢ remainder
Remaining (gives (fetch b)) = Unit {0}
Remaining (supply x a b) = Unit {0}
Remaining (react b) = Unit {0}
Remaining (sink x a) = Unit {0}
Remaining (alloc_poly a b) = Unit {0}
Remaining (keep a b) = Unit {0}
Remaining none = Unit {0}

-- a command's operands are where they may be, if this is said by `value` of a value operand's location, by `deployment`
-- of a deployment operand's, by `point` of a branch point's and by `cells` of a cell's
abbrev pub Placed : (ℕ → Type 0) → (ℕ → Type 0) → (ℕ → Type 0) → (ℕ → Type 0) → Cmd → Type 0
Placed value deployment point cells (alloc_mono x) = Unit {0}
Placed value deployment point cells (make_poly x) = Unit {0}
Placed value deployment point cells (cell x v) = Unit {0}
Placed value deployment point cells (gives (constant x v)) = Unit {0}
Placed value deployment point cells (gives (global x)) = Unit {0}
Placed value deployment point cells (gives (consume x b)) = deployment b
Placed value deployment point cells (gives (primitive x a b c)) =
    value a × ((operands x < 2) ⊎ value b) × ((operands x < 3) ⊎ value c)
Placed value deployment point cells (gives (fetch b)) = cells b
Placed value deployment point cells (supply x a b) = value a × deployment b
Placed value deployment point cells (react b) = deployment b
Placed value deployment point cells (sink x a) = value a
Placed value deployment point cells (alloc_poly a b) = value a × point b
Placed value deployment point cells (keep a b) = value a × cells b
Placed value deployment point cells none = Unit {0}

-- 5: ports exist, and kinds agree
abbrev pub Agreed : List ℕ → ℕ → Cmd → Type 0
Agreed p r (alloc_mono x) = Unit {0}
Agreed p r (make_poly x) = Unit {0}
Agreed p r (cell x v) = Unit {0}
Agreed p r (gives (constant x v)) = Unit {0}
Agreed p r (gives (global x)) = Unit {0}
Agreed p r (gives (consume x b)) = x < sinks_in p (shape_there p r b)
Agreed p r (gives (primitive x a b c)) = KindsFit (row_of x).takes (kind_of p r a) (kind_of p r b) (kind_of p r c)
Agreed p r (gives (fetch b)) = Unit {0}
Agreed p r (supply x a b) =
    (x < sources_in p (shape_there p r b)) × (kind_of p r a ≡ source_kind p (shape_there p r b) x)
Agreed p r (react b) = Unit {0}
Agreed p r (sink x a) = (x < sink_count p r) × (kind_of p r a ≡ sink_kind p (shape_of p r) x)
Agreed p r (alloc_poly a b) = kind_of p r a ≡ reactor_kind (shape_there p r b)
Agreed p r (keep a b) = kind_of p r a ≡ kind_of p r b
Agreed p r none = Unit {0}

module _ (p : List ℕ) (r k : ℕ) where
  -- 3: the sequence
  abbrev pub InSequence : Sequence → Type 0
  InSequence D = k < commands_d p r
  InSequence R = k < commands_d p r → ⊥
  InSequence neither = ⊥

  -- all that 3 asks
  abbrev pub Formed : Cmd → Type 0
  Formed c = InSequence (sequence_of c) × ZeroBytes (bytes_of p r k) c × Ranged p c

  -- 4. What comes after command k is not read yet: a deployment, a branch point and a cell, too, stand before it.
  abbrev pub Located : Cmd → Type 0
  Located =
      let l = command_loc p r k in
      Placed (IsValue p r l) (λ b. (b < l) × IsDeployment p r l b) (λ b. (b < l) × IsPoint p r b)
      (λ b. (b < l) × IsCell p r b)

  -- the number of the first test that command c fails at k: 3, 25, 4, 5, then its order
  pub data First (c : Cmd) : ℕ → Type 0 where
    misformed : (Formed c → ⊥) → First c 3
    withdrawn : Formed c → (Remaining c → ⊥) → First c 25
    misplaced : Formed c → Remaining c → (Located c → ⊥) → First c 4
    unlike : Formed c → Remaining c → Located c → (Agreed p r c → ⊥) → First c 5
    disordered : {n : ℕ} → Formed c → Remaining c → Located c → Agreed p r c → OutOfOrder p r k c n → First c n

module _ (p : List ℕ) (r : ℕ) where
  -- none of reactor r's first k commands fails a test
  abbrev pub Passed : ℕ → Type 0
  Passed k = (i n : ℕ) → i < k → First p r i (cmd_of p r i) n → ⊥

  -- 7: what is missing at the reactor's end
  pub data Lacks : Type 0 where
    react_missing : {b : ℕ} → IsDeployment p r (command_loc p r (commands_in p r)) b
        → Never p r (Reacts p r b) (commands_in p r) → Lacks
    poly_missing : {b : ℕ} → IsPoint p r b → Never p r (Allocates p r b) (commands_in p r) → Lacks
    keep_missing : {b : ℕ} → IsCell p r b → Never p r (Keeps p r b) (commands_in p r) → Lacks
    sink_missing : {x : ℕ} → x < sink_count p r → Never p r (Sets p r x) (commands_in p r) → Lacks

-- ---- a program

module _ (p : List ℕ) where
  -- header and tables are right, and so is every reactor before r
  abbrev pub Reached : ℕ → Type 0
  Reached r = TablesRight p × (r < reactors p) × ((q : ℕ) → q < r → ReactorRule p q)

  -- by number and place
  pub data Fault : ℕ → ℕ → Type 0 where
    length_wrong : (Between header_end most_bytes (length p) → ⊥) → Fault 1 (length p)
    header_byte : {i : ℕ} → Between header_end most_bytes (length p) → Lowest (HeaderFault p) i → Fault 2 i
    tables_cut : Between header_end most_bytes (length p) → HeaderRule p → length p < tables_end p → Fault 1 (length p)
    byte_of_table : {i : ℕ} → Between (tables_end p) most_bytes (length p) → HeaderRule p → Lowest (TableFault p) i
        → Fault 2 i
    not_whole : Between (tables_end p) most_bytes (length p) → HeaderRule p → ((i : ℕ) → TableFault p i → ⊥)
        → length p ≢ whole_length p → Fault 1 (length p)
    command : {r k n : ℕ} → Reached r → k < commands_in p r → Passed p r k → First p r k (cmd_of p r k) n
        → Fault n (command_at p r k)
    missing : {r : ℕ} → Reached r → Passed p r (commands_in p r) → Lacks p r → Fault 7 (entry_at p r)

-- ---- proved in proofs/Exact/Faults.antt: an element of each of these types

-- 5.2 The check refuses for the first fault, with its number and place.
abbrev pub FirstFault : Type 0
FirstFault = (p : List ℕ) (w : Refusal) → (check_of p ≡ Err w) ↔ Fault p (refusal_number w) (refusal_place w)

-- 5.7 The numbers that the check can give at all.
abbrev pub CheckNumber : ℕ → Type 0
CheckNumber n = (n ≤ 7) ⊎ Between 19 21 n ⊎ (n ≡ 25)

abbrev pub CheckNumbers : Type 0
CheckNumbers = (p : List ℕ) → CheckNumber (number_of (check_of p))
