-- What the rules give of one reactor, position by position, for a proof about its run. `Static`: what stands before
-- each command. `Single`: what comes once.
use Rattle.std.specs.Prelude.{ℕ, ◌≤◌, ◌<◌, ◌≡◌, ◌⊎◌, true, false, List}
use Rattle.std.proofs.Common.{sym, ◌∙◌, ap, subst, arith}
use Rattle.value.specs.Value.{reactor_kind, truth_kind}
use Rattle.value.specs.Primitive.{row_of, operands, kind_given, Offered}
use Rattle.program.specs.Bytes.{shapes, reactors, globals, global_kind, shape_of, sources_in, sinks_in, commands_d}
use Rattle.program.specs.Bytes.{commands_in}
use Rattle.program.specs.Command.{cmd_of, sequence_of, gives_value, D, R, alloc_mono, make_poly, constant, global, supply}
use Rattle.program.specs.Command.{react, consume, sink, alloc_poly, primitive, cell, fetch, keep, gives}
use Rattle.program.specs.Location.{source_count, sink_count, command_loc, sink_loc, cmd_at, shape_there, HasSlot}
use Rattle.program.specs.Kind.{kind_of, Content}
use Rattle.program.proofs.Slots.{slot_d}
use Rattle.load.specs.Fault.{KindsFit}
use Rattle.load.proofs.Exact.Places.{cmd_there}

module _ (p : List ℕ) (r : ℕ) where
  -- location a has a value when command i runs
  pub data ValueBefore (i : ℕ) : ℕ → Type 0 where
    source : {a : ℕ} → a < source_count p r → ValueBefore i a
    made : {a : ℕ} (j : ℕ) → j < i → a ≡ command_loc p r j → gives_value (cmd_of p r j) ≡ true → ValueBefore i a

  -- location b is that of a deployment of shape s when command i runs
  pub data DeploymentBefore (i s : ℕ) : ℕ → Type 0 where
    mono : {b : ℕ} (j x : ℕ) → j < i → b ≡ command_loc p r j → cmd_of p r j ≡ alloc_mono x →
        shape_of p x ≡ s → DeploymentBefore i s b
    poly : {b : ℕ} (j a e : ℕ) → j < i → b ≡ command_loc p r j → cmd_of p r j ≡ alloc_poly a e →
        shape_there p r e ≡ s → DeploymentBefore i s b

  -- location b is that of a branch point of shape s when command i runs
  abbrev pub PointBefore : ℕ → ℕ → ℕ → Type 0
  PointBefore i s b = (j : ℕ) × (j < i) × (j < commands_d p r) × (b ≡ command_loc p r j) × (cmd_of p r j ≡ make_poly s)

  -- location b is that of a cell of kind k when command i runs
  pub record CellBefore (i k b : ℕ) : Type 0 where
    pub index : ℕ
    pub bits : ℕ
    pub before : index < i
    pub low : index < commands_d p r
    pub place : b ≡ command_loc p r index
    pub is : cmd_of p r index ≡ cell k bits

  -- what stands before each command, with its kinds
  pub record Static : Type 0 where
    pub in_d : (i : ℕ) → i < commands_d p r → sequence_of (cmd_of p r i) ≡ D
    pub in_r : (i : ℕ) → commands_d p r ≤ i → i < commands_in p r → sequence_of (cmd_of p r i) ≡ R
    pub monos : (i x : ℕ) → i < commands_in p r → cmd_of p r i ≡ alloc_mono x →
        (i < commands_d p r) × (x < reactors p) × (x < r)
    pub points : (i s : ℕ) → i < commands_in p r → cmd_of p r i ≡ make_poly s → (i < commands_d p r) × (s < shapes p)
    pub constants : (i k v : ℕ) → i < commands_in p r → cmd_of p r i ≡ gives (constant k v) →
        (kind_of p r (command_loc p r i) ≡ k) × (k < reactor_kind (shapes p)) × Content p k v
    pub globals : (i x : ℕ) → i < commands_in p r → cmd_of p r i ≡ gives (global x) →
        (kind_of p r (command_loc p r i) ≡ global_kind p x) × (x ≤ globals p)
    pub supplies : (i x a b : ℕ) → i < commands_in p r → cmd_of p r i ≡ supply x a b → ValueBefore i a × ((s : ℕ)
        × DeploymentBefore i s b × (x < sources_in p s) × ((q : ℕ) → shape_of p q ≡ s → kind_of p q x ≡ kind_of p r a))
    pub reacts : (i b : ℕ) → i < commands_in p r → cmd_of p r i ≡ react b → (s : ℕ) × DeploymentBefore i s b
        × ((x : ℕ) → x < sources_in p s → (j : ℕ) × (a : ℕ) × (j < i) × (cmd_of p r j ≡ supply x a b))
    pub consumes : (i x b : ℕ) → i < commands_in p r → cmd_of p r i ≡ gives (consume x b) →
        (s : ℕ) × DeploymentBefore i s b × (x < sinks_in p s) × ((j : ℕ) × (j < i) × (cmd_of p r j ≡ react b))
        × ((q : ℕ) → shape_of p q ≡ s → kind_of p q (sink_loc p q x) ≡ kind_of p r (command_loc p r i))
    pub sinks_of_lem : (i x a : ℕ) → i < commands_in p r → cmd_of p r i ≡ sink x a →
        ValueBefore i a × (x < sink_count p r) × (kind_of p r (sink_loc p r x) ≡ kind_of p r a)
    pub polys : (i a b : ℕ) → i < commands_in p r → cmd_of p r i ≡ alloc_poly a b →
        ValueBefore i a × ((s : ℕ) × PointBefore i s b × (kind_of p r a ≡ reactor_kind s))
    pub primitives : (i x a b c : ℕ) → i < commands_in p r → cmd_of p r i ≡ gives (primitive x a b c) →
        Offered x × ValueBefore i a × ((operands x < 2) ⊎ ValueBefore i b) × ((operands x < 3) ⊎ ValueBefore i c)
        × KindsFit (row_of x).takes (kind_of p r a) (kind_of p r b) (kind_of p r c)
        × (kind_of p r (command_loc p r i) ≡ kind_given (row_of x).gives (kind_of p r b))
    pub cells : (i k v : ℕ) → i < commands_in p r → cmd_of p r i ≡ cell k v →
        (i < commands_d p r) × (kind_of p r (command_loc p r i) ≡ k) × (k ≤ truth_kind) × Content p k v
    pub fetches : (i b : ℕ) → i < commands_in p r → cmd_of p r i ≡ gives (fetch b) →
        CellBefore i (kind_of p r b) b × (kind_of p r (command_loc p r i) ≡ kind_of p r b)
    pub keeps : (i a b : ℕ) → i < commands_in p r → cmd_of p r i ≡ keep a b →
        ValueBefore i a × CellBefore i (kind_of p r b) b × (kind_of p r a ≡ kind_of p r b)
    -- a command that gives no value has no reactor's kind
    pub no_kind : (i : ℕ) → i < commands_in p r → gives_value (cmd_of p r i) ≡ false →
        kind_of p r (command_loc p r i) ≤ truth_kind

  -- what comes once, and what does not fail to come
  pub record Single : Type 0 where
    pub one_supply : (i k x a a' b : ℕ) → i < commands_in p r → k < commands_in p r → cmd_of p r i ≡ supply x a b →
        cmd_of p r k ≡ supply x a' b → i ≡ k
    pub one_react : (i k b : ℕ) → i < commands_in p r → k < commands_in p r → cmd_of p r i ≡ react b →
        cmd_of p r k ≡ react b → i ≡ k
    pub one_sink : (i k x a a' : ℕ) → i < commands_in p r → k < commands_in p r → cmd_of p r i ≡ sink x a →
        cmd_of p r k ≡ sink x a' → i ≡ k
    pub one_poly : (i k a a' b : ℕ) → i < commands_in p r → k < commands_in p r → cmd_of p r i ≡ alloc_poly a b →
        cmd_of p r k ≡ alloc_poly a' b → i ≡ k
    pub one_keep : (i k a a' b : ℕ) → i < commands_in p r → k < commands_in p r → cmd_of p r i ≡ keep a b →
        cmd_of p r k ≡ keep a' b → i ≡ k
    pub supply_first : (i k x a b : ℕ) → i < commands_in p r → k < commands_in p r → cmd_of p r i ≡ supply x a b →
        cmd_of p r k ≡ react b → i < k
    pub react_first : (i k x b : ℕ) → i < commands_in p r → k < commands_in p r → cmd_of p r i ≡ gives (consume x b) →
        cmd_of p r k ≡ react b → k < i
    pub all_react : (b s : ℕ) → DeploymentBefore (commands_in p r) s b →
        (i : ℕ) × (i < commands_in p r) × (cmd_of p r i ≡ react b)
    pub all_sinks : (x : ℕ) → x < sink_count p r → (i : ℕ) × (a : ℕ) × (i < commands_in p r) × (cmd_of p r i ≡ sink x a)
    pub all_cells : (b s : ℕ) → CellBefore (commands_in p r) s b →
        (i : ℕ) × (a : ℕ) × (i < commands_in p r) × (cmd_of p r i ≡ keep a b)
    pub all_points : (b s : ℕ) → PointBefore (commands_in p r) s b →
        (i : ℕ) × (a : ℕ) × (i < commands_in p r) × (cmd_of p r i ≡ alloc_poly a b)

  -- a cell's location has its Cell, and a slot
  module _ {i k b : ℕ} (c : CellBefore i k b) where
    pub cell_command : i ≤ commands_in p r → cmd_at p r b ≡ cell k c.bits
    cell_command h =
        ap (cmd_at p r) c.place ∙ cmd_there p r c.index (omega (arith, c.before)) ∙ c.is

    pub cell_slot : HasSlot p r b
    cell_slot = subst (HasSlot p r) (sym c.place) (slot_d p r c.index c.low)
