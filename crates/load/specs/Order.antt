-- 5.16, 5.29 to 5.31 Which number a command out of order has, by the commands before it. `OutOfOrder` does not speak of
-- the scan; `ExactOrder` holds the scan's test to it.
use Rattle.std.specs.Prelude.{ℕ, ◌≤◌, ◌<◌, ◌≡◌, ◌↔◌, ◌≢◌, true, List}
use Rattle.program.specs.Bytes.{reactors, sources_in, commands_in}
use Rattle.program.specs.Command.{Cmd, cmd_of, alloc_mono, supply, react, consume, sink, alloc_poly, keep, gives}
use Rattle.program.specs.Location.{shape_there}
use Rattle.load.specs.Scan.{located, agreed, disorder, scan_of, begin_of}
use Rattle.load.specs.Rules.{Supplies, Reacts, Allocates, Keeps, Sets, TablesRight}

module _ (p : List ℕ) (r : ℕ) where
  -- of reactor r's first k commands none has P
  abbrev pub Never : (Cmd → Type 0) → ℕ → Type 0
  Never P k = (i : ℕ) → i < k → P (cmd_of p r i) → ⊥

  -- one of them has
  abbrev pub Already : (Cmd → Type 0) → ℕ → Type 0
  Already P k = (i : ℕ) × (i < k) × P (cmd_of p r i)

  -- the first k commands supply every source of the deployment at b
  abbrev pub Supplied : ℕ → ℕ → Type 0
  Supplied b k = (x : ℕ) → x < sources_in p (shape_there p r b) → Already (Supplies p r x b) k

  -- c as command k is refused by number n
  pub data OutOfOrder (k : ℕ) : Cmd → ℕ → Type 0 where
    source_again : {x a b : ℕ} → Never (Reacts p r b) k → Already (Supplies p r x b) k → OutOfOrder k (supply x a b) 6
    sink_again : {x a : ℕ} → Already (Sets p r x) k → OutOfOrder k (sink x a) 6
    early_react : {b : ℕ} → Never (Reacts p r b) k → (Supplied b k → ⊥) → OutOfOrder k (react b) 19
    early_consume : {x b : ℕ} → Never (Reacts p r b) k → OutOfOrder k (gives (consume x b)) 19
    late_supply : {x a b : ℕ} → Already (Reacts p r b) k → OutOfOrder k (supply x a b) 20
    second_react : {b : ℕ} → Already (Reacts p r b) k → OutOfOrder k (react b) 20
    second_poly : {a b : ℕ} → Already (Allocates p r b) k → OutOfOrder k (alloc_poly a b) 20
    second_keep : {a b : ℕ} → Already (Keeps p r b) k → OutOfOrder k (keep a b) 20
    not_lower : {x : ℕ} → r ≤ x → OutOfOrder k (alloc_mono x) 21

-- Where none of the first k commands is refused, nor command k by 4 or 5: its order is tested exactly so. Proved in
-- proofs/Exact/Order.antt.
abbrev pub ExactOrder : List ℕ → Type 0
ExactOrder p =
    TablesRight p → (r k n : ℕ) → r < reactors p → k < commands_in p r → n ≢ 0 →
    (scan_of k p r (begin_of p r)).code ≡ 0 →
    located (scan_of k p r (begin_of p r)).scan (cmd_of p r k) ≡ true →
    agreed p r (scan_of k p r (begin_of p r)).scan (cmd_of p r k) ≡ true →
    (disorder p r (scan_of k p r (begin_of p r)).scan (cmd_of p r k) ≡ n) ↔ OutOfOrder p r k (cmd_of p r k) n
