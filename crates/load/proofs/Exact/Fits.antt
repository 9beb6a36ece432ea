-- The rules, read as the check reads them: what one command asks of those before it. `Fits p r k c`: c may be command
-- k of reactor r.
use Rattle.std.specs.Prelude.{ℕ, ◌<◌, ◌≡◌, List}
use Rattle.program.specs.Bytes.{sources_in, commands_in}
use Rattle.program.specs.Command.{Cmd, cmd_of, bytes_of, sequence_of, alloc_mono, make_poly, constant, global, supply, react}
use Rattle.program.specs.Command.{consume, sink, alloc_poly, primitive, cell, fetch, keep, none, gives, Class, a_value}
use Rattle.program.specs.Command.{a_cell, a_point, a_deployment, a_sink, nothing}
use Rattle.program.specs.Location.{shape_there}
use Rattle.load.specs.Rules.{ZeroBytes, Supplies, Reacts, Allocates, Keeps, Sets}
use Rattle.load.specs.Order.{Never, Already}
use Rattle.load.specs.Fault.{Ranged, Remaining, Placed, Agreed, InSequence}
use Rattle.load.proofs.Exact.Places.{class_at}

module _ (p : List ℕ) (r k : ℕ) where
  abbrev pub ValueAt : ℕ → Type 0
  ValueAt a = class_at p r k a ≡ a_value

  -- 4: where the operands are, by what stands there
  abbrev pub PlacedAt : Cmd → Type 0
  PlacedAt =
      Placed ValueAt (λ b. class_at p r k b ≡ a_deployment) (λ b. class_at p r k b ≡ a_point)
      (λ b. class_at p r k b ≡ a_cell)

  -- 6: order. Neither too early nor twice nor too late.
  abbrev pub Timely : Cmd → Type 0
  Timely (alloc_mono x) = x < r
  Timely (make_poly x) = Unit {0}
  Timely (cell x v) = Unit {0}
  Timely (gives (constant x v)) = Unit {0}
  Timely (gives (global x)) = Unit {0}
  Timely (gives (consume x b)) = Already p r (Reacts p r b) k
  Timely (gives (primitive x a b c)) = Unit {0}
  Timely (gives (fetch b)) = Unit {0}
  Timely (supply x a b) = Never p r (Reacts p r b) k × Never p r (Supplies p r x b) k
  Timely (react b) =
      Never p r (Reacts p r b) k × ((x : ℕ) → x < sources_in p (shape_there p r b) → Already p r (Supplies p r x b) k)
  Timely (sink x a) = Never p r (Sets p r x) k
  Timely (alloc_poly a b) = Never p r (Allocates p r b) k
  Timely (keep a b) = Never p r (Keeps p r b) k
  Timely none = Unit {0}

  pub record Fits (c : Cmd) : Type 0 where
    pub in_its_sequence : InSequence p r k (sequence_of c)
    pub zero_bytes : ZeroBytes (bytes_of p r k) c
    pub ranged : Ranged p c
    pub remaining : Remaining c
    pub placed : PlacedAt c
    pub agreed : Agreed p r c
    pub timely : Timely c

module _ (p : List ℕ) (r : ℕ) where
  -- what may not stay open at the end, at location l
  abbrev pub Ended : ℕ → Class → Type 0
  Ended l a_value = Unit {0}
  Ended l a_cell = Already p r (Keeps p r l) (commands_in p r)
  Ended l a_point = Already p r (Allocates p r l) (commands_in p r)
  Ended l a_deployment = Already p r (Reacts p r l) (commands_in p r)
  Ended l (a_sink x) = Already p r (Sets p r x) (commands_in p r)
  Ended l nothing = Unit {0}

  -- each command fits what came before it, and nothing is missing at the end
  pub record Stepwise : Type 0 where
    pub fits : (k : ℕ) → k < commands_in p r → Fits p r k (cmd_of p r k)
    pub ended : (l : ℕ) → Ended l (class_at p r (commands_in p r) l)
