-- The kinds that the check finds are those that the theorem about turns speaks of: `kind_of`, `shape_there`. Proved in
-- proofs/Exact/Reactor.antt: `kinds_agree`.
use Rattle.std.specs.Prelude.{ℕ, ◌≤◌, ◌<◌, ◌≡◌, ◌↔◌, true, List}
use Rattle.program.specs.Bytes.{reactors, commands_in}
use Rattle.program.specs.Location.{command_loc, shape_there}
use Rattle.program.specs.Kind.{kind_of}
use Rattle.load.specs.Scan.{kind_at, is_value, is_point, is_deployment, scan_of, begin_of}
use Rattle.load.specs.Rules.{IsValue, TablesRight}
use Rattle.load.specs.declared.Scan.{Scan}

-- what the tables of reactor r hold after its first k commands: where a value stands, its kind, and the shape of each
-- deployment and branch point
pub record KindsAgree (p : List ℕ) (r k : ℕ) (s : Scan) : Type 0 where
  pub value_where : (l : ℕ) → (is_value s l ≡ true) ↔ IsValue p r (command_loc p r k) l
  pub value_kind : (l : ℕ) → is_value s l ≡ true → kind_at s l ≡ kind_of p r l
  pub deployment_shape : (l : ℕ) → is_deployment s l ≡ true → kind_at s l ≡ shape_there p r l
  pub shape_at_point : (l : ℕ) → is_point s l ≡ true → kind_at s l ≡ shape_there p r l

-- Where none of the first k commands is refused, they hold that.
abbrev pub KindsFound : Type 0
KindsFound =
    (p : List ℕ) (r k : ℕ) → TablesRight p → r < reactors p → k ≤ commands_in p r
    → (scan_of k p r (begin_of p r)).code ≡ 0 → KindsAgree p r k (scan_of k p r (begin_of p r)).scan
