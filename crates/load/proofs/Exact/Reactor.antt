-- `reactor_exact`: the scan of one reactor accepts exactly what the rules say. `kinds_agree`: what
-- its kind table holds on the way.
use Rattle.std.specs.Prelude.{ℕ, zero, suc, ◌+◌, ◌≤◌, ◌<◌, ◌≡◌, refl, ◌↔◌}
use Rattle.std.proofs.Common.{sym, ◌∙◌, ap, subst, ⊎_elim}
use Rattle.std.proofs.Math.Logic.Iff.{trans as iff_trans}
use Rattle.std.specs.Prelude.{List}
use Rattle.std.proofs.Common.{arith}
use native.Mathlib.Nat.{eq-or-lt_of_le}
use Rattle.program.specs.Bytes.{reactors, commands_in}
use Rattle.program.specs.Command.{cmd_of}
use Rattle.load.specs.Scan.{Scanned, scan_of, begin_of}
use Rattle.load.specs.Rules.{ReactorRule, Rules, TablesRight}
use Rattle.load.proofs.Accepted.{ReactorAccepted}
use Rattle.load.specs.Kinds.{KindsFound}
use Rattle.load.specs.declared.Scan.{Scan}
use Rattle.load.proofs.Exact.Places.{value_exact}
use Rattle.load.proofs.Exact.Fits.{Fits, Stepwise}
use Rattle.load.proofs.Exact.Rule.{rule_exact}
use Rattle.load.proofs.Exact.Holds.{Holding, value_says, point_says, deployment_says, kind_of_value}
use Rattle.load.proofs.Exact.Holds.{shape_of_deployment, shape_of_point}
use Rattle.load.proofs.Exact.PassesIfFits.{taken_exact}
use Rattle.load.proofs.Exact.TablesKept.{kept}
use Rattle.load.proofs.Exact.Begin.{begin_holding}
use Rattle.load.proofs.Exact.Complete.{complete_exact}
use Rattle.load.proofs.Exact.Scanning.{scan_taken, scan_next}

module _ (p : List ℕ) (r : ℕ) (t : TablesRight p) (low : r < reactors p) where
  -- ---- the m commands from command k up to command n

  taken_run : (m k n : ℕ) (s : Scan) → Holding p r k s → k + m ≡ n → n ≤ commands_in p r → (scan_of m p r s).code ≡ 0 →
      ((i : ℕ) → k ≤ i → i < n → Fits p r i (cmd_of p r i)) × Holding p r n (scan_of m p r s).scan
  unfolding scan_of
  taken_run zero k n s g e few z =
      let q : k ≡ n = omega arith in
      ((λ i l h. absurd (omega arith)), subst (λ j. Holding p r j s) q g)
  taken_run (suc m) k n s g e few z =
      let q = scan_taken p r m s z in
      let f : Fits p r k (cmd_of p r k) = (taken_exact g t).0 q in
      let u = scan_next p r m k s g.next q in
      let z₁ = ap (λ (v : Scanned). v.code) (sym u) ∙ z in
      let a = taken_run m (suc k) n _ (kept g (omega arith) t low f) (omega arith) few z₁ in (
        (λ i l h. ⊎_elim (λ w. subst (λ j. Fits p r j (cmd_of p r j)) w f) (λ w. a.0 i w h) (eq-or-lt_of_le l)),
        subst (λ (v : Scanned). Holding p r n v.scan) (sym u) a.1,
      )

  fitting_run : (m k n : ℕ) (s : Scan) → Holding p r k s → k + m ≡ n → n ≤ commands_in p r →
      ((i : ℕ) → k ≤ i → i < n → Fits p r i (cmd_of p r i)) → (scan_of m p r s).code ≡ 0
  unfolding scan_of
  fitting_run zero k n s g e few f = refl
  fitting_run (suc m) k n s g e few f =
      let now = f k (omega arith) (omega arith) in
      let q = (taken_exact g t).1 now in
      ap (λ (v : Scanned). v.code) (scan_next p r m k s g.next q)
      ∙ fitting_run m (suc k) n _ (kept g (omega arith) t low now) (omega arith) few (λ i l h. f i (omega arith) h)

  -- ---- the first n commands

  -- where none of the first n commands is refused, each fits, and the tables hold what they should
  pub first_run : (n : ℕ) → n ≤ commands_in p r → (scan_of n p r (begin_of p r)).code ≡ 0 →
      ((i : ℕ) → i < n → Fits p r i (cmd_of p r i)) × Holding p r n (scan_of n p r (begin_of p r)).scan
  first_run n few z =
      let a = taken_run n 0 n (begin_of p r) (begin_holding p r t low) (omega arith) few z in
      ((λ i h. a.0 i (omega arith) h), a.1)

  -- and none is refused where each fits
  pub first_fits : (n : ℕ) → n ≤ commands_in p r → ((i : ℕ) → i < n → Fits p r i (cmd_of p r i)) →
      (scan_of n p r (begin_of p r)).code ≡ 0
  first_fits n few f = fitting_run n 0 n (begin_of p r) (begin_holding p r t low) (omega arith) few (λ i l h. f i h)

  steps_exact : ReactorAccepted p r ↔ Stepwise p r
  steps_exact = (
    (λ a.
        let w = first_run (commands_in p r) (omega arith) a.0 in
        record { fits = w.0; ended = (complete_exact p r _ w.1).0 a.1 }),
    (λ u.
        let z = first_fits (commands_in p r) (omega arith) u.fits in
        (z, (complete_exact p r _ (first_run (commands_in p r) (omega arith) z).1).1 u.ended)),
  )

-- An accepted reactor is one that keeps the rules.
pub reactor_exact : (p : List ℕ) (r : ℕ) → TablesRight p → r < reactors p → ReactorAccepted p r ↔ ReactorRule p r
reactor_exact p r t low = iff_trans (steps_exact p r t low) (rule_exact p r)

-- ---- a whole program

-- The rules are those of the tables, with every reactor accepted.
pub rules_exact : (p : List ℕ) → (TablesRight p × ((r : ℕ) → r < reactors p → ReactorAccepted p r)) ↔ Rules p
rules_exact p = (
  (λ h. record { tables = h.0; every_reactor = λ r low. (reactor_exact p r h.0 low).0 (h.1 r low) }),
  (λ u. (u.tables, λ r low. (reactor_exact p r u.tables low).1 (u.every_reactor r low))),
)

-- ---- the kind table

-- the scan's kinds are those of the rules
pub kinds_agree : KindsFound
kinds_agree p r k t low few z =
    let s = (scan_of k p r (begin_of p r)).scan in
    let g = (first_run p r t low k few z).1 in
    record {
      value_where = λ l. iff_trans (value_says g l) (value_exact p r k l few);
      value_kind = λ l e. kind_of_value g l ((value_says g l).0 e);
      deployment_shape = λ l e. shape_of_deployment g l ((deployment_says g l).0 e);
      shape_at_point = λ l e. shape_of_point g l ((point_says g l).0 e);
    }

-- an accepted reactor's first k commands are among those
pub prefix_taken : (p : List ℕ) (r k : ℕ) → TablesRight p → r < reactors p → k ≤ commands_in p r →
    (scan_of (commands_in p r) p r (begin_of p r)).code ≡ 0 → (scan_of k p r (begin_of p r)).code ≡ 0
prefix_taken p r k t low few z =
    let f = (first_run p r t low (commands_in p r) (omega arith) z).0 in
    first_fits p r t low k few (λ i h. f i (omega arith))
