-- Exact order: where the tables hold what they should, a command out of order has the number that those before it
-- call for.
use Rattle.std.specs.Prelude.{ℕ, ◌≡◌, refl, ◌↔◌, ◌≢◌, Bool, true, false, not, List}
use Rattle.std.proofs.Common.{sym, ◌∙◌, ap, subst, inl, inr}
use Rattle.std.proofs.Common.{arith}
use Rattle.value.specs.Test.{need, ◌<?◌, ◌=?◌}
use Rattle.value.proofs.Tests.{cases, yes, no, lt×, le!, le×, eq!, eq×, lt×?, eq?, eq×?, picks}
use Rattle.program.specs.Bytes.{sources_in}
use Rattle.program.specs.Command.{Cmd, cmd_of, alloc_mono, make_poly, constant, global, supply, react, consume, sink}
use Rattle.program.specs.Command.{alloc_poly, primitive, cell, fetch, keep, none, gives, a_deployment}
use Rattle.program.specs.Location.{sink_loc, shape_there}
use Rattle.load.specs.Scan.{standing_at, kind_at, is_supplied, ready_at, disorder, free_cell, kept_cell, free_point}
use Rattle.load.specs.Scan.{used_point, unset_sink, set_sink}
use Rattle.load.specs.Rules.{Reacts, Allocates, Keeps, Sets, TablesRight}
use Rattle.load.specs.Order.{Never, Already, Supplied, OutOfOrder, source_again, sink_again, early_react}
use Rattle.load.specs.Order.{early_consume, late_supply, second_react, second_poly, second_keep, not_lower}
use Rattle.load.specs.Order.{ExactOrder}
use Rattle.load.specs.declared.Scan.{Scan}
use Rattle.load.proofs.Exact.Bits.{bit}
use Rattle.load.proofs.Exact.Seen.{Tells}
use Rattle.load.proofs.Exact.Places.{class_at, class_sink}
use Rattle.load.specs.Fault.{Agreed}
use Rattle.load.proofs.Exact.Fits.{PlacedAt}
use Rattle.load.proofs.Exact.Holds.{Holding, Deployed, supplied, holds_as, shape_of_deployment, point_free}
use Rattle.load.proofs.Exact.Holds.{cell_free, deployment_reacted, deployment_ready}
use Rattle.load.proofs.Exact.PassesIfFits.{located_says, agreed_says, sink_open, few_sources}
use Rattle.load.proofs.Exact.Reactor.{first_run}

-- a ladder that answers n: at its first rung, or past it
at_rung : {t : Bool} (m n rest : ℕ) → need t m rest ≡ n → t ≡ false → m ≡ n
at_rung m n rest q e = ((picks (λ (v : ℕ). v ≡ n) _ rest m).0 q).1 e

past : {t : Bool} (m n rest : ℕ) → need t m rest ≡ n → t ≡ true → rest ≡ n
past m n rest q e = ((picks (λ (v : ℕ). v ≡ n) _ rest m).0 q).0 e

module _ {p : List ℕ} {r k : ℕ} {s : Scan} (g : Holding p r k s) (t : TablesRight p) where
  -- what is known of a deployment: it has reacted, or not yet
  deployed : (b : ℕ) → class_at p r k b ≡ a_deployment →
      Deployed p r (sources_in p (shape_there p r b)) k b (standing_at s b)
  deployed b e = (holds_as g b e).0

  -- it is ready where no React came yet and all its sources are supplied
  ready : (b : ℕ) → class_at p r k b ≡ a_deployment →
      (standing_at s b ≡ ready_at (sources_in p (kind_at s b))) ↔ (Never p r (Reacts p r b) k × Supplied p r b k)
  ready b e =
      subst (λ m. (standing_at s b ≡ ready_at (sources_in p m)) ↔ (Never p r (Reacts p r b) k × Supplied p r b k))
      (sym (shape_of_deployment g b e)) (deployment_ready g b (few_sources g t b e) e)

  -- what may come once, and is told by two standings, has come
  again : {c : Cmd} {n : ℕ} (P : Cmd → Type 0) (low high m : ℕ) {st : ℕ} → low ≢ high → Tells p r low high P k st →
      (Already p r P k → OutOfOrder p r k c m) → n ≢ 0 → need (st =? low) m 0 ≡ n → OutOfOrder p r k c n
  again P low high m apart (inl d) out z q = absurd (z (sym (past m _ 0 q (eq! d.0))))
  again {c} P low high m apart (inr d) out z q =
      subst (OutOfOrder p r k c) (at_rung m _ 0 q (eq× (λ e. apart (sym e ∙ d.0)))) (out d.1)

  -- a number that is given is the order's
  pub refused_for : (c : Cmd) → PlacedAt p r k c → Agreed p r c → (n : ℕ) → n ≢ 0 →
      disorder p r s c ≡ n → OutOfOrder p r k c n
  unfolding disorder is_supplied
  refused_for (alloc_mono x) h a n z q =
      cases (x <? r)
      (λ e. absurd (z (sym (past 21 n 0 q e))))
      (λ e. subst (OutOfOrder p r k (alloc_mono x)) (at_rung 21 n 0 q e) (not_lower (lt×? e)))
  refused_for (make_poly x) h a n z q = absurd (z (sym q))
  refused_for (cell x v) h a n z q = absurd (z (sym q))
  refused_for (gives (constant x v)) h a n z q = absurd (z (sym q))
  refused_for (gives (global x)) h a n z q = absurd (z (sym q))
  refused_for (gives (consume x b)) h a n z q =
      elim (deployed b h) [
        | inl d ↦ absurd (z (sym (past 19 n 0 q (eq! d.0))))
        | inr d ↦
            let w = d.0 in
            subst (OutOfOrder p r k (gives (consume x b))) (at_rung 19 n 0 q (eq× (λ e. omega arith)))
            (early_consume d.2)
      ]
  refused_for (gives (primitive x d b c)) h a n z q = absurd (z (sym q))
  refused_for (gives (fetch b)) h a n z q = absurd (z (sym q))
  refused_for (supply x v b) h a n z q =
      elim (deployed b h.1) [
        | inl d ↦
            let e = d.0 in
            subst (OutOfOrder p r k (supply x v b)) (at_rung 20 n _ q (le× (omega arith))) (late_supply d.1)
        | inr d ↦
            let w = past 20 n _ q (le! d.0) in
            cases (bit (standing_at s b) x =? 1)
            (λ e.
            let twice = (supplied p r k b (standing_at s b) (sources_in p (shape_there p r b)) x a.0 d.3).0 (eq? e) in
            subst (OutOfOrder p r k (supply x v b)) (at_rung 6 n 0 w (ap not e)) (source_again d.2 twice))
            (λ e. absurd (z (sym (past 6 n 0 w (ap not e)))))
      ]
  refused_for (react b) h a n z q =
      elim (deployed b h) [
        | inl d ↦
            let e = d.0 in
            subst (OutOfOrder p r k (react b)) (at_rung 20 n _ q (le× (omega arith))) (second_react d.1)
        | inr d ↦
            let w = past 20 n _ q (le! d.0) in
            cases (standing_at s b =? ready_at (sources_in p (kind_at s b)))
            (λ e. absurd (z (sym (past 19 n 0 w e))))
            (λ e.
            let early = early_react d.2 (λ all. eq×? e ((ready b h).1 (d.2, all))) in
            subst (OutOfOrder p r k (react b)) (at_rung 19 n 0 w e) early)
      ]
  refused_for (sink x v) h a n z q =
      let at = class_sink p r k x a.0 g.few in
      again (Sets p r x) unset_sink set_sink 6 (omega arith) (holds_as g (sink_loc p r x) at).1 sink_again z q
  refused_for (alloc_poly v b) h a n z q =
      again (Allocates p r b) free_point used_point 20 (omega arith) (holds_as g b h.1).0 second_poly z q
  refused_for (keep v b) h a n z q =
      again (Keeps p r b) free_cell kept_cell 20 (omega arith) (holds_as g b h.1).0 second_keep z q
  refused_for none h a n z q = absurd (z (sym q))

  -- and what is out of order is given its number
  pub refuses : {c : Cmd} {n : ℕ} → OutOfOrder p r k c n → PlacedAt p r k c → Agreed p r c → disorder p r s c ≡ n
  unfolding disorder is_supplied
  refuses (source_again {x} {b} n d) h a =
      elim (deployed b h.1) [
        | inl e ↦ absurd (n e.1.0 e.1.1 e.1.2)
        | inr e ↦
            let w = (supplied p r k b (standing_at s b) (sources_in p (shape_there p r b)) x a.0 e.3).1 d in
            sym (yes _ (le! e.0) (no _ (ap not (eq! w)) refl))
      ]
  refuses (sink_again {x} d) h a =
      sym (no _ (eq× (λ q. let n = (sink_open g x a.0).0 q in n d.0 d.1 d.2)) refl)
  refuses (early_react {b} n w) h a =
      elim (deployed b h) [
        | inl e ↦ absurd (n e.1.0 e.1.1 e.1.2)
        | inr e ↦ sym (yes _ (le! e.0) (no _ (eq× (λ q. w ((ready b h).0 q).1)) refl))
      ]
  refuses (early_consume {b} n) h a =
      sym (no _ (eq× (λ q. let d = (deployment_reacted g b h).0 q in n d.0 d.1 d.2)) refl)
  refuses (late_supply {b} d) h a =
      let e = (deployment_reacted g b h.1).1 d in
      sym (no _ (le× (omega arith)) refl)
  refuses (second_react {b} d) h a =
      let e = (deployment_reacted g b h).1 d in
      sym (no _ (le× (omega arith)) refl)
  refuses (second_poly {b} d) h a =
      sym (no _ (eq× (λ q. let n = (point_free g b h.1).0 q in n d.0 d.1 d.2)) refl)
  refuses (second_keep {b} d) h a =
      sym (no _ (eq× (λ q. let n = (cell_free g b h.1).0 q in n d.0 d.1 d.2)) refl)
  refuses (not_lower l) h a = sym (no _ (lt× l) refl)

pub exact_order : (p : List ℕ) → ExactOrder p
exact_order p t r k n low few z e f h =
    let g = (first_run p r t low k (omega arith) e).1 in
    let l = (located_says g (cmd_of p r k)).0 f in
    let a = (agreed_says g (cmd_of p r k) l).0 h in
    (refused_for g t (cmd_of p r k) l a n z, λ o. refuses g t o l a)
