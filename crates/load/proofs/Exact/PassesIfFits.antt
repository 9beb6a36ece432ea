-- The check of one command, where the tables hold what they should: it refuses nothing exactly where the command fits.
use Rattle.std.specs.Prelude.{ℕ, suc, ◌≤◌, ◌<◌, ◌≡◌, refl, ◌⊎◌, ◌↔◌}
use Rattle.std.proofs.Common.{sym, subst, subst₂}
use Rattle.std.proofs.Math.Path.{subst₃}
use Rattle.std.proofs.Math.Logic.{⊎_map}
use Rattle.std.proofs.Math.Logic.Iff.{trans as iff_trans}
use Rattle.std.specs.Prelude.{Bool, List}
use Rattle.std.proofs.Common.{arith}
use Rattle.value.specs.Test.{need, ◌<?◌, ◌=?◌}
use Rattle.value.specs.Value.{number_kind, truth_kind, reactor_kind}
use Rattle.value.specs.Primitive.{row_of, operands, count_of, kinds_fit, is_withdrawn}
use Rattle.value.specs.declared.Takes.{Takes}
use Rattle.value.specs.declared.Takes.TheVariants.{TwoNumbers, OneTruth, TwoTruths, OneOfAny, TruthThenTwo, TwoAlike}
use Rattle.value.proofs.Tests.{remains, Says, says_lt, says_le, says_eq, says_true, says_false, says_and, says_or}
use Rattle.value.proofs.Tests.{says_not, says_need}
use Rattle.program.specs.Bytes.{commands_d, sources_in, sinks_in, source_kind, sink_kind, shape_of}
use Rattle.program.specs.Command.{Cmd, Sequence, D, R, neither, cmd_of, decode, bytes_of, sequence_of, alloc_mono, make_poly}
use Rattle.program.specs.Command.{constant, global, supply, react, consume, sink, alloc_poly, primitive, cell, fetch}
use Rattle.program.specs.Command.{keep, none, gives, a_deployment}
use Rattle.program.specs.Location.{sink_count, sink_loc, shape_there}
use Rattle.load.specs.Scan.{standing_at, kind_at, is_supplied, ready_at, in_sequence, remaining, located, agreed}
use Rattle.load.specs.Scan.{disorder, refusal_of, waiting, unset_sink, set_sink}
use Rattle.load.specs.Rules.{Sets, TablesRight}
use Rattle.load.specs.declared.Scan.{Scan}
use Rattle.load.specs.Order.{Never}
use Rattle.load.proofs.Exact.Seen.{tells_lo}
use Rattle.load.proofs.Exact.Places.{class_at, class_sink}
use Rattle.load.specs.Fault.{KindsFit, InSequence, Remaining, Agreed}
use Rattle.load.proofs.Exact.Fits.{PlacedAt, Timely, Fits}
use Rattle.load.proofs.Exact.Formed.{formed_says}
use Rattle.load.proofs.Exact.Holds.{Holding, value_says, cell_says, point_says, deployment_says, holds_as}
use Rattle.load.proofs.Exact.Holds.{kind_of_value, kind_of_cell, shape_of_deployment, shape_of_point, cell_free}
use Rattle.load.proofs.Exact.Holds.{point_free, deployment_reacted, deployment_open, deployment_ready}

nothing_asked : (◌≡◌ {A = ℕ} 0 0) ↔ Unit {0}
nothing_asked = ((λ e. tt), (λ u. refl))

-- one test and no more
asks : {t : Bool} (n : ℕ) {A : Type 0} → Says t A → (need t (suc n) 0 ≡ 0) ↔ A
asks n f = let h = says_need n f (λ a. nothing_asked) in ((λ e. (h.0 e).0), (λ a. h.1 (a, tt)))

flat : {A B C : Type 0} → (A × (B × C)) ↔ (A × B × C)
flat = ((λ h. (h.0, h.1.0, h.1.1)), (λ h. (h.0, (h.1, h.2))))

pub sequence_says : (p : List ℕ) (r k : ℕ) (q : Sequence) →
    Says (in_sequence q (k <? commands_d p r)) (InSequence p r k q)
unfolding in_sequence
sequence_says p r k D = says_lt
sequence_says p r k R = says_not says_lt
sequence_says p r k neither = says_false

pub remaining_says : (c : Cmd) → Says (remaining c) (Remaining c)
unfolding remaining is_withdrawn
remaining_says (alloc_mono x) = says_true
remaining_says (make_poly x) = says_true
remaining_says (cell x v) = says_true
remaining_says (gives (constant x v)) = says_true
remaining_says (gives (global x)) = says_true
remaining_says (gives (consume x b)) = says_true
remaining_says (gives (primitive x a b c)) = says_not says_eq
remaining_says (gives (fetch b)) = says_true
remaining_says (supply x a b) = says_true
remaining_says (react b) = says_true
remaining_says (sink x a) = says_true
remaining_says (alloc_poly a b) = says_true
remaining_says (keep a b) = says_true
remaining_says none = says_true

-- a primitive's kinds, an operand's kind being known where it is taken
pub kinds_say : (t : Takes) (j k l j' k' l' : ℕ) → j ≡ j' → ((count_of t < 2) ⊎ (k ≡ k')) →
    ((count_of t < 3) ⊎ (l ≡ l')) → Says (kinds_fit t j k l) (KindsFit t j' k' l')
unfolding kinds_fit count_of
kinds_say TwoNumbers j k l j' k' l' e f g =
    subst₂ (λ a b. Says (kinds_fit TwoNumbers j k l) ((a ≡ number_kind) × (b ≡ number_kind)))
    e (remains (omega arith) f) (says_and says_eq says_eq)
kinds_say OneTruth j k l j' k' l' e f g = subst (λ a. Says (kinds_fit OneTruth j k l) (a ≡ truth_kind)) e says_eq
kinds_say TwoTruths j k l j' k' l' e f g =
    subst₂ (λ a b. Says (kinds_fit TwoTruths j k l) ((a ≡ truth_kind) × (b ≡ truth_kind)))
    e (remains (omega arith) f) (says_and says_eq says_eq)
kinds_say OneOfAny j k l j' k' l' e f g = says_true
kinds_say TruthThenTwo j k l j' k' l' e f g =
    subst₃ (λ a b c. Says (kinds_fit TruthThenTwo j k l) ((a ≡ truth_kind) × (b ≡ c)))
    e (remains (omega arith) f) (remains (omega arith) g) (says_and says_eq says_eq)
kinds_say TwoAlike j k l j' k' l' e f g =
    subst₂ (λ a b. Says (kinds_fit TwoAlike j k l) (a ≡ b)) e (remains (omega arith) f) says_eq

module _ {p : List ℕ} {r k : ℕ} {s : Scan} (g : Holding p r k s) where
  pub located_says : (c : Cmd) → Says (located s c) (PlacedAt p r k c)
  unfolding located
  located_says (alloc_mono x) = says_true
  located_says (make_poly x) = says_true
  located_says (cell x v) = says_true
  located_says (gives (constant x v)) = says_true
  located_says (gives (global x)) = says_true
  located_says (gives (consume x b)) = deployment_says g b
  located_says (gives (primitive x a b c)) = iff_trans
      (says_and (value_says g a) (says_and (says_or says_lt (value_says g b)) (says_or says_lt (value_says g c)))) flat
  located_says (gives (fetch b)) = cell_says g b
  located_says (supply x a b) = says_and (value_says g a) (deployment_says g b)
  located_says (react b) = deployment_says g b
  located_says (sink x a) = value_says g a
  located_says (alloc_poly a b) = says_and (value_says g a) (point_says g b)
  located_says (keep a b) = says_and (value_says g a) (cell_says g b)
  located_says none = says_true

  pub agreed_says : (c : Cmd) → PlacedAt p r k c → Says (agreed p r s c) (Agreed p r c)
  unfolding agreed operands
  agreed_says (alloc_mono x) h = says_true
  agreed_says (make_poly x) h = says_true
  agreed_says (cell x v) h = says_true
  agreed_says (gives (constant x v)) h = says_true
  agreed_says (gives (global x)) h = says_true
  agreed_says (gives (consume x b)) h =
      subst (λ m. Says (agreed p r s (gives (consume x b))) (x < sinks_in p m)) (shape_of_deployment g b h) says_lt
  agreed_says (gives (primitive x a b c)) h =
      kinds_say (row_of x).takes _ _ _ _ _ _ (kind_of_value g a h.0)
      (⊎_map (λ q. q) (kind_of_value g b) h.1) (⊎_map (λ q. q) (kind_of_value g c) h.2)
  agreed_says (gives (fetch b)) h = says_true
  agreed_says (supply x a b) h =
      subst₂ (λ j m. Says (agreed p r s (supply x a b)) ((x < sources_in p m) × (j ≡ source_kind p m x)))
      (kind_of_value g a h.0) (shape_of_deployment g b h.1) (says_and says_lt says_eq)
  agreed_says (react b) h = says_true
  agreed_says (sink x a) h =
      subst (λ j. Says (agreed p r s (sink x a)) ((x < sink_count p r) × (j ≡ sink_kind p (shape_of p r) x)))
      (kind_of_value g a h) (says_and says_lt says_eq)
  agreed_says (alloc_poly a b) h =
      subst₂ (λ j m. Says (agreed p r s (alloc_poly a b)) (j ≡ reactor_kind m))
      (kind_of_value g a h.0) (shape_of_point g b h.1) says_eq
  agreed_says (keep a b) h =
      subst₂ (λ j m. Says (agreed p r s (keep a b)) (j ≡ m))
      (kind_of_value g a h.0) (kind_of_cell g b h.1) says_eq
  agreed_says none h = says_true

  pub sink_open : (x : ℕ) → x < sink_count p r → (standing_at s (sink_loc p r x) ≡ unset_sink) ↔ Never p r (Sets p r x) k
  sink_open x h =
      let held = holds_as g (sink_loc p r x) (class_sink p r k x h g.few) in
      tells_lo p r (Sets p r x) unset_sink set_sink k _ (omega arith) held.1

  module _ (t : TablesRight p) where
    pub few_sources : (b : ℕ) → class_at p r k b ≡ a_deployment → sources_in p (shape_there p r b) ≤ 7
    few_sources b e = (t.every_shape (shape_there p r b) (holds_as g b e).1.1).few_sources

    disorder_says : (c : Cmd) → PlacedAt p r k c → Agreed p r c → (disorder p r s c ≡ 0) ↔ Timely p r k c
    unfolding disorder is_supplied
    disorder_says (alloc_mono x) h a = asks 20 says_lt
    disorder_says (make_poly x) h a = nothing_asked
    disorder_says (cell x v) h a = nothing_asked
    disorder_says (gives (constant x v)) h a = nothing_asked
    disorder_says (gives (global x)) h a = nothing_asked
    disorder_says (gives (consume x b)) h a = asks 18 (iff_trans says_eq (deployment_reacted g b h))
    disorder_says (gives (primitive x d b c)) h a = nothing_asked
    disorder_says (gives (fetch b)) h a = nothing_asked
    disorder_says (supply x v b) h a =
        iff_trans (says_need 19 says_le (λ l. asks 5 (says_not says_eq))) (deployment_open g b x h.1 a.0)
    disorder_says (react b) h a =
        let n = ready_at (sources_in p (shape_there p r b)) in
        let t = standing_at s b =? ready_at (sources_in p (kind_at s b)) in
        let ready =
        subst (λ m. Says t (standing_at s b ≡ ready_at (sources_in p m))) (shape_of_deployment g b h) says_eq in
        let above : standing_at s b ≡ n → waiting ≤ standing_at s b = (λ e. unfold ready_at in omega arith) in
        iff_trans (says_need 19 says_le (λ l. asks 18 ready))
        (iff_trans ((λ q. q.1), (λ e. (above e, e))) (deployment_ready g b (few_sources b h) h))
    disorder_says (sink x v) h a = asks 5 (iff_trans says_eq (sink_open x a.0))
    disorder_says (alloc_poly v b) h a = asks 19 (iff_trans says_eq (point_free g b h.1))
    disorder_says (keep v b) h a = asks 19 (iff_trans says_eq (cell_free g b h.1))
    disorder_says none h a = nothing_asked

    fits_exact : (refusal_of p r s (bytes_of p r k) (cmd_of p r k) ≡ 0) ↔ Fits p r k (cmd_of p r k)
    unfolding refusal_of cmd_of
    fits_exact =
        let c = decode (bytes_of p r k) in
        let q = sequence_of c in
        let in_q = subst (λ j. Says (in_sequence q (s.next <? commands_d p r)) (InSequence p r j q)) g.next
        (sequence_says p r s.next q) in
        iff_trans
        (says_need 2 in_q
        (λ q. says_need 2 (formed_says p (bytes_of p r k))
        (λ f. says_need 24 (remaining_says c)
        (λ w. says_need 3 (located_says c)
        (λ h. says_need 4 (agreed_says c h)
        (λ a. disorder_says c h a)))))) (
          (λ h.
              record {
                in_its_sequence = h.0;
                zero_bytes = h.1.0.0;
                ranged = h.1.0.1;
                remaining = h.1.1.0;
                placed = h.1.1.1.0;
                agreed = h.1.1.1.1.0;
                timely = h.1.1.1.1.1;
              }),
          (λ f. (f.in_its_sequence, ((f.zero_bytes, f.ranged), (f.remaining, (f.placed, (f.agreed, f.timely)))))),
        )

    pub taken_exact : (refusal_of p r s (bytes_of p r s.next) (decode (bytes_of p r s.next)) ≡ 0)
        ↔ Fits p r k (cmd_of p r k)
    taken_exact =
        subst (λ j. (refusal_of p r s (bytes_of p r j) (decode (bytes_of p r j)) ≡ 0) ↔ Fits p r k (cmd_of p r k))
        (sym g.next) (unfold cmd_of in fits_exact)
