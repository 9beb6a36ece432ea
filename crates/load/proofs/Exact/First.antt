-- A command is refused for the first test that it fails, where the tables hold what they should: `refusal_first`.
use Rattle.std.specs.Prelude.{ℕ, ◌≤◌, ◌≡◌, refl, ◌↔◌, ◌≢◌, List}
use Rattle.std.proofs.Common.{sym, ◌∙◌, subst, inl, inr, arith}
use Rattle.std.proofs.Math.Logic.{⊎_map}
use Rattle.std.proofs.Math.Logic.Iff.{trans as iff_trans}
use Rattle.value.specs.Test.{need, ◌<?◌}
use Rattle.value.proofs.Tests.{cases, Says, says×, says_rung}
use Rattle.program.specs.Bytes.{commands_d, commands_in}
use Rattle.program.specs.Command.{Cmd, cmd_of, bytes_of, sequence_of, alloc_mono, make_poly, constant, global, supply, gives}
use Rattle.program.specs.Command.{react, consume, sink, alloc_poly, primitive, cell, fetch, keep, none}
use Rattle.load.specs.Scan.{in_sequence, formed, remaining, located, agreed, disorder, refusal_of}
use Rattle.load.specs.Rules.{ZeroBytes, TablesRight}
use Rattle.load.specs.Order.{OutOfOrder, source_again, sink_again, early_react, early_consume, late_supply}
use Rattle.load.specs.Order.{second_react, second_poly, second_keep, not_lower}
use Rattle.load.specs.Fault.{Ranged, Remaining, Placed, Agreed, InSequence, Formed, Located, First, misformed}
use Rattle.load.specs.Fault.{withdrawn, misplaced, unlike, disordered}
use Rattle.load.specs.declared.Scan.{Scan}
use Rattle.load.proofs.Exact.Places.{value_exact, deployment_exact, point_exact, cell_exact}
use Rattle.load.proofs.Exact.Fits.{PlacedAt}
use Rattle.load.proofs.Exact.Formed.{formed_says}
use Rattle.load.proofs.Exact.Holds.{Holding}
use Rattle.load.proofs.Exact.PassesIfFits.{sequence_says, remaining_says, located_says, agreed_says}
use Rattle.load.proofs.Exact.Order.{refused_for, refuses}

-- ---- where operands are: what stands there, in the words of the rules

places_map : {A B C E J K L M : ℕ → Type 0} →
    ((l : ℕ) → A l → J l) → ((l : ℕ) → B l → K l) → ((l : ℕ) → C l → L l) → ((l : ℕ) → E l → M l) →
    (c : Cmd) → Placed A B C E c → Placed J K L M c
places_map f g h i (alloc_mono x) u = u
places_map f g h i (make_poly x) u = u
places_map f g h i (cell x v) u = u
places_map f g h i (gives (constant x v)) u = u
places_map f g h i (gives (global x)) u = u
places_map f g h i (gives (consume x b)) u = g b u
places_map f g h i (gives (primitive x a b c)) u =
    (f a u.0, ⊎_map (λ q. q) (f b) u.1, ⊎_map (λ q. q) (f c) u.2)
places_map f g h i (gives (fetch b)) u = i b u
places_map f g h i (supply x a b) u = (f a u.0, g b u.1)
places_map f g h i (react b) u = g b u
places_map f g h i (sink x a) u = f a u
places_map f g h i (alloc_poly a b) u = (f a u.0, h b u.1)
places_map f g h i (keep a b) u = (f a u.0, i b u.1)
places_map f g h i none u = u

located_as : (p : List ℕ) (r k : ℕ) → k ≤ commands_in p r → (c : Cmd) → PlacedAt p r k c ↔ Located p r k c
located_as p r k few c = (
  places_map (λ l. (value_exact p r k l few).0) (λ l. (deployment_exact p r k l few).0)
      (λ l. (point_exact p r k l few).0) (λ l. (cell_exact p r k l few).0) c,
  places_map (λ l. (value_exact p r k l few).1) (λ l. (deployment_exact p r k l few).1)
      (λ l. (point_exact p r k l few).1) (λ l. (cell_exact p r k l few).1) c,
)

-- ---- one command

out_of_order_counts : {p : List ℕ} {r k n : ℕ} {c : Cmd} → OutOfOrder p r k c n → n ≢ 0
out_of_order_counts (source_again n d) = omega arith
out_of_order_counts (sink_again d) = omega arith
out_of_order_counts (early_react n w) = omega arith
out_of_order_counts (early_consume n) = omega arith
out_of_order_counts (late_supply d) = omega arith
out_of_order_counts (second_react d) = omega arith
out_of_order_counts (second_poly d) = omega arith
out_of_order_counts (second_keep d) = omega arith
out_of_order_counts (not_lower l) = omega arith

module _ {p : List ℕ} {r k : ℕ} {s : Scan} (g : Holding p r k s) (t : TablesRight p) where
  abbrev c : Cmd
  c = cmd_of p r k

  sequence_test : Says (in_sequence (sequence_of c) (s.next <? commands_d p r)) (InSequence p r k (sequence_of c))
  sequence_test =
      subst (λ j. Says (in_sequence (sequence_of c) (s.next <? commands_d p r)) (InSequence p r j (sequence_of c)))
      g.next (sequence_says p r s.next (sequence_of c))

  formed_test : Says (formed p (bytes_of p r k) c) (ZeroBytes (bytes_of p r k) c × Ranged p c)
  unfolding cmd_of
  formed_test = formed_says p (bytes_of p r k)

  located_test : Says (located s c) (Located p r k c)
  located_test = iff_trans (located_says g c) (located_as p r k g.few c)

  placed : Located p r k c → PlacedAt p r k c
  placed = (located_as p r k g.few c).1

  agreed_test : Located p r k c → Says (agreed p r s c) (Agreed p r c)
  agreed_test l = agreed_says g c (placed l)

  abbrev order : ℕ
  order = disorder p r s c

  abbrev from_5 : ℕ
  from_5 = need (agreed p r s c) 5 order

  abbrev from_4 : ℕ
  from_4 = need (located s c) 4 from_5

  abbrev from_25 : ℕ
  from_25 = need (remaining c) 25 from_4

  abbrev from_3 : ℕ
  from_3 = need (formed p (bytes_of p r k) c) 3 from_25

  ladder : refusal_of p r s (bytes_of p r k) c ≡ need (in_sequence (sequence_of c) (s.next <? commands_d p r)) 3 from_3
  unfolding refusal_of
  ladder = refl

  found : (n : ℕ) → n ≢ 0 → refusal_of p r s (bytes_of p r k) c ≡ n → First p r k c n
  found n z e =
      elim ((says_rung sequence_test 3 n from_3).0 (sym ladder ∙ e)) [
        | inl q ↦ subst (First p r k c) q.1 (misformed (λ f. q.0 f.0))
        | inr q ↦ elim ((says_rung formed_test 3 n from_25).0 q.1) [
          | inl w ↦ subst (First p r k c) w.1 (misformed (λ f. w.0 (f.1, f.2)))
          | inr w ↦ formed_found (q.0, w.0.0, w.0.1) w.1
        ]
      ]
    where
      located_found : Formed p r k c → Remaining c → Located p r k c → from_5 ≡ n → First p r k c n
      located_found f y l e =
          elim ((says_rung (agreed_test l) 5 n order).0 e) [
            | inl q ↦ subst (First p r k c) q.1 (unlike f y l q.0)
            | inr q ↦ disordered f y l q.0 (refused_for g t c (placed l) q.0 n z q.1)
          ]

      formed_found : Formed p r k c → from_25 ≡ n → First p r k c n
      formed_found f e =
          elim ((says_rung (remaining_says c) 25 n from_4).0 e) [
            | inl q ↦ subst (First p r k c) q.1 (withdrawn f q.0)
            | inr q ↦ elim ((says_rung located_test 4 n from_5).0 q.1) [
              | inl w ↦ subst (First p r k c) w.1 (misplaced f q.0 w.0)
              | inr w ↦ located_found f q.0 w.0 w.1
            ]
          ]

  -- past 3, past 25, past 4
  formed_past : Formed p r k c → {n : ℕ} → from_25 ≡ n → refusal_of p r s (bytes_of p r k) c ≡ n
  formed_past f {n} e =
      let bytes = (says_rung formed_test 3 n from_25).1 (inr ((f.1, f.2), e)) in
      ladder ∙ (says_rung sequence_test 3 n from_3).1 (inr (f.0, bytes))

  remaining_past : Formed p r k c → Remaining c → {n : ℕ} → from_4 ≡ n → refusal_of p r s (bytes_of p r k) c ≡ n
  remaining_past f y {n} e = formed_past f ((says_rung (remaining_says c) 25 n from_4).1 (inr (y, e)))

  located_past : Formed p r k c → Remaining c → Located p r k c → {n : ℕ} → from_5 ≡ n →
      refusal_of p r s (bytes_of p r k) c ≡ n
  located_past f y l {n} e = remaining_past f y ((says_rung located_test 4 n from_5).1 (inr (l, e)))

  given : {n : ℕ} → First p r k c n → refusal_of p r s (bytes_of p r k) c ≡ n
  given (misformed h) =
      ladder
      ∙ cases (in_sequence (sequence_of c) (s.next <? commands_d p r))
      (λ y.
      let q = sequence_test.0 y in
      let bytes = (says_rung formed_test 3 3 from_25).1 (inl ((λ f. h (q, f.0, f.1)), refl)) in
      (says_rung sequence_test 3 3 from_3).1 (inr (q, bytes)))
      (λ y. (says_rung sequence_test 3 3 from_3).1 (inl ((says× sequence_test).0 y, refl)))
  given (withdrawn f h) = formed_past f ((says_rung (remaining_says c) 25 25 from_4).1 (inl (h, refl)))
  given (misplaced f y h) = remaining_past f y ((says_rung located_test 4 4 from_5).1 (inl (h, refl)))
  given (unlike f y l h) = located_past f y l ((says_rung (agreed_test l) 5 5 order).1 (inl (h, refl)))
  given (disordered {n} f y l a o) =
      located_past f y l ((says_rung (agreed_test l) 5 n order).1 (inr (a, refuses g t o (placed l) a)))

  pub refusal_first : (n : ℕ) → n ≢ 0 → (refusal_of p r s (bytes_of p r k) c ≡ n) ↔ First p r k c n
  refusal_first n z = (found n z, λ f. given f)

pub first_counts : {p : List ℕ} {r k n : ℕ} {c : Cmd} → First p r k c n → n ≢ 0
first_counts (misformed h) = omega arith
first_counts (withdrawn f h) = omega arith
first_counts (misplaced f y h) = omega arith
first_counts (unlike f y l h) = omega arith
first_counts (disordered f y l a o) = out_of_order_counts o
