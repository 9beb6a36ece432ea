-- Laws of the one condition that the code asks of each command: it is what the tests of all refusals come to.
-- Assumes nothing.
use Rattle.std.specs.Prelude.{ℕ, ◌+◌, ◌-◌, ◌^◌, ◌≤◌, ◌<◌, ◌≡◌, refl, Bool, true, false, not, List}
use Rattle.std.proofs.Common.{sym, ◌∙◌, ap}
use Rattle.std.proofs.Common.{arith}
use Rattle.value.specs.Test.{◌and◌, ◌<?◌, ◌≤?◌, ◌=?◌, need, pick}
use Rattle.value.specs.Value.{reactor_kind}
use Rattle.value.proofs.Tests.{both!, both?, eq!, eq?, eq×, le!, le?, lt!, lt?, right×, true_and}
use Rattle.program.specs.Bytes.{shapes, reactors, globals, sources_in, sinks_in, source_kind, sink_kind, shape_of, commands_d}
use Rattle.program.specs.Command.{Cmd, sequence_of, v_of, alloc_mono, make_poly, constant, global, supply, react, consume}
use Rattle.program.specs.Command.{sink, alloc_poly, cell, fetch, keep, gives}
use Rattle.program.specs.Location.{sink_count, sink_loc}
use Rattle.program.specs.declared.Command.{Command}
use Rattle.load.specs.Scan.{free_point, free_cell, unset_sink, has_run, waiting, standing_at, kind_at, is_value, is_cell}
use Rattle.load.specs.Scan.{is_point, is_deployment, is_supplied, ready_at, in_sequence, formed, remaining, located}
use Rattle.load.specs.Scan.{agreed, disorder, refusal_of}
use Rattle.load.specs.Clauses.{right, allowed}
use Rattle.load.specs.declared.Scan.{Scan}

-- ---- tests in another order

pub and_true : (t : Bool) → (t and true) ≡ t
unfolding ◌and◌
and_true true = refl
and_true false = refl

pub and_right : (s t u : Bool) → ((s and t) and u) ≡ (s and (t and u))
unfolding ◌and◌
and_right true t u = refl
and_right false t u = refl

-- a test that follows from another
also : (s t : Bool) → (s ≡ true → t ≡ true) → s ≡ (t and s)
also true t h = sym (true_and true (h refl))
also false t h = sym (right× t refl)

early : (s t u v : Bool) → (s ≡ true → t ≡ true) → (s and (u and v)) ≡ (t and (u and (s and v)))
unfolding ◌and◌
early true t u v h = sym (true_and _ (h refl))
early false t u v h = sym (right× t (right× u refl))

early_last : (s t u : Bool) → (s ≡ true → t ≡ true) → (s and u) ≡ (t and (u and s))
unfolding ◌and◌
early_last true t u h = sym (true_and _ (h refl) ∙ and_true u)
early_last false t u h = sym (right× t (right× u refl))

-- a ladder's test, asked whether it refuses
need_test : (t : Bool) (n rest : ℕ) → 0 < n → (need t n rest =? 0) ≡ (t and (rest =? 0))
unfolding pick ◌and◌
need_test true n rest h = refl
need_test false n rest h = eq× (λ e. omega arith)

zero_test : (0 =? 0) ≡ true
zero_test = eq! refl

last_test : (t : Bool) (n : ℕ) → 0 < n → (need t n 0 =? 0) ≡ t
last_test t n h = need_test t n 0 h ∙ ap (λ (u : Bool). t and u) zero_test ∙ and_true t

-- what is free is of its sort, and is asked for at the end
once : (s t u v : Bool) (n : ℕ) → 0 < n → (u ≡ true → t ≡ true) → (s and (u and v)) ≡
    ((s and t) and (v and (need u n 0 =? 0)))
once s t u v n h g =
    ap (λ (w : Bool). s and w) (early_last u t v g)
    ∙ sym (and_right s t (v and u))
    ∙ ap (λ (w : Bool). (s and t) and (v and w)) (sym (last_test u n h))

module _ (p : List ℕ) (r : ℕ) (s : Scan) (c : Command) where
  -- a command is not refused where it is allowed
  pub allowed_test : (d : Cmd) → (refusal_of p r s c d =? 0) ≡ allowed (s.next <? commands_d p r) p r s c d
  unfolding refusal_of allowed right
  allowed_test d =
      need_test _ 3 _ (omega arith)
      ∙ ap (λ (t : Bool). in_sequence (sequence_of d) (s.next <? commands_d p r) and t)
      (need_test _ 3 _ (omega arith)
      ∙ ap (λ (t : Bool). formed p c d and t)
      (need_test _ 25 _ (omega arith)
      ∙ ap (λ (t : Bool). remaining d and t)
      (need_test _ 4 _ (omega arith)
      ∙ ap (λ (t : Bool). located s d and t) (need_test _ 5 _ (omega arith)))))

  -- ---- the condition of each command

  module _ {z : Bool} where
    pub right_mono : (x : ℕ) → r < reactors p → z ≡ ((c.a + c.b + v_of c =? 0) and (x <? r)) → z ≡ right p r s c
        (alloc_mono x)
    unfolding right formed remaining located agreed disorder ◌and◌
    right_mono x h e =
        e ∙ ap (λ (t : Bool). (c.a + c.b + v_of c =? 0) and t)
        (also (x <? r) (x <? reactors p) (λ q. let w : x < r = lt? q in lt! (omega arith)))
        ∙ sym (and_right (c.a + c.b + v_of c =? 0) (x <? reactors p) (x <? r))
        ∙ ap (λ (t : Bool). ((c.a + c.b + v_of c =? 0) and (x <? reactors p)) and t)
        (sym (last_test (x <? r) 21 (omega arith)))

    pub right_make : (x : ℕ) → z ≡ ((c.a + c.b + v_of c =? 0) and (x <? shapes p)) → z ≡ right p r s c (make_poly x)
    unfolding right formed remaining located agreed disorder ◌and◌ ◌=?◌
    right_make x e = e ∙ sym (and_true _)

    pub right-cell : (x v : ℕ) → z ≡ formed p c (cell x v) → z ≡ right p r s c (cell x v)
    unfolding right remaining located agreed disorder ◌and◌ ◌=?◌
    right-cell x v e = e ∙ sym (and_true _)

    pub right_constant : (x v : ℕ) → z ≡ formed p c (gives (constant x v)) → z ≡ right p r s c (gives (constant x v))
    unfolding right remaining located agreed disorder ◌and◌ ◌=?◌
    right_constant x v e = e ∙ sym (and_true _)

    pub right_global : (x : ℕ) → z ≡ ((c.a + c.b + v_of c =? 0) and (x ≤? globals p)) →
        z ≡ right p r s c (gives (global x))
    unfolding right formed remaining located agreed disorder ◌and◌ ◌=?◌
    right_global x e = e ∙ sym (and_true _)

    pub right_fetch : (b : ℕ) → z ≡ ((c.x + c.a + v_of c =? 0) and is_cell s b) → z ≡ right p r s c (gives (fetch b))
    unfolding right formed remaining located agreed disorder ◌and◌ ◌=?◌
    right_fetch b e = e ∙ ap (λ (t : Bool). (c.x + c.a + v_of c =? 0) and t) (sym (and_true (is_cell s b)))

    pub right_supply : (x a b : ℕ) →
        z ≡ ((v_of c =? 0) and is_value s a and (waiting ≤? standing_at s b)
        and ((x <? sources_in p (kind_at s b)) and (kind_at s a =? source_kind p (kind_at s b) x))
        and not (is_supplied s b x)) →
        z ≡ right p r s c (supply x a b)
    unfolding right formed remaining located agreed disorder is_deployment ◌and◌
    right_supply x a b e =
        let w = waiting ≤? standing_at s b in
        let y = (x <? sources_in p (kind_at s b)) and (kind_at s a =? source_kind p (kind_at s b) x) in
        let f = not (is_supplied s b x) in
        e ∙ ap (λ (t : Bool). (v_of c =? 0) and (is_value s a and t))
        (early w (has_run ≤? standing_at s b) y f (λ q. let g : 128 ≤ standing_at s b = le? q in le! (omega arith)))
        ∙ ap (λ (t : Bool). (v_of c =? 0) and t) (sym (and_right (is_value s a) (has_run ≤? standing_at s b)
        (y and (w and f))))
        ∙ ap (λ (t : Bool). (v_of c =? 0) and ((is_value s a and (has_run ≤? standing_at s b)) and (y and t)))
        (sym (need_test w 20 _ (omega arith) ∙ ap (λ (t : Bool). w and t) (last_test f 6 (omega arith))))

    pub right_react : (b : ℕ) →
        z ≡ ((c.x + c.a + v_of c =? 0) and (standing_at s b =? ready_at (sources_in p (kind_at s b)))) →
        z ≡ right p r s c (react b)
    unfolding right formed remaining located agreed disorder is_deployment ready_at ◌and◌
    right_react b e =
        let f = standing_at s b =? waiting + (2 ^ sources_in p (kind_at s b) - 1) in
        let w = waiting ≤? standing_at s b in
        let ready : f ≡ true → 128 ≤ standing_at s b = (λ q. let g : standing_at s b ≡ 128 +
        (2 ^ sources_in p (kind_at s b) - 1) = eq? q in omega arith) in
        e ∙ ap (λ (t : Bool). (c.x + c.a + v_of c =? 0) and t)
        (also f w (λ q. le! (ready q)) ∙ also (w and f) (has_run ≤? standing_at s b)
        (λ q. let g : 128 ≤ standing_at s b = le? (both? q).0 in le! (omega arith)))
        ∙ ap (λ (t : Bool). (c.x + c.a + v_of c =? 0) and ((has_run ≤? standing_at s b) and t))
        (sym (need_test w 20 _ (omega arith) ∙ ap (λ (t : Bool). w and t) (last_test f 19 (omega arith))))

    pub right_consume : (x b : ℕ) →
        z ≡ ((c.a + v_of c =? 0) and (standing_at s b =? has_run) and (x <? sinks_in p (kind_at s b))) →
        z ≡ right p r s c (gives (consume x b))
    unfolding right formed remaining located agreed disorder is_deployment ◌and◌
    right_consume x b e =
        let f = standing_at s b =? has_run in
        e ∙ ap (λ (t : Bool). (c.a + v_of c =? 0) and t)
        (early_last f (has_run ≤? standing_at s b) (x <? sinks_in p (kind_at s b))
        (λ q. let g : standing_at s b ≡ 127 = eq? q in le! (omega arith))
        ∙ ap (λ (t : Bool). (has_run ≤? standing_at s b) and ((x <? sinks_in p (kind_at s b)) and t))
        (sym (last_test f 19 (omega arith))))

    pub right_sink : (x a : ℕ) → z ≡ ((c.b + v_of c =? 0)
        and is_value s a and ((x <? sink_count p r) and (kind_at s a =? sink_kind p (shape_of p r) x))
        and (standing_at s (sink_loc p r x) =? unset_sink)) → z ≡ right p r s c (sink x a)
    unfolding right formed remaining located agreed disorder ◌and◌
    right_sink x a e = rw (last_test (standing_at s (sink_loc p r x) =? unset_sink) 6 (omega arith)) e

    pub right_poly : (a b : ℕ) →
        z ≡ ((c.x + v_of c =? 0) and is_value s a and (standing_at s b =? free_point) and
        (kind_at s a =? reactor_kind (kind_at s b))) →
        z ≡ right p r s c (alloc_poly a b)
    unfolding right formed remaining located agreed disorder is_point ◌and◌
    right_poly a b e =
        e ∙ ap (λ (t : Bool). (c.x + v_of c =? 0) and t)
        (once (is_value s a) _ (standing_at s b =? free_point) (kind_at s a =? reactor_kind (kind_at s b)) 20 (omega arith)
        (λ q. let g : standing_at s b ≡ 4 = eq? q in both! (le! (omega arith)) (le! (omega arith))))

    pub right_keep : (a b : ℕ) →
        z ≡ ((c.x + v_of c =? 0) and is_value s a and (standing_at s b =? free_cell) and (kind_at s a =? kind_at s b)) →
        z ≡ right p r s c (keep a b)
    unfolding right formed remaining located agreed disorder is_cell ◌and◌
    right_keep a b e =
        e ∙ ap (λ (t : Bool). (c.x + v_of c =? 0) and t)
        (once (is_value s a) _ (standing_at s b =? free_cell) (kind_at s a =? kind_at s b) 20 (omega arith)
        (λ q. let g : standing_at s b ≡ 2 = eq? q in both! (le! (omega arith)) (le! (omega arith))))
