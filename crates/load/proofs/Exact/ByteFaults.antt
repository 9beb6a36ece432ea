-- The lowest byte that fails its test is the lowest at fault: in the header, and where that is right in the tables.
use Rattle.std.specs.Prelude.{ℕ, ◌+◌, ◌-◌, ◌*◌, ◌≤◌, ◌<◌, ◌≡◌, refl, ◌↔◌, Bool, false}
use Rattle.std.proofs.Common.{sym, ◌∙◌, ap, subst, ⊎_elim}
use Rattle.std.specs.Prelude.{not, List}
use Rattle.std.proofs.Common.{arith}
use native.Mathlib.Nat.{mul-le-mul_left, mul-suc}
use Rattle.value.specs.Test.{sweep, ◌<?◌, ◌=?◌, ◌or◌}
use Rattle.value.specs.Value.{reactor_kind}
use Rattle.value.proofs.Tests.{clash, below, same?, lt!, lt×, lt?, lt×?, le×, le×?, eq!, eq?, eq×?, left×, right×}
use Rattle.value.proofs.Tests.{true_and, yes, no, implies, Says, says_le, says_eq, says_and, says×}
use Rattle.value.proofs.Sweeps.{Passes, swept}
use Rattle.program.specs.Bytes.{header_end, shapes, reactors, globals, global_kind, shape_at}
use Rattle.program.specs.Bytes.{entry_at, shape_of, main_of, tables_end}
use Rattle.load.specs.Tables.{between, header_legal, port_legal, shape_legal, main_legal, entry_legal, table_legal}
use Rattle.load.specs.Rules.{HeaderRule, ShapeRule, MainRule}
use Rattle.load.specs.Fault.{Between, Port, HeaderFault, format, shape_count, reactor_count, global_count}
use Rattle.load.specs.Fault.{spare_header, TableFault, kind_of_global, count_of_sources, count_of_sinks, kind_of_source}
use Rattle.load.specs.Fault.{kind_of_sink}
use Rattle.load.specs.Fault.{no_shape, main_shape, d_count, r_count, spare_entry, Lowest}
use Rattle.load.proofs.Exact.Bounds.{main_last}
use Rattle.load.proofs.Exact.Widths.{chosen, rows, at_row, sixteen, first_four}
use Rattle.load.proofs.Exact.Bytes.{format_byte, shapes_byte, reactors_byte, globals_byte, zero_byte}
use Rattle.load.proofs.Exact.Bytes.{sources_byte}
use Rattle.load.proofs.Exact.Bytes.{sinks_byte, source_byte, sink_byte, shape, shape_byte, declared_byte}
use Rattle.load.proofs.Exact.Bytes.{running_byte, last_byte, main_legal_lem, global_byte, globals_end, shapes_end}
use Rattle.load.proofs.Exact.Bytes.{entries_end}

-- ---- a sweep, where a place fails its test exactly if it is at fault and those before it passed

module _ (ok : ℕ → Bool) (F : ℕ → Type 0) (from n end : ℕ) (e : from + n ≡ end)
    (bounds : (i : ℕ) → F i → (from ≤ i) × (i < end))
    (exact : (i : ℕ) → from ≤ i → i < end → Passes ok from i → (ok i ≡ false) ↔ F i) where
  abbrev place : ℕ
  place = sweep ok from n

  at_fault : place < end → F place
  at_fault l = let s = swept ok from n in (exact place s.from l s.passed).0 (s.stopped (omega arith))

  not_before : (i : ℕ) → i < place → F i → ⊥
  not_before i l f =
      let s = swept ok from n in
      let b = bounds i f in
      clash (s.passed i b.0 l) ((exact i b.0 b.1 (λ j q m. s.passed j q (omega arith))).1 f)

  pub none_exact : Says (place =? end) ((i : ℕ) → F i → ⊥)
  none_exact = (
    (λ q i f. not_before i (let w : place ≡ end = eq? q in let b : i < end = (bounds i f).1 in omega arith) f),
    (λ h.
        let t = (swept ok from n).to in
        eq! (⊎_elim (λ l. absurd (h place (at_fault l))) (λ l. omega arith) (below place end))),
  )

  pub lowest_found : (place =? end) ≡ false → Lowest F place
  lowest_found q = let t = (swept ok from n).to in let d = eq×? q in (at_fault (omega arith), not_before)

  pub lowest_is : (i : ℕ) → Lowest F i → place ≡ i
  lowest_is i h =
      ⊎_elim
      (λ l. let b : i < end = (bounds i h.0).1 in absurd (h.1 place l (at_fault (omega arith))))
      (λ l. ⊎_elim (λ m. absurd (not_before i m h.0)) (λ m. omega arith) (below i place))
      (below place i)

-- ---- tests of numbers

between_says : {low high x : ℕ} → Says (between low high x) (Between low high x)
between_says = says_and says_le says_le

port_says : (s count x k : ℕ) → Says (port_legal s count x k) (Port s count x k)
unfolding port_legal
port_says s count x k =
    let c = chosen x count (k <? reactor_kind s) (k =? 0) in (
      (λ e. let h = c.0 e in ((λ l. lt? (h.0 l)), λ l. eq? (h.1 l))),
      (λ h. c.1 ((λ l. lt! (h.0 l)), λ l. eq! (h.1 l))),
    )

-- a test that is another, and what its failing says
fails : {s t : Bool} {A : Type 0} → s ≡ t → Says t A → (s ≡ false) ↔ (A → ⊥)
fails e f = ((λ q. (says× f).0 (sym e ∙ q)), λ h. e ∙ (says× f).1 h)

module _ (p : List ℕ) where
  -- ---- the header

  pub header_exact : (i : ℕ) → i < header_end → (header_legal p i ≡ false) ↔ HeaderFault p i
  header_exact i l = (to i l, back)
    where
      to : (i : ℕ) → i < header_end → header_legal p i ≡ false → HeaderFault p i
      to =
          first_four (λ (i : ℕ). i < header_end → header_legal p i ≡ false → HeaderFault p i)
          (λ l e. format ((fails (format_byte p) says_eq).0 e))
          (λ l e. shape_count ((fails (shapes_byte p) between_says).0 e))
          (λ l e. reactor_count ((fails (reactors_byte p) between_says).0 e))
          (λ l e. global_count (le×? (sym (globals_byte p) ∙ e)))
          (λ i k l e. spare_header k l ((fails (zero_byte p i k) says_eq).0 e))

      back : {i : ℕ} → HeaderFault p i → header_legal p i ≡ false
      back (format h) = (fails (format_byte p) says_eq).1 h
      back (shape_count h) = (fails (shapes_byte p) between_says).1 h
      back (reactor_count h) = (fails (reactors_byte p) between_says).1 h
      back (global_count h) = globals_byte p ∙ le× h
      back (spare_header {i} k l h) = (fails (zero_byte p i k) says_eq).1 h

  pub header_bounds : (i : ℕ) → HeaderFault p i → (0 ≤ i) × (i < header_end)
  header_bounds i (format h) = (omega arith, omega arith)
  header_bounds i (shape_count h) = (omega arith, omega arith)
  header_bounds i (reactor_count h) = (omega arith, omega arith)
  header_bounds i (global_count h) = (omega arith, omega arith)
  header_bounds i (spare_header k l h) = (omega arith, l)

  -- ---- the tables, byte by byte

  shape_in : (s k : ℕ) → s < shapes p → k < 16 → (shape_at p 0 ≤ shape_at p s + k) × (shape_at p s + k < entry_at p 0)
  unfolding shape_at entry_at
  shape_in s k l m = (omega arith, omega (arith, mul-le-mul_left 16 l, mul-suc 16 s))

  entry_in : (r k : ℕ) → r < reactors p → k < 4 → (entry_at p 0 ≤ entry_at p r + k) × (entry_at p r + k < tables_end p)
  unfolding entry_at tables_end
  entry_in r k l m = (omega arith, omega (arith, mul-le-mul_left 4 l, mul-suc 4 r))

  global_test : (x : ℕ) → 1 ≤ x → x ≤ globals p → table_legal p (7 + x) ≡ (global_kind p x <? 2)
  unfolding table_legal
  global_test x l m =
      sym (yes _ (lt! (omega (arith, globals_end p))) (ap (λ (k : ℕ). k <? 2) (global_byte p x l)))

  shape_test : (s k : ℕ) → s < shapes p → k < 16 → table_legal p (shape_at p s + k) ≡ shape_legal p s k
  unfolding table_legal
  shape_test s k l m =
      let i = shape_in s k l m in
      let at : shape_at p s + k ≡ shape_at p 0 + 16 * s + k = unfold shape_at in omega arith in
      let row = at_row 16 (shape_at p 0) (omega arith) (shape_legal p) (shape_at p s + k) s k at m in
      sym (no _ (lt× i.0) (yes _ (lt! i.1) (sym row)))

  entry_test : (r k : ℕ) → r < reactors p → k < 4 → table_legal p (entry_at p r + k) ≡ entry_legal p r k
  unfolding table_legal
  entry_test r k l m =
      let i = entry_in r k l m in
      let at : entry_at p r + k ≡ entry_at p 0 + 4 * r + k = unfold entry_at in omega arith in
      let row = at_row 4 (entry_at p 0) (omega arith) (entry_legal p) (entry_at p r + k) r k at m in
      sym (no _ (lt× (omega (arith, i.0, shapes_end p))) (no _ (lt× i.0) (sym row)))

  in_shape : (s k : ℕ) → s < shapes p → k < 16 → (header_end ≤ shape_at p s + k) × (shape_at p s + k < tables_end p)
  in_shape s k l m =
      let i = shape_in s k l m in
      (omega (arith, i.0, globals_end p), omega (arith, i.1, entries_end p))

  in_entry : (r k : ℕ) → r < reactors p → k < 4 → (header_end ≤ entry_at p r + k) × (entry_at p r + k < tables_end p)
  in_entry r k l m = let i = entry_in r k l m in (omega (arith, i.0, shapes_end p, globals_end p), i.1)

  -- ---- which of them is at fault, where those before it pass

  module _ (header : HeaderRule p) where
    pub table_bounds : (i : ℕ) → TableFault p i → (header_end ≤ i) × (i < tables_end p)
    table_bounds i (kind_of_global l m h) = (omega arith, omega (arith, globals_end p, shapes_end p, entries_end p))
    table_bounds i (count_of_sources {s} l h) = let w = in_shape s 0 l (omega arith) in (omega arith, omega arith)
    table_bounds i (count_of_sinks {s} l h) = in_shape s 1 l (omega arith)
    table_bounds i (kind_of_source {s} {x} l m h) =
        let w = in_shape s (2 + x) l (omega arith) in (omega arith, omega arith)
    table_bounds i (kind_of_sink {s} {x} l m h) =
        let w = in_shape s (9 + x) l (omega arith) in (omega arith, omega arith)
    table_bounds i (no_shape {r} l h) = let w = in_entry r 0 l (omega arith) in (omega arith, omega arith)
    table_bounds i (main_shape l h) =
        let w = in_entry (main_of p) 0 (main_last header) (omega arith) in (omega arith, omega arith)
    table_bounds i (d_count {r} l h) = in_entry r 1 l (omega arith)
    table_bounds i (r_count {r} l h) = in_entry r 2 l (omega arith)
    table_bounds i (spare_entry {r} l h) = in_entry r 3 l (omega arith)

    abbrev Before : ℕ → Type 0
    Before i = Passes (table_legal p) header_end i

    -- the shapes come before the entries
    shapes_right : (r s : ℕ) → s < shapes p → Before (entry_at p r) → ShapeRule p s
    shapes_right r s l before =
        (shape p s).0 (λ k m.
        let i = shape_in s k l m in
        sym (shape_test s k l m)
        ∙ before (shape_at p s + k) (in_shape s k l m).0 (unfold entry_at in omega (arith, i.1)))

    main_says : (r : ℕ) → r ≡ main_of p → Before (entry_at p r) → shape_of p r < shapes p →
        Says (main_legal p (shape_of p r)) (MainRule p)
    main_says r e =
        subst
        (λ q. Before (entry_at p q) → shape_of p q < shapes p → Says (main_legal p (shape_of p q)) (MainRule p)) (sym e)
        (λ before l. main_legal_lem p (shapes_right (main_of p) (shape_of p (main_of p)) l before))

    -- what an entry's first byte is asked beyond its range
    first_says : (r : ℕ) → Before (entry_at p r) → shape_of p r < shapes p →
        Says (not (r =? main_of p) or main_legal p (shape_of p r)) (r ≡ main_of p → MainRule p)
    first_says r before l =
        let i = implies (r =? main_of p) (main_legal p (shape_of p r)) in (
          (λ q e. (main_says r e before l).0 (i.0 q (eq! e))),
          (λ h. i.1 (λ q. (main_says r (eq? q) before l).1 (h (eq? q)))),
        )

    -- from the test to the fault

    shape_to : (s : ℕ) → s < shapes p → (k : ℕ) → k < 16 → shape_legal p s k ≡ false → TableFault p (shape_at p s + k)
    shape_to s l =
        sixteen (λ k. shape_legal p s k ≡ false → TableFault p (shape_at p s + k))
        (λ e. subst (TableFault p) (omega arith) (count_of_sources l (le×? (sym (sources_byte p s) ∙ e))))
        (λ e. count_of_sinks l ((fails (sinks_byte p s) between_says).0 e))
        (λ x m e.
        subst (TableFault p) (omega arith) (kind_of_source l m ((fails (source_byte p s x m) (port_says s _ x _)).0 e)))
        (λ x m e.
        subst (TableFault p) (omega arith) (kind_of_sink l m ((fails (sink_byte p s x m) (port_says s _ x _)).0 e)))

    entry_first : (r : ℕ) → r < reactors p → Before (entry_at p r) → entry_legal p r 0 ≡ false →
        TableFault p (entry_at p r)
    entry_first r l before e =
        ⊎_elim
        (λ m.
        let w : (not (r =? main_of p) or main_legal p (shape_of p r)) ≡ false =
        sym (true_and _ (lt! m)) ∙ sym (shape_byte p r) ∙ e in
        let h = (says× (first_says r before m)).0 w in
        ⊎_elim
        (λ q.
        subst (λ (z : ℕ). TableFault p (entry_at p z)) (sym q)
        (main_shape (subst (λ (z : ℕ). shape_of p z < shapes p) q m) (λ u. h (λ _. u))))
        (λ q. absurd (h (λ z. absurd (q z))))
        (same? r (main_of p)))
        (λ m. no_shape l m)
        (below (shape_of p r) (shapes p))

    entry_to : (r : ℕ) → r < reactors p → (k : ℕ) → k < 4 → Before (entry_at p r + k) → entry_legal p r k ≡ false →
        TableFault p (entry_at p r + k)
    entry_to r l =
        first_four (λ k. k < 4 → Before (entry_at p r + k) → entry_legal p r k ≡ false → TableFault p (entry_at p r + k))
        (λ m before e.
        let q : entry_at p r ≡ entry_at p r + 0 = omega arith in
        subst (TableFault p) q (entry_first r l (subst Before (sym q) before) e))
        (λ m before e. d_count l (le×? (sym (declared_byte p r) ∙ e)))
        (λ m before e. r_count l ((fails (running_byte p r) between_says).0 e))
        (λ m before e. spare_entry l ((fails (last_byte p r) says_eq).0 e))
        (λ k g m. absurd (omega arith))

    abbrev To : ℕ → Type 0
    To i = Before i → table_legal p i ≡ false → TableFault p i

    globals_to : (i : ℕ) → header_end ≤ i → i < shape_at p 0 → To i
    globals_to i l m before e =
        let x : 7 + (i - 7) ≡ i = omega arith in
        let low : 1 ≤ i - 7 = omega arith in
        let high : i - 7 ≤ globals p = omega (arith, globals_end p) in
        let w = sym (global_test (i - 7) low high) ∙ ap (table_legal p) x ∙ e in
        subst (TableFault p) x (kind_of_global low high (let q : 2 ≤ global_kind p (i - 7) = lt×? w in omega arith))

    shapes_to : (i : ℕ) → shape_at p 0 ≤ i → i < entry_at p 0 → To i
    shapes_to =
        rows 16 (shape_at p 0) (omega arith) To (shapes p) (entry_at p 0) (shapes_end p) (λ s q k z before e.
        let at : shape_at p s + k ≡ shape_at p 0 + 16 * s + k = unfold shape_at in omega arith in
        subst (TableFault p) at (shape_to s q k z (sym (shape_test s k q z) ∙ ap (table_legal p) at ∙ e)))

    entries_to : (i : ℕ) → entry_at p 0 ≤ i → i < tables_end p → To i
    entries_to =
        rows 4 (entry_at p 0) (omega arith) To (reactors p) (tables_end p) (entries_end p) (λ r q k z before e.
        let at : entry_at p r + k ≡ entry_at p 0 + 4 * r + k = unfold entry_at in omega arith in
        subst (TableFault p) at
        (entry_to r q k z (subst Before (sym at) before) (sym (entry_test r k q z) ∙ ap (table_legal p) at ∙ e)))

    table_to : (i : ℕ) → header_end ≤ i → i < tables_end p → To i
    table_to i l m =
        ⊎_elim (globals_to i l) (λ a. ⊎_elim (shapes_to i a) (λ b. entries_to i b m) (below i (entry_at p 0)))
        (below i (shape_at p 0))

    -- and back

    at_shape : (s k i : ℕ) → s < shapes p → k < 16 → shape_at p s + k ≡ i → shape_legal p s k ≡ false →
        table_legal p i ≡ false
    at_shape s k i l m q e = ap (table_legal p) (sym q) ∙ shape_test s k l m ∙ e

    at_entry : (r k i : ℕ) → r < reactors p → k < 4 → entry_at p r + k ≡ i → entry_legal p r k ≡ false →
        table_legal p i ≡ false
    at_entry r k i l m q e = ap (table_legal p) (sym q) ∙ entry_test r k l m ∙ e

    table_back : {i : ℕ} → Before i → TableFault p i → table_legal p i ≡ false
    table_back before (kind_of_global {x} l m h) = global_test x l m ∙ lt× (omega arith)
    table_back before (count_of_sources {s} l h) =
        at_shape s 0 _ l (omega arith) (omega arith) (sources_byte p s ∙ le× h)
    table_back before (count_of_sinks {s} l h) =
        at_shape s 1 _ l (omega arith) refl ((fails (sinks_byte p s) between_says).1 h)
    table_back before (kind_of_source {s} {x} l m h) =
        at_shape s (2 + x) _ l (omega arith) (omega arith) ((fails (source_byte p s x m) (port_says s _ x _)).1 h)
    table_back before (kind_of_sink {s} {x} l m h) =
        at_shape s (9 + x) _ l (omega arith) (omega arith) ((fails (sink_byte p s x m) (port_says s _ x _)).1 h)
    table_back before (no_shape {r} l h) =
        at_entry r 0 _ l (omega arith) (omega arith) (shape_byte p r ∙ left× _ (lt× h))
    table_back before (main_shape l h) =
        at_entry (main_of p) 0 _ (main_last header) (omega arith) (omega arith)
        (shape_byte p (main_of p) ∙ right× _ ((says× (first_says (main_of p) before l)).1 (λ u. h (u refl))))
    table_back before (d_count {r} l h) = at_entry r 1 _ l (omega arith) refl (declared_byte p r ∙ le× h)
    table_back before (r_count {r} l h) =
        at_entry r 2 _ l (omega arith) refl ((fails (running_byte p r) between_says).1 h)
    table_back before (spare_entry {r} l h) =
        at_entry r 3 _ l (omega arith) refl ((fails (last_byte p r) says_eq).1 h)

    pub table_exact : (i : ℕ) → header_end ≤ i → i < tables_end p → Before i → (table_legal p i ≡ false) ↔ TableFault p i
    table_exact i l m before = (table_to i l m before, table_back before)
