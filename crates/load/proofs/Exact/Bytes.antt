-- Which bytes of the header and the tables are legal, against the rules: each byte passes
-- its test where the rules hold.
use Rattle.std.specs.Prelude.{ℕ, ◌+◌, ◌-◌, ◌*◌, ◌≤◌, ◌<◌, ◌≡◌, refl, ◌↔◌, true, not, List}
use Rattle.std.proofs.Common.{sym, ◌∙◌, ap, ap₂, subst}
use Rattle.std.proofs.Common.{arith}
use native.Mathlib.Nat.{le_trans}
use Rattle.value.specs.Test.{pick, ◌=?◌, ◌≤?◌, ◌<?◌, ◌and◌, ◌or◌}
use Rattle.value.specs.Value.{reactor_kind, truth_kind}
use Rattle.value.proofs.Tests.{cases, lt!, lt×, lt?, lt×?, le!, le?, eq!, eq×, eq?, both!, both?, implies, yes, no}
use Rattle.value.proofs.Sweeps.{Passes, sweeps?}
use Rattle.program.specs.Bytes.{byte, header_end, most_shapes, most_reactors, most_globals, shapes, reactors, globals}
use Rattle.program.specs.Bytes.{shape_at, sources_in, sinks_in, source_kind, sink_kind, entry_at, shape_of, commands_d}
use Rattle.program.specs.Bytes.{commands_r, main_of, global_kind, tables_end}
use Rattle.program.specs.Location.{source_count, sink_count}
use Rattle.load.specs.Tables.{between, header_legal, port_legal, shape_legal, main_legal, entry_legal, table_legal}
use Rattle.load.specs.Rules.{HeaderRule, ShapeRule, EntryRule, MainRule}
use Rattle.load.proofs.Exact.Widths.{chosen, parted, by_rows, sixteen, first_four}
use Rattle.load.proofs.Exact.Bounds.{main_last}

between! : {lo hi x : ℕ} → lo ≤ x → x ≤ hi → between lo hi x ≡ true
between! l h = both! (le! l) (le! h)

between? : {lo hi x : ℕ} → between lo hi x ≡ true → (lo ≤ x) × (x ≤ hi)
between? e = let b = both? e in (le? b.0, le? b.1)

-- the kinds of a shape's ports, count of them used
record Ports (s count : ℕ) (kind : ℕ → ℕ) : Type 0 where
  used : (x : ℕ) → x < count → kind x < reactor_kind s
  unused : (x : ℕ) → count ≤ x → x < 7 → kind x ≡ 0

ports : (s count : ℕ) (kind : ℕ → ℕ) → count ≤ 7 →
    ((x : ℕ) → x < 7 → port_legal s count x (kind x) ≡ true) ↔ Ports s count kind
unfolding port_legal
ports s count kind few = (
  λ h. record {
    used = λ x l. lt? (((chosen x count _ _).0 (h x (omega arith))).0 l);
    unused = λ x l m. eq? (((chosen x count _ _).0 (h x m)).1 l);
  },
  λ r x l. (chosen x count _ _).1 (λ m. lt! (r.used x m), λ m. eq! (r.unused x m l)),
)

module _ (p : List ℕ) where
  -- ---- header: what the test of each byte comes to, and all together

  pub format_byte : header_legal p 0 ≡ (byte p 0 =? 1)
  unfolding header_legal pick ◌=?◌
  format_byte = refl

  pub shapes_byte : header_legal p 1 ≡ between 1 most_shapes (shapes p)
  unfolding header_legal shapes pick ◌=?◌
  shapes_byte = refl

  pub reactors_byte : header_legal p 2 ≡ between 1 most_reactors (reactors p)
  unfolding header_legal reactors pick ◌=?◌
  reactors_byte = refl

  pub globals_byte : header_legal p 3 ≡ (globals p ≤? most_globals)
  unfolding header_legal globals pick ◌=?◌
  globals_byte = refl

  pub zero_byte : (i : ℕ) → 4 ≤ i → header_legal p i ≡ (byte p i =? 0)
  unfolding header_legal
  zero_byte i l = sym (no _ (eq× (λ e. omega arith))
      (no _ (eq× (λ e. omega arith)) (no _ (eq× (λ e. omega arith)) (no _ (eq× (λ e. omega arith)) refl))))

  pub header : Passes (header_legal p) 0 header_end ↔ HeaderRule p
  header = (
    λ h.
        let shape = between? (sym shapes_byte ∙ h 1 (omega arith) (omega arith)) in
        let reactor = between? (sym reactors_byte ∙ h 2 (omega arith) (omega arith)) in
        record {
          format = eq? (sym format_byte ∙ h 0 (omega arith) (omega arith));
          some_shape = shape.0;
          few_shapes = shape.1;
          some_reactor = reactor.0;
          few_reactors = reactor.1;
          few_globals = le? (sym globals_byte ∙ h 3 (omega arith) (omega arith));
          zeros = λ i l m. eq? (sym (zero_byte i l) ∙ h i (omega arith) m);
        },
    λ r.
        first_four (λ (i : ℕ). 0 ≤ i → i < header_end → header_legal p i ≡ true)
        (λ l m. format_byte ∙ eq! r.format)
        (λ l m. shapes_byte ∙ between! r.some_shape r.few_shapes)
        (λ l m. reactors_byte ∙ between! r.some_reactor r.few_reactors)
        (λ l m. globals_byte ∙ le! r.few_globals)
        (λ i k l m. zero_byte i k ∙ eq! (r.zeros i k m)),
  )

  -- ---- shapes: the same, by columns

  module _ (s : ℕ) where
    pub sources_byte : shape_legal p s 0 ≡ (sources_in p s ≤? 7)
    unfolding shape_legal sources_in pick ◌=?◌
    sources_byte = ap (λ (i : ℕ). byte p i ≤? 7) (omega arith)

    pub sinks_byte : shape_legal p s 1 ≡ between 1 7 (sinks_in p s)
    unfolding shape_legal sinks_in pick ◌=?◌
    sinks_byte = refl

    -- the kind of port x, counted from column `first`
    port_byte : (first count x : ℕ) → port_legal s count (first + x - first) (byte p (shape_at p s + (first + x)))
        ≡ port_legal s count x (byte p (shape_at p s + first + x))
    port_byte first count x = ap₂ (port_legal s count) (omega arith) (ap (byte p) (omega arith))

    pub source_byte : (x : ℕ) → x < 7 → shape_legal p s (2 + x) ≡ port_legal s (sources_in p s) x (source_kind p s x)
    unfolding shape_legal source_kind
    source_byte x l = sym (no _ (eq× (λ e. omega arith))
        (no _ (eq× (λ e. omega arith)) (yes _ (lt! (omega arith)) (sym (port_byte 2 (sources_in p s) x)))))

    pub sink_byte : (x : ℕ) → x < 7 → shape_legal p s (9 + x) ≡ port_legal s (sinks_in p s) x (sink_kind p s x)
    unfolding shape_legal sink_kind
    sink_byte x l = sym (no _ (eq× (λ e. omega arith))
        (no _ (eq× (λ e. omega arith)) (no _ (lt× (omega arith)) (sym (port_byte 9 (sinks_in p s) x)))))

    pub shape : ((k : ℕ) → k < 16 → shape_legal p s k ≡ true) ↔ ShapeRule p s
    shape = (
      λ h.
          let few : sources_in p s ≤ 7 = le? (sym sources_byte ∙ h 0 (omega arith)) in
          let some = between? (sym sinks_byte ∙ h 1 (omega arith)) in
          let source = (ports s (sources_in p s) (source_kind p s) few).0
          (λ x l. sym (source_byte x l) ∙ h (2 + x) (omega arith)) in
          let sink = (ports s (sinks_in p s) (sink_kind p s) some.1).0
          (λ x l. sym (sink_byte x l) ∙ h (9 + x) (omega arith)) in
          record {
            few_sources = few;
            some_sink = some.0;
            few_sinks = some.1;
            source_kinds = source.used;
            sink_kinds = sink.used;
            no_source = source.unused;
            no_sink = sink.unused;
          },
      λ r.
          let source = (ports s (sources_in p s) (source_kind p s) r.few_sources).1
          (record { used = r.source_kinds; unused = r.no_source }) in
          let sink = (ports s (sinks_in p s) (sink_kind p s) r.few_sinks).1
          (record { used = r.sink_kinds; unused = r.no_sink }) in
          sixteen (λ (k : ℕ). shape_legal p s k ≡ true)
          (sources_byte ∙ le! r.few_sources)
          (sinks_byte ∙ between! r.some_sink r.few_sinks)
          (λ x l. source_byte x l ∙ source x l)
          (λ x l. sink_byte x l ∙ sink x l),
    )

  -- ---- entries: the same, by columns

  module _ (r : ℕ) where
    pub shape_byte :
        entry_legal p r 0 ≡ ((shape_of p r <? shapes p) and (not (r =? main_of p) or main_legal p (shape_of p r)))
    unfolding entry_legal shape_of pick ◌=?◌
    shape_byte =
        ap (λ (i : ℕ). (byte p i <? shapes p) and (not (r =? main_of p) or main_legal p (byte p i))) (omega arith)

    pub declared_byte : entry_legal p r 1 ≡ (commands_d p r ≤? 32)
    unfolding entry_legal commands_d pick ◌=?◌
    declared_byte = refl

    pub running_byte : entry_legal p r 2 ≡ between 1 128 (commands_r p r)
    unfolding entry_legal commands_r pick ◌=?◌
    running_byte = refl

    pub last_byte : entry_legal p r 3 ≡ (byte p (entry_at p r + 3) =? 0)
    unfolding entry_legal pick ◌=?◌
    last_byte = refl

    entry : ((k : ℕ) → k < 4 → entry_legal p r k ≡ true)
        ↔ (EntryRule p r × (r ≡ main_of p → main_legal p (shape_of p r) ≡ true))
    entry = (
      λ h.
          let first = both? (sym shape_byte ∙ h 0 (omega arith)) in
          let commands_r = between? (sym running_byte ∙ h 2 (omega arith)) in (
            record {
              shape = lt? first.0;
              few_declared = le? (sym declared_byte ∙ h 1 (omega arith));
              some_running = commands_r.0;
              few_running = commands_r.1;
              zero_byte = eq? (sym last_byte ∙ h 3 (omega arith));
            },
            λ e. (implies _ _).0 first.1 (eq! e),
          ),
      λ h.
          first_four (λ (k : ℕ). k < 4 → entry_legal p r k ≡ true)
          (λ l. shape_byte ∙ both! (lt! h.0.shape) ((implies _ _).1 (λ e. h.1 (eq? e))))
          (λ l. declared_byte ∙ le! h.0.few_declared)
          (λ l. running_byte ∙ between! h.0.some_running h.0.few_running)
          (λ l. last_byte ∙ eq! h.0.zero_byte)
          (λ k g l. absurd (omega arith)),
    )

  -- ---- main

  -- the test asks all seven sinks, and may: those past the last are of kind 0
  pub main_legal_lem : ShapeRule p (shape_of p (main_of p)) → (main_legal p (shape_of p (main_of p)) ≡ true) ↔ MainRule p
  unfolding main_legal source_count sink_count
  main_legal_lem shape =
      let s = shape_of p (main_of p) in
      let w = sweeps? (λ x. sink_kind p s x <? 2) 0 7 7 refl in (
        λ h.
            let b = both? h in
            record {
              no_sources = eq? b.0;
              plain_sinks = λ x l.
                  let k : sink_kind p s x < 2 = lt? (w.0 b.1 x (omega arith) (omega arith)) in
                  omega arith;
            },
        λ r.
            both! (eq! r.no_sources)
            (w.1 (λ x l m.
            cases (x <? sinks_in p s)
            (λ e. lt! (let k : sink_kind p s x ≤ 1 = r.plain_sinks x (lt? e) in omega arith))
            (λ e. lt! (let k : sink_kind p s x ≡ 0 = shape.no_sink x (lt×? e) m in omega arith)))),
      )

  -- ---- all tables

  -- Global x is byte 7 + x.
  pub global_byte : (x : ℕ) → 1 ≤ x → global_kind p x ≡ byte p (7 + x)
  unfolding global_kind
  global_byte x l = sym (no _ (eq× (λ e. omega arith)) refl)

  global_kinds : Passes (λ i. byte p i <? 2) header_end (shape_at p 0)
      ↔ ((x : ℕ) → 1 ≤ x → x ≤ globals p → global_kind p x ≤ truth_kind)
  unfolding shape_at
  global_kinds = (
    λ h x l m.
        let k : byte p (7 + x) < 2 = lt? (h (7 + x) (omega arith) (omega arith)) in
        omega (arith, global_byte x l),
    λ r i l m.
        lt! (let k : global_kind p (i - 7) ≤ 1 = r (i - 7) (omega arith) (omega arith) in
        let e : byte p (7 + (i - 7)) ≡ byte p i = ap (byte p) (omega arith) in
        omega (arith, global_byte (i - 7) (omega arith))),
  )

  pub shapes_end : shape_at p 0 + 16 * shapes p ≡ entry_at p 0
  unfolding shape_at entry_at
  shapes_end = omega arith

  pub entries_end : entry_at p 0 + 4 * reactors p ≡ tables_end p
  unfolding entry_at tables_end
  entries_end = omega arith

  pub globals_end : header_end + globals p ≡ shape_at p 0
  unfolding shape_at
  globals_end = omega arith

  pub header_first : header_end ≤ tables_end p
  header_first = omega (arith, globals_end, shapes_end, entries_end)

  -- the bytes of the globals, of each shape and of each entry
  pub three_tables : Passes (table_legal p) header_end (tables_end p) ↔
      (Passes (λ i. byte p i <? 2) header_end (shape_at p 0) ×
      ((s : ℕ) → s < shapes p → (k : ℕ) → k < 16 → shape_legal p s k ≡ true) ×
      ((r : ℕ) → r < reactors p → (k : ℕ) → k < 4 → entry_legal p r k ≡ true))
  unfolding table_legal
  three_tables =
      let shape = by_rows 16 (shape_at p 0) (omega arith) (λ s k. shape_legal p s k ≡ true) (shapes p)
      (entry_at p 0) shapes_end in
      let entry = by_rows 4 (entry_at p 0) (omega arith) (λ r k. entry_legal p r k ≡ true) (reactors p)
      (tables_end p) entries_end in
      let first : shape_at p 0 ≤ entry_at p 0 = omega (arith, shapes_end) in
      let second : entry_at p 0 ≤ tables_end p = omega (arith, entries_end) in
      let after = parted _ _ header_end (shape_at p 0) (tables_end p) (omega (arith, globals_end))
      (le_trans first second) in
      let within = parted _ _ (shape_at p 0) (entry_at p 0) (tables_end p) first second in (
        λ h. let a = after.0 h in let b = within.0 a.1 in (a.0, shape.0 b.0, entry.0 b.1),
        λ h. after.1 (h.0, within.1 (shape.1 h.1, entry.1 h.2)),
      )

  pub tables : HeaderRule p → Passes (table_legal p) header_end (tables_end p) ↔
      (((x : ℕ) → 1 ≤ x → x ≤ globals p → global_kind p x ≤ truth_kind) ×
      ((s : ℕ) → s < shapes p → ShapeRule p s) ×
      ((r : ℕ) → r < reactors p → EntryRule p r) ×
      MainRule p)
  tables header = (
    λ h.
        let t = three_tables.0 h in
        let every_shape : (s : ℕ) → s < shapes p → ShapeRule p s = (λ s l. (shape s).0 (t.1 s l)) in
        let last = (entry (main_of p)).0 (t.2 (main_of p) (main_last header)) in (
          global_kinds.0 t.0,
          every_shape,
          λ r l. ((entry r).0 (t.2 r l)).0,
          (main_legal_lem (every_shape _ last.0.shape)).0 (last.1 refl),
        ),
    λ h.
        let main = (main_legal_lem (h.1 _ (h.2 (main_of p) (main_last header)).shape)).1 h.3 in
        three_tables.1 (
          global_kinds.1 h.0,
          λ s l. (shape s).1 (h.1 s l),
          λ r l. (entry r).1 (h.2 r l, λ e. subst (λ (m : ℕ). main_legal p (shape_of p m) ≡ true) (sym e) main),
        ),
  )
