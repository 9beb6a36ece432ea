-- Header and tables whose bytes are all legal are as the scan asks; and the bytes by rows: globals,
-- shapes, entries. Assumes nothing.
use Rattle.std.specs.Prelude.{ℕ, ◌+◌, ◌-◌, ◌≤◌, ◌<◌, ◌≡◌, refl, Bool, true, not}
use Rattle.std.proofs.Common.{sym, ◌∙◌, ap, subst}
use Rattle.std.proofs.lemmas.Bool.{false≢true}
use Rattle.std.specs.Prelude.{List, length}
use Rattle.std.proofs.Common.{arith}
use lib.Dec.{eqb}
use Rattle.value.specs.Test.{sweep, pick, ◌and◌, ◌or◌, ◌≤?◌, ◌<?◌, ◌=?◌}
use Rattle.value.proofs.Sweeps.{sweeps, sweeps?, sweep_more}
use Rattle.value.proofs.Tests.{both!, both?, cases, eq!, eq?, le!, le?, lt!, lt?, lt×, no, same_test, yes}
use Rattle.program.specs.Bytes.{byte, shape_at, entry_at, main_of, shapes, reactors, globals, sources_in, sinks_in}
use Rattle.program.specs.Bytes.{source_kind, sink_kind, tables_end, commands_in}
use Rattle.load.specs.Tables.{between, header_legal, port_legal, shape_legal, main_legal, entry_legal, table_legal}
use Rattle.load.specs.Rules.{EntryRule}
use Rattle.load.specs.Clauses.{LegalTables}
use Rattle.load.proofs.Exact.Bytes.{header, tables, header_first, globals_end, sources_byte, sinks_byte}
use Rattle.load.proofs.Exact.Bytes.{source_byte, sink_byte, three_tables}
use Rattle.load.proofs.Exact.Widths.{sixteen}

pub few_commands : (p : List ℕ) (r : ℕ) → EntryRule p r → commands_in p r ≤ 160
unfolding commands_in
few_commands p r e = omega arith

pub legal_tables :
    (p : List ℕ) →
    sweep (header_legal p) 0 8 ≡ 8 →
    sweep (table_legal p) 8 (tables_end p - 8) ≡ tables_end p →
    LegalTables p
legal_tables p h t =
    let top = (header p).0 ((sweeps (header_legal p) 0 8 8 refl).0 h) in
    let end : 8 + (tables_end p - 8) ≡ tables_end p = omega (arith, header_first p) in
    let rules = (tables p top).0 ((sweeps (table_legal p) 8 (tables_end p - 8) (tables_end p) end).0 t) in
    record {
      some_shape = top.some_shape;
      few_sources = λ s l. (rules.1 s l).few_sources;
      shape = λ r l. (rules.2 r l).shape;
      few_commands = λ r l. few_commands p r (rules.2 r l);
    }

pub some_reactor : (p : List ℕ) → sweep (header_legal p) 0 8 ≡ 8 → 0 < reactors p
some_reactor p h = ((header p).0 ((sweeps (header_legal p) 0 8 8 refl).0 h)).some_reactor

pub few_reactors : (p : List ℕ) → sweep (header_legal p) 0 8 ≡ 8 → reactors p ≤ 64
few_reactors p h = ((header p).0 ((sweeps (header_legal p) 0 8 8 refl).0 h)).few_reactors

-- ---- the bytes by rows

module _ (ok : ℕ → Bool) where
  first_one : ok 0 ≡ (sweep ok 0 1 =? 1)
  unfolding sweep ◌=?◌ ◌and◌
  first_one = sweep_more ok 0

  one_more : (n : ℕ) {t : Bool} → t ≡ (sweep ok 0 n =? n) → (t and ok n) ≡ (sweep ok 0 (n + 1) =? n + 1)
  one_more n e = ap (λ (t : Bool). t and ok n) e ∙ sweep_more ok n

  pub four : (((ok 0 and ok 1) and ok 2) and ok 3) ≡ (sweep ok 0 4 =? 4)
  four = one_more 3 (one_more 2 (one_more 1 first_one))

  pub eight : ((((((((ok 0 and ok 1) and ok 2) and ok 3) and ok 4) and ok 5) and ok 6) and ok 7)) ≡ (sweep ok 0 8 =? 8)
  eight = one_more 7 (one_more 6 (one_more 5 (one_more 4 four)))

-- where shapes and entries stand
module _ (p : List ℕ) where
  pub shape_inside : (s : ℕ) → s < shapes p → entry_at p 0 ≤ length p → shape_at p s + 16 ≤ length p
  unfolding shape_at entry_at
  shape_inside s h l = omega arith

  pub entry_inside : (r : ℕ) → r < reactors p → tables_end p ≤ length p → entry_at p r + 4 ≤ length p
  unfolding tables_end entry_at
  entry_inside r h l = omega arith

  pub entries_inside : (r : ℕ) → entry_at p 0 ≤ entry_at p r
  unfolding entry_at
  entries_inside r = omega arith

  pub shape_next : (s : ℕ) → shape_at p (s + 1) ≡ shape_at p s + 16
  unfolding shape_at
  shape_next s = omega arith

  pub entry_next : (r : ℕ) → entry_at p (r + 1) ≡ entry_at p r + 4
  unfolding entry_at
  entry_next r = omega arith

-- a port's kind beside the highest that it may have
module _ (s n x k : ℕ) where
  pub port_low : x < n → (k ≤? s + 1) ≡ port_legal s n x k
  unfolding port_legal
  port_low h =
      same_test _ _ (λ e. let w : k ≤ s + 1 = le? e in sym (sym (lt! (omega arith)) ∙ yes _ (lt! h) refl))
      (λ e. cases (k <? 2 + s) (λ q. let w : k < 2 + s = lt? q in le! (omega arith))
      (λ q. absurd (false≢true (sym q ∙ yes _ (lt! h) refl ∙ e))))

  pub port_past : n ≤ x → (k ≤? 0) ≡ port_legal s n x k
  unfolding port_legal
  port_past h =
      same_test _ _ (λ e. let w : k ≤ 0 = le? e in sym (sym (eq! (omega arith)) ∙ no _ (lt× h) refl))
      (λ e. cases (k =? 0) (λ q. let w : k ≡ 0 = eq? q in le! (omega arith))
      (λ q. absurd (false≢true (sym q ∙ no _ (lt× h) refl ∙ e))))

-- the bytes of an entry
module _ (p : List ℕ) (r : ℕ) where
  pub entry_shape : ((byte p (entry_at p r) <? shapes p) and
      (not (r =? main_of p) or main_legal p (byte p (entry_at p r)))) ≡ entry_legal p r 0
  unfolding entry_legal pick ◌=?◌
  entry_shape = let e : entry_at p r ≡ entry_at p r + 0 = omega arith in ap
      (λ (i : ℕ). (byte p i <? shapes p) and (not (eqb r (main_of p)) or main_legal p (byte p i))) e

  pub entry_declared : (byte p (entry_at p r + 1) ≤? 32) ≡ entry_legal p r 1
  unfolding entry_legal pick ◌=?◌
  entry_declared = refl

  pub entry_running : between 1 128 (byte p (entry_at p r + 2)) ≡ entry_legal p r 2
  unfolding entry_legal pick ◌=?◌
  entry_running = refl

  pub entry_zero : (byte p (entry_at p r + 3) =? 0) ≡ entry_legal p r 3
  unfolding entry_legal pick ◌=?◌
  entry_zero = refl

module _ (p : List ℕ) where
  pub shape_row : (s : ℕ) →
      ((sources_in p s ≤? 7) and between 1 7 (sinks_in p s)
      and (sweep (λ (x : ℕ). port_legal s (sources_in p s) x (source_kind p s x)) 0 7 =? 7)
      and (sweep (λ (x : ℕ). port_legal s (sinks_in p s) x (sink_kind p s x)) 0 7 =? 7))
      ≡ (sweep (shape_legal p s) 0 16 =? 16)
  shape_row s =
      let all = sweeps? (shape_legal p s) 0 16 16 refl in
      let source = sweeps? (λ (x : ℕ). port_legal s (sources_in p s) x (source_kind p s x)) 0 7 7 refl in
      let sink = sweeps? (λ (x : ℕ). port_legal s (sinks_in p s) x (sink_kind p s x)) 0 7 7 refl in
      same_test _ _
      (λ e.
      let a = both? e in
      let b = both? a.1 in
      let c = both? b.1 in
      all.1 (λ k l m.
      sixteen (λ (k : ℕ). shape_legal p s k ≡ true) (sources_byte p s ∙ a.0) (sinks_byte p s ∙ b.0)
      (λ x h. source_byte p s x h ∙ source.0 c.0 x (omega arith) h)
      (λ x h. sink_byte p s x h ∙ sink.0 c.1 x (omega arith) h) k m))
      (λ e.
      let h : (k : ℕ) → k < 16 → shape_legal p s k ≡ true = (λ k m. all.0 e k (omega arith) m) in
      both! (sym (sources_byte p s) ∙ h 0 (omega arith))
      (both! (sym (sinks_byte p s) ∙ h 1 (omega arith))
      (both! (source.1 (λ x l m. sym (source_byte p s x m) ∙ h (2 + x) (omega arith)))
      (sink.1 (λ x l m. sym (sink_byte p s x m) ∙ h (9 + x) (omega arith))))))

  pub all_rows :
      ((sweep (λ (i : ℕ). byte p (8 + i) <? 2) 0 (globals p) =? globals p)
      and (sweep (λ (s : ℕ). sweep (shape_legal p s) 0 16 =? 16) 0 (shapes p) =? shapes p)
      and (sweep (λ (r : ℕ). sweep (entry_legal p r) 0 4 =? 4) 0 (reactors p) =? reactors p))
      ≡ (sweep (table_legal p) 8 (tables_end p - 8) =? tables_end p)
  all_rows =
      let end : 8 + (tables_end p - 8) ≡ tables_end p = omega (arith, header_first p) in
      let all = sweeps? (table_legal p) 8 (tables_end p - 8) (tables_end p) end in
      let global = sweeps? (λ (i : ℕ). byte p (8 + i) <? 2) 0 (globals p) (globals p) (omega arith) in
      let shape = sweeps? (λ (s : ℕ). sweep (shape_legal p s) 0 16 =? 16) 0 (shapes p) (shapes p) (omega arith) in
      let entry = sweeps? (λ (r : ℕ). sweep (entry_legal p r) 0 4 =? 4) 0 (reactors p) (reactors p) (omega arith) in
      same_test _ _
      (λ e.
      let a = both? e in
      let b = both? a.1 in
      all.1 ((three_tables p).1 (
        λ i l m. subst (λ (j : ℕ). (byte p j <? 2) ≡ true) {x = 8 + (i - 8)} (omega arith)
            (global.0 a.0 (i - 8) (omega arith) (omega (arith, globals_end p))),
        λ s l k m. (sweeps? (shape_legal p s) 0 16 16 refl).0 (shape.0 b.0 s (omega arith) l) k (omega arith) m,
        λ r l k m. (sweeps? (entry_legal p r) 0 4 4 refl).0 (entry.0 b.1 r (omega arith) l) k (omega arith) m,
      )))
      (λ e.
      let t = (three_tables p).0 (all.0 e) in
      both! (global.1 (λ i l m. t.0 (8 + i) (omega arith) (omega (arith, globals_end p))))
      (both! (shape.1 (λ s l m. (sweeps? (shape_legal p s) 0 16 16 refl).1 (λ k i j. t.1 s m k j)))
      (entry.1 (λ r l m. (sweeps? (entry_legal p r) 0 4 4 refl).1 (λ k i j. t.2 r m k j)))))
