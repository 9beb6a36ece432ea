-- A program is refused for its first fault, with its place: `first_fault`, and with it `check_numbers`.
use Rattle.std.specs.Prelude.{ℕ, zero, suc, ◌+◌, ◌-◌, ◌≤◌, ◌<◌, ◌≡◌, refl, Ok, Err}
use Rattle.std.proofs.Common.{sym, ◌∙◌, ap, subst₂, inl, inr, ⊎_elim}
use Rattle.std.specs.Prelude.{◌↔◌, ◌≢◌, Bool, true, false, List, length}
use Rattle.std.proofs.Math.Logic.Iff.{trans as iff_trans}
use Rattle.std.proofs.Common.{arith}
use Rattle.value.specs.Test.{pick, guard, sweep, ◌and◌, ◌≤?◌, ◌=?◌}
use Rattle.value.proofs.Tests.{cases, clash, below, same?, le!, le×, eq!, eq?, eq×, both!, both?, goes, stops, Says}
use Rattle.value.proofs.Tests.{says_le, says_eq, says_and, says×, says_guard}
use Rattle.value.proofs.Sweeps.{swept, sweeps?}
use Rattle.program.specs.Bytes.{most_bytes, header_end, reactors, main_of, entry_at, commands_in, tables_end, whole_length}
use Rattle.program.specs.Bytes.{command_at}
use Rattle.program.specs.Command.{Cmd, cmd_of, bytes_of, decode}
use Rattle.program.specs.Location.{size_of}
use Rattle.load.specs.Scan.{Scanned, refusal_of, scanned, scan_of, begin_of, complete}
use Rattle.load.specs.Refusal.{at_command}
use Rattle.answer.specs.Answer.{refusal_number, refusal_place, number_of}
use Rattle.load.specs.Tables.{header_legal, table_legal}
use Rattle.load.specs.Check.{ended, reactors_of, check_of}
use Rattle.load.specs.Rules.{HeaderRule, ReactorRule, TablesRight}
use Rattle.load.specs.Order.{OutOfOrder, source_again, sink_again, early_react, early_consume, late_supply}
use Rattle.load.specs.Order.{second_react, second_poly, second_keep, not_lower}
use Rattle.load.proofs.Accepted.{ReactorAccepted}
use Rattle.load.specs.Fault.{Between, HeaderFault, TableFault, Lowest, First, misformed, withdrawn, misplaced}
use Rattle.load.specs.Fault.{unlike, disordered, Passed, Lacks, react_missing, poly_missing, keep_missing}
use Rattle.load.specs.Fault.{sink_missing, Reached, Fault, length_wrong, header_byte, tables_cut, byte_of_table}
use Rattle.load.specs.Fault.{not_whole, command, missing, FirstFault, CheckNumber, CheckNumbers}
use Rattle.answer.specs.declared.Refusal.{Refusal}
use Rattle.answer.specs.declared.Refusal.TheVariants.{ProgramLength, TableByte, Missing}
use Rattle.answer.specs.Answer.{Answer}
use Rattle.answer.proofs.Refusals.{Told, told}
use Rattle.load.proofs.Exact.Bytes.{header, tables, header_first}
use Rattle.load.proofs.Exact.ByteFaults.{none_exact, lowest_found, lowest_is, header_exact, header_bounds}
use Rattle.load.proofs.Exact.ByteFaults.{table_exact, table_bounds}
use Rattle.load.proofs.Exact.Acceptance.{tables_inside}
use Rattle.load.proofs.Exact.Holds.{Holding}
use Rattle.load.proofs.Exact.PassesIfFits.{taken_exact}
use Rattle.load.proofs.Exact.Complete.{lacking}
use Rattle.load.proofs.Exact.Scanning.{refusal, scan_stops, scan_on, scan_found}
use Rattle.load.proofs.Exact.Reactor.{first_run, first_fits, reactor_exact}
use Rattle.load.proofs.Exact.First.{refusal_first, first_counts}

-- ---- one reactor

module _ (p : List ℕ) (r : ℕ) (t : TablesRight p) (low : r < reactors p) where
  -- the scan of the first k commands
  abbrev scan : ℕ → Scanned
  scan k = scan_of k p r (begin_of p r)

  module _ (k : ℕ) (few : k < commands_in p r) (z : (scan k).code ≡ 0) where
    held : Holding p r k (scan k).scan
    held = (first_run p r t low k (omega arith) z).1

    -- what command k is refused for, where those before it are taken
    next_first : (n : ℕ) → n ≢ 0 → (refusal p r (scan k).scan ≡ n) ↔ First p r k (cmd_of p r k) n
    unfolding cmd_of
    next_first n d =
        let at = ap (λ (j : ℕ). refusal_of p r (scan k).scan (bytes_of p r j) (decode (bytes_of p r j))) held.next in
        let f = refusal_first held t n d in
        ((λ e. f.0 (sym at ∙ e)), λ x. at ∙ f.1 x)

    stopped : (n : ℕ) → First p r k (cmd_of p r k) n →
        scan (commands_in p r) ≡ scanned n (command_at p r k) (scan k).scan
    stopped n f =
        let d = first_counts f in
        let e = (next_first n d).1 f in
        let m : k + suc (commands_in p r - suc k) ≡ commands_in p r = omega arith in
        scan_on p r k (suc (commands_in p r - suc k)) (commands_in p r) (begin_of p r) m z
        ∙ scan_stops p r (commands_in p r - suc k) (scan k).scan (λ q. d (sym e ∙ q))
        ∙ ap (λ (v : ℕ). scanned v (command_at p r (scan k).scan.next) (scan k).scan) e
        ∙ ap (λ (j : ℕ). scanned n (command_at p r j) (scan k).scan) held.next

  passed_exact : (k : ℕ) → k ≤ commands_in p r → ((scan k).code ≡ 0) ↔ Passed p r k
  passed_exact k few = (
    (λ z i n h f.
        let fits = (first_run p r t low k few z).0 in
        let y = first_fits p r t low i (omega arith) (λ j l. fits j (omega arith)) in
        let d = first_counts f in
        let e = (next_first i (omega arith) y n d).1 f in
        d (sym e ∙ (taken_exact (held i (omega arith) y) t).1 (fits i h))),
    (λ q.
        ⊎_elim (λ z. z)
        (λ d.
        let w = scan_found p r k (begin_of p r) d in
        let i = w.1 in
        absurd (q w.0 _ w.1 ((next_first w.0 (omega arith) w.2 _ w.3).0 refl)))
        (same? (scan k).code 0)),
  )

  -- what lacks breaks a rule
  rule_broken : Lacks p r → ReactorRule p r → ⊥
  rule_broken (react_missing {b} d n) u = let s = u.deployments b d in n s.at s.react.there s.react.is
  rule_broken (poly_missing {b} d n) u = let s = u.points b d in n s.0 s.1.there s.1.is
  rule_broken (keep_missing {b} d n) u = let s = u.cells b d in n s.0 s.1.there s.1.is
  rule_broken (sink_missing {x} l n) u = let s = u.set x l in n s.0 s.1.there s.1.is

  lacks_exact : (scan (commands_in p r)).code ≡ 0 → (complete (scan (commands_in p r)).scan ≡ false) ↔ Lacks p r
  lacks_exact z = (
    lacking p r (scan (commands_in p r)).scan (first_run p r t low (commands_in p r) (omega arith) z).1,
    (λ h.
        cases (complete (scan (commands_in p r)).scan)
        (λ e. absurd (rule_broken h ((reactor_exact p r t low).0 (z, e))))
        (λ e. e)),
  )

-- ---- the reactors

-- number and place of a command's refusal
order_number : {p : List ℕ} {r k n : ℕ} {c : Cmd} (q : ℕ) → OutOfOrder p r k c n →
    (refusal_number (at_command n q) ≡ n) × (refusal_place (at_command n q) ≡ q)
unfolding at_command pick ◌=?◌
order_number q (source_again n d) = (refl, refl)
order_number q (sink_again d) = (refl, refl)
order_number q (early_react n w) = (refl, refl)
order_number q (early_consume n) = (refl, refl)
order_number q (late_supply d) = (refl, refl)
order_number q (second_react d) = (refl, refl)
order_number q (second_poly d) = (refl, refl)
order_number q (second_keep d) = (refl, refl)
order_number q (not_lower l) = (refl, refl)

at_command_lem : {p : List ℕ} {r k n : ℕ} {c : Cmd} (q : ℕ) → First p r k c n →
    (refusal_number (at_command n q) ≡ n) × (refusal_place (at_command n q) ≡ q)
unfolding at_command pick ◌=?◌
at_command_lem q (misformed h) = (refl, refl)
at_command_lem q (withdrawn f h) = (refl, refl)
at_command_lem q (misplaced f y h) = (refl, refl)
at_command_lem q (unlike f y l h) = (refl, refl)
at_command_lem q (disordered f y l a o) = order_number q o

-- the refusal w is the one found
as_fault : (p : List ℕ) (v w : Refusal) {n q : ℕ} → ◌≡◌ {A = Answer} (Err v) (Err w) → refusal_number v ≡ n → refusal_place v ≡ q →
    Fault p n q → Fault p (refusal_number w) (refusal_place w)
as_fault p v w e a b f =
    let same : v ≡ w = cc in
    subst₂ (Fault p) (sym a ∙ ap refusal_number same) (sym b ∙ ap refusal_place same) f

module _ (p : List ℕ) (t : TablesRight p) where
  abbrev whole : ℕ → Scanned
  whole r = scan_of (commands_in p r) p r (begin_of p r)

  abbrev rest : ℕ → ℕ → Answer
  rest n r = reactors_of (Ok (size_of p (main_of p))) n p r

  -- what reactor r comes to, `more` being what the reactors after it come to
  abbrev at : (Unit {0} → Answer) → ℕ → Answer
  at more r = ended more (entry_at p r) (whole r) (whole r).code

  ended_goes : (more : Unit {0} → Answer) (entry : ℕ) (u : Scanned) (n : ℕ) → n ≡ 0 → complete u.scan ≡ true →
      ended more entry u n ≡ more tt
  unfolding ended
  ended_goes more entry u zero z e = sym (goes _ _ e refl)
  ended_goes more entry u (suc n) z e = absurd (omega arith)

  ended_misses : (more : Unit {0} → Answer) (entry : ℕ) (u : Scanned) (n : ℕ) → n ≡ 0 → complete u.scan ≡ false →
      ended more entry u n ≡ Err (Missing entry)
  unfolding ended
  ended_misses more entry u zero z e = sym (stops _ e refl)
  ended_misses more entry u (suc n) z e = absurd (omega arith)

  ended_stops : (more : Unit {0} → Answer) (entry : ℕ) (u : Scanned) (n : ℕ) → n ≢ 0 →
      ended more entry u n ≡ Err (at_command n u.place)
  unfolding ended
  ended_stops more entry u zero h = absurd (h refl)
  ended_stops more entry u (suc n) h = refl

  step : (n r : ℕ) → rest (suc n) r ≡ at (λ _. rest n (r + 1)) r
  unfolding reactors_of
  step n r = refl

  none_left : (r : ℕ) → rest 0 r ≡ Ok (size_of p (main_of p))
  unfolding reactors_of
  none_left r = refl

  -- past accepted reactors
  reactors_on : (d n r : ℕ) → ((q : ℕ) → r ≤ q → q < r + d → ReactorAccepted p q) → rest (d + n) r ≡ rest n (r + d)
  reactors_on zero n r h =
      let a : 0 + n ≡ n = omega arith in
      let b : r ≡ r + 0 = omega arith in
      ap (λ (j : ℕ). rest j r) a ∙ ap (rest n) b
  reactors_on (suc d) n r h =
      let a : suc d + n ≡ suc (d + n) = omega arith in
      let b : r + 1 + d ≡ r + suc d = omega arith in
      let here = h r (omega arith) (omega arith) in
      ap (λ (j : ℕ). rest j r) a ∙ step (d + n) r
      ∙ ended_goes (λ _. rest (d + n) (r + 1)) (entry_at p r) (whole r) (whole r).code here.0 here.1
      ∙ reactors_on d n (r + 1) (λ q l m. h q (omega arith) (omega arith)) ∙ ap (rest n) b

  -- to reactor r, where those before it are accepted
  reach : (r : ℕ) → r < reactors p → ((q : ℕ) → q < r → ReactorAccepted p q) →
      rest (reactors p) 0 ≡ at (λ _. rest (reactors p - suc r) (r + 1)) r
  reach r low h =
      let a : reactors p ≡ r + suc (reactors p - suc r) = omega arith in
      let b : 0 + r ≡ r = omega arith in
      ap (λ (j : ℕ). rest j 0) a ∙ reactors_on r (suc (reactors p - suc r)) 0 (λ q l m. h q (omega arith))
      ∙ ap (rest (suc (reactors p - suc r))) b ∙ step (reactors p - suc r) r

  abbrev accepts : ℕ → Bool
  accepts r = ((whole r).code =? 0) and complete (whole r).scan

  accepted_not : (z : ℕ) (w : Refusal) → Ok z ≡ Err w → ⊥
  accepted_not z w e = let x : ◌≡◌ {A = ℕ} 0 1 = cc in omega arith

  module _ (w : Refusal) where
    command_fault : (r : ℕ) → Reached p r → (whole r).code ≢ 0 →
        ◌≡◌ {A = Answer} (Err (at_command (whole r).code (whole r).place)) (Err w) → Fault p (refusal_number w) (refusal_place w)
    command_fault r a d e =
        let f = scan_found p r (commands_in p r) (begin_of p r) d in
        let k = f.0 in
        let first = (next_first p r t a.1 k f.1 f.2 _ f.3).0 refl in
        let s = stopped p r t a.1 k f.1 f.2 _ first in
        let number = at_command_lem (command_at p r k) first in
        let l = f.1 in
        let passed = (passed_exact p r t a.1 k (omega arith)).0 f.2 in
        as_fault p _ w (ap (λ (v : Scanned). Err (at_command v.code v.place)) (sym s) ∙ e)
        number.0 number.1 (command a f.1 passed first)

    reactor_found : (r : ℕ) → r < reactors p → ((q : ℕ) → q < r → ReactorAccepted p q) → accepts r ≡ false →
        rest (reactors p) 0 ≡ Err w → Fault p (refusal_number w) (refusal_place w)
    reactor_found r low before fails e =
        let reached : Reached p r = (t, low, λ q l. (reactor_exact p q t (omega arith)).0 (before q l)) in
        let comes = sym (reach r low before) ∙ e in
        ⊎_elim
        (λ z.
        let c : complete (whole r).scan ≡ false =
        cases (complete (whole r).scan) (λ y. clash (both! (eq! z) y) fails) (λ y. y) in
        let passed = (passed_exact p r t low (commands_in p r) (omega arith)).0 z in
        as_fault p (Missing (entry_at p r)) w (sym (ended_misses _ (entry_at p r) (whole r) (whole r).code z c) ∙ comes)
        refl refl (missing reached passed ((lacks_exact p r t low z).0 c)))
        (λ d. command_fault r reached d (sym (ended_stops _ (entry_at p r) (whole r) (whole r).code d) ∙ comes))
        (same? (whole r).code 0)

    reactors_found : rest (reactors p) 0 ≡ Err w → Fault p (refusal_number w) (refusal_place w)
    reactors_found e =
        let s = swept accepts 0 (reactors p) in
        let r = sweep accepts 0 (reactors p) in
        let before : (q : ℕ) → q < r → ReactorAccepted p q =
        λ q l. let a = both? (s.passed q (omega arith) l) in (eq? a.0, a.1) in
        ⊎_elim
        (λ low. reactor_found r low before (s.stopped (omega (arith, low))) e)
        (λ all.
        let n : reactors p + 0 ≡ reactors p = omega arith in
        let on = reactors_on (reactors p) 0 0 (λ q l m. before q (omega (arith, all))) in
        absurd (accepted_not _ w (sym (none_left (0 + reactors p)) ∙ sym on ∙ ap (λ (j : ℕ). rest j 0) n ∙ e)))
        (below r (reactors p))

  -- ---- and back

  accepted_before : (r : ℕ) → r < reactors p → ((q : ℕ) → q < r → ReactorRule p q) →
      (q : ℕ) → q < r → ReactorAccepted p q
  accepted_before r low h q l = (reactor_exact p q t (omega arith)).1 (h q l)

  command_refuses : {r k n : ℕ} → r < reactors p → ((q : ℕ) → q < r → ReactorRule p q) → k < commands_in p r →
      Passed p r k → First p r k (cmd_of p r k) n → rest (reactors p) 0 ≡ Err (at_command n (command_at p r k))
  command_refuses {r} {k} {n} low h few passed f =
      let s = stopped p r t low k few ((passed_exact p r t low k (omega arith)).1 passed) n f in
      reach r low (accepted_before r low h)
      ∙ ended_stops _ (entry_at p r) (whole r) (whole r).code
      (λ z. first_counts f (ap (λ (v : Scanned). v.code) (sym s) ∙ z))
      ∙ ap (λ (v : Scanned). Err (at_command v.code v.place)) s

  missing_refuses : {r : ℕ} → r < reactors p → ((q : ℕ) → q < r → ReactorRule p q) →
      Passed p r (commands_in p r) → Lacks p r → rest (reactors p) 0 ≡ Err (Missing (entry_at p r))
  missing_refuses {r} low h passed lacks =
      let z = (passed_exact p r t low (commands_in p r) (omega arith)).1 passed in
      reach r low (accepted_before r low h)
      ∙ ended_misses _ (entry_at p r) (whole r) (whole r).code z ((lacks_exact p r t low z).1 lacks)

-- ---- the ladder

module _ (p : List ℕ) where
  abbrev length_test : Bool
  length_test = (header_end ≤? length p) and (length p ≤? most_bytes)

  abbrev header_place : ℕ
  header_place = sweep (header_legal p) 0 header_end

  abbrev table_place : ℕ
  table_place = sweep (table_legal p) header_end (tables_end p - header_end)

  length_says : Says length_test (Between header_end most_bytes (length p))
  length_says = says_and says_le says_le

  header_says : Says (header_place =? header_end) (HeaderRule p)
  header_says = iff_trans (sweeps? (header_legal p) 0 header_end header_end refl) (header p)

  header_lowest : (header_place =? header_end) ≡ false → Lowest (HeaderFault p) header_place
  header_lowest =
      lowest_found (header_legal p) (HeaderFault p) 0 header_end header_end refl (header_bounds p)
      (λ i l m before. header_exact p i m)

  header_is : (i : ℕ) → Lowest (HeaderFault p) i → header_place ≡ i
  header_is =
      lowest_is (header_legal p) (HeaderFault p) 0 header_end header_end refl (header_bounds p)
      (λ i l m before. header_exact p i m)

  module _ (h : HeaderRule p) where
    count : header_end + (tables_end p - header_end) ≡ tables_end p
    count = omega (arith, header_first p)

    table_says : Says (table_place =? tables_end p) ((i : ℕ) → TableFault p i → ⊥)
    table_says =
        none_exact (table_legal p) (TableFault p) header_end (tables_end p - header_end) (tables_end p) count
        (table_bounds p h) (table_exact p h)

    table_lowest : (table_place =? tables_end p) ≡ false → Lowest (TableFault p) table_place
    table_lowest =
        lowest_found (table_legal p) (TableFault p) header_end (tables_end p - header_end) (tables_end p) count
        (table_bounds p h) (table_exact p h)

    table_is : (i : ℕ) → Lowest (TableFault p) i → table_place ≡ i
    table_is =
        lowest_is (table_legal p) (TableFault p) header_end (tables_end p - header_end) (tables_end p) count
        (table_bounds p h) (table_exact p h)

    -- no table byte at fault, and the whole length: the tables are right
    right : length p ≤ most_bytes → ((i : ℕ) → TableFault p i → ⊥) → length p ≡ whole_length p → TablesRight p
    right few none e =
        let swept = sweeps? (table_legal p) header_end (tables_end p - header_end) (tables_end p) count in
        let s = (tables p h).0 (swept.0 (table_says.1 none)) in
        record {
          few_bytes = few;
          header = h;
          global_kinds = s.0;
          every_shape = s.1;
          entries = s.2;
          main = s.3;
          whole = e;
        }

  abbrev last : Answer
  last = reactors_of (Ok (size_of p (main_of p))) (reactors p) p 0

  abbrev from_whole : Answer
  from_whole = guard (length p =? whole_length p) (Err (ProgramLength (length p))) (λ _. last)

  abbrev from_table : Answer
  from_table = guard (table_place =? tables_end p) (Err (TableByte table_place)) (λ _. from_whole)

  abbrev from_cut : Answer
  from_cut = guard (tables_end p ≤? length p) (Err (ProgramLength (length p))) (λ _. from_table)

  abbrev from_header : Answer
  from_header = guard (header_place =? header_end) (Err (TableByte header_place)) (λ _. from_cut)

  ladder : check_of p ≡ guard length_test (Err (ProgramLength (length p))) (λ _. from_header)
  unfolding check_of
  ladder = refl

  module _ (w : Refusal) where
    abbrev Found : Type 0
    Found = Fault p (refusal_number w) (refusal_place w)

    abbrev Is : Answer → Type 0
    Is c = c ≡ Err w

    found_table : Between (tables_end p) most_bytes (length p) → HeaderRule p → Is from_table → Found
    found_table b h e =
        elim ((says_guard Is (table_says h) _ _).0 e) [
          | inl a ↦ as_fault p _ w a.1 refl refl (byte_of_table b h (table_lowest h ((says× (table_says h)).1 a.0)))
          | inr a ↦ elim ((says_guard Is says_eq _ _).0 a.1) [
            | inl c ↦ as_fault p _ w c.1 refl refl (not_whole b h a.0 c.0)
            | inr c ↦ reactors_found p (right h b.1 a.0 c.0) w c.1
          ]
        ]

    found : Is (check_of p) → Found
    found e =
        elim ((says_guard Is length_says _ _).0 (sym ladder ∙ e)) [
          | inl a ↦ as_fault p _ w a.1 refl refl (length_wrong a.0)
          | inr a ↦ elim ((says_guard Is header_says _ _).0 a.1) [
            | inl b ↦ as_fault p _ w b.1 refl refl (header_byte a.0 (header_lowest ((says× header_says).1 b.0)))
            | inr b ↦ elim ((says_guard Is says_le _ _).0 b.1) [
              | inl c ↦
                  as_fault p _ w c.1 refl refl
                  (tables_cut a.0 b.0 (omega (arith, c.0)))
              | inr c ↦ found_table (c.0, a.0.1) b.0 c.1
            ]
          ]
        ]

  -- past each rung

  length_past : Between header_end most_bytes (length p) → {c : Answer} → from_header ≡ c → check_of p ≡ c
  length_past b e = ladder ∙ sym (goes _ _ (length_says.1 b) (sym e))

  header_past : Between header_end most_bytes (length p) → HeaderRule p → {c : Answer} → from_cut ≡ c → check_of p ≡ c
  header_past b h e = length_past b (sym (goes _ _ (header_says.1 h) (sym e)))

  cut_past : Between (tables_end p) most_bytes (length p) → HeaderRule p → {c : Answer} → from_table ≡ c → check_of p ≡ c
  cut_past b h e =
      header_past (omega (arith, b.0, header_first p), b.1) h (sym (goes _ _ (le! b.0) (sym e)))

  table_past : Between (tables_end p) most_bytes (length p) → HeaderRule p → ((i : ℕ) → TableFault p i → ⊥) →
      {c : Answer} → from_whole ≡ c → check_of p ≡ c
  table_past b h none e = cut_past b h (sym (goes _ _ ((table_says h).1 none) (sym e)))

  -- the commands are come to where the tables are right
  tables_past : TablesRight p → {c : Answer} → last ≡ c → check_of p ≡ c
  tables_past t e =
      let h = t.header in
      let passes = (tables p h).1 (t.global_kinds, t.every_shape, t.entries, t.main) in
      let swept = (sweeps? (table_legal p) header_end (tables_end p - header_end) (tables_end p) (count h)).1 passes in
      table_past (omega (arith, tables_inside p, t.whole), t.few_bytes) h ((table_says h).0 swept)
      (sym (goes _ _ (eq! t.whole) (sym e)))

  -- a refusal is given with the number and place of the fault
  pub fault_given : {n q : ℕ} → Fault p n q → Told (λ v. check_of p ≡ Err v) n q
  fault_given (length_wrong h) =
      (ProgramLength (length p), ladder ∙ sym (stops _ ((says× length_says).1 h) refl), refl, refl)
  fault_given (header_byte {i} b l) =
      let e : header_place ≡ i = header_is i l in
      let m : i < header_end = (header_bounds p i l.0).1 in
      (TableByte header_place, length_past b (sym (stops _ (eq× (λ q. omega arith)) refl)), refl, e)
  fault_given (tables_cut b h l) =
      (ProgramLength (length p), header_past b h (sym (stops _ (le× l) refl)), refl, refl)
  fault_given (byte_of_table {i} b h l) =
      let fails = (says× (table_says h)).1 (λ none. none i l.0) in
      (TableByte table_place, cut_past b h (sym (stops _ fails refl)), refl, table_is h i l)
  fault_given (not_whole b h none d) =
      (ProgramLength (length p), table_past b h none (sym (stops _ (eq× d) refl)), refl, refl)
  fault_given (command {r} {k} {n} a few passed f) =
      let number = at_command_lem (command_at p r k) f in (
        at_command n (command_at p r k),
        tables_past a.0 (command_refuses p a.0 a.1 a.2 few passed f),
        number.0,
        number.1,
      )
  fault_given (missing {r} a passed lacks) =
      (Missing (entry_at p r), tables_past a.0 (missing_refuses p a.0 a.1 a.2 passed lacks), refl, refl)

pub first_fault : FirstFault
first_fault p w = (found p w, λ f. told (λ v. check_of p ≡ Err v) w (fault_given p f))

-- ---- the numbers

order_told : {p : List ℕ} {r k n : ℕ} {c : Cmd} → OutOfOrder p r k c n → CheckNumber n
order_told (source_again n d) = inl (omega arith)
order_told (sink_again d) = inl (omega arith)
order_told (early_react n w) = inr (inl (omega arith, omega arith))
order_told (early_consume n) = inr (inl (omega arith, omega arith))
order_told (late_supply d) = inr (inl (omega arith, omega arith))
order_told (second_react d) = inr (inl (omega arith, omega arith))
order_told (second_poly d) = inr (inl (omega arith, omega arith))
order_told (second_keep d) = inr (inl (omega arith, omega arith))
order_told (not_lower l) = inr (inl (omega arith, omega arith))

first_told : {p : List ℕ} {r k n : ℕ} {c : Cmd} → First p r k c n → CheckNumber n
first_told (misformed h) = inl (omega arith)
first_told (withdrawn f h) = inr (inr refl)
first_told (misplaced f y h) = inl (omega arith)
first_told (unlike f y l h) = inl (omega arith)
first_told (disordered f y l a o) = order_told o

pub fault_number : {p : List ℕ} {n q : ℕ} → Fault p n q → CheckNumber n
fault_number (length_wrong h) = inl (omega arith)
fault_number (header_byte b l) = inl (omega arith)
fault_number (tables_cut b h l) = inl (omega arith)
fault_number (byte_of_table b h l) = inl (omega arith)
fault_number (not_whole b h none d) = inl (omega arith)
fault_number (command a few passed f) = first_told f
fault_number (missing a passed lacks) = inl (omega arith)

pub check_numbers : CheckNumbers
check_numbers p = by (check_of p) refl
  where
    by : (c : Answer) → check_of p ≡ c → CheckNumber (number_of (check_of p))
    by (Ok size) e = rw e (inl (omega arith))
    by (Err w) e = rw e (fault_number ((first_fault p w).0 e))
