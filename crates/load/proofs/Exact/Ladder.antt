-- The ladder of the check: a program is accepted where it passes each step.
use Rattle.std.specs.Prelude.{ℕ, zero, suc, ◌+◌, ◌-◌, ◌≤◌, ◌<◌, ◌≡◌, refl, ◌↔◌, true, List, length, Ok, Err}
use Rattle.std.proofs.Common.{ap, arith}
use Rattle.value.proofs.Tests.{le!, le?, eq!, eq?, both!, both?, guards}
use Rattle.value.proofs.Sweeps.{from_more, Passes, sweeps?}
use Rattle.program.specs.Bytes.{most_bytes, header_end, reactors, main_of, entry_at, tables_end, whole_length, commands_in}
use Rattle.program.specs.Location.{size_of}
use Rattle.load.specs.Tables.{header_legal, table_legal}
use Rattle.load.specs.Scan.{Scanned, scan_of, begin_of, complete}
use Rattle.answer.specs.Answer.{refusal_number, number_of}
use Rattle.load.specs.Check.{ended, reactors_of, check_of, IsAccepted}
use Rattle.load.specs.Rules.{AcceptedSize}
use Rattle.load.proofs.Accepted.{ReactorAccepted}
use Rattle.answer.proofs.Refusals.{refusal_counts}
use Rattle.load.proofs.Exact.Bytes.{header_first}
use Rattle.answer.specs.declared.Refusal.{Refusal}
use Rattle.answer.specs.declared.Refusal.TheVariants.{Missing}
use Rattle.answer.specs.Answer.{Answer}

-- the steps, in the order of the check
pub record Passed (p : List ℕ) : Type 0 where
  pub some_bytes : header_end ≤ length p
  pub few_bytes : length p ≤ most_bytes
  pub header_bytes_lem : Passes (header_legal p) 0 header_end
  pub tables_inside : tables_end p ≤ length p
  pub table_bytes_lem : Passes (table_legal p) header_end (tables_end p)
  pub whole : length p ≡ whole_length p
  pub every_reactor : (r : ℕ) → r < reactors p → ReactorAccepted p r

-- Of a property that no refusal has: the check's answer has it where each step is passed and the last answer has it.
module _ (P : Answer → Type 0) (never : (w : Refusal) → P (Err w) → ⊥) where
  ends : (more : Unit {0} → Answer) (entry : ℕ) (t : Scanned) (n : ℕ) →
      P (ended more entry t n) ↔ ((n ≡ 0) × (complete t.scan ≡ true) × P (more tt))
  unfolding ended
  ends more entry t zero =
      let g = guards P (complete t.scan) (Err (Missing entry)) more (never _) in
      (λ h. let a = g.0 h in (refl, a.0, a.1), λ h. g.1 (h.1, h.2))
  ends more entry t (suc n) = (λ h. absurd (never _ h), λ h. absurd (omega (arith, h.0)))

  reactors_pass : (accepted : Answer) (n : ℕ) (p : List ℕ) (r : ℕ) →
      P (reactors_of accepted n p r) ↔ (((i : ℕ) → r ≤ i → i < r + n → ReactorAccepted p i) × P accepted)
  unfolding reactors_of
  reactors_pass accepted zero p r = (λ h. (λ i l m. absurd (omega arith), h), λ h. h.1)
  reactors_pass accepted (suc n) p r =
      let t = scan_of (commands_in p r) p r (begin_of p r) in
      let here = ends (λ u. reactors_of accepted n p (r + 1)) (entry_at p r) t t.code in
      let rest = reactors_pass accepted n p (r + 1) in (
        λ h.
            let a = here.0 h in
            let b = rest.0 a.2 in
            (from_more (ReactorAccepted p) r _ (a.0, a.1) (λ i l m. b.0 i l (omega arith)), b.1),
        λ h.
            let a = h.0 r (omega arith) (omega arith) in
            here.1 (a.0, a.1, rest.1 (λ i l m. h.0 i (omega arith) (omega arith), h.1)),
      )

  passes : (p : List ℕ) → P (check_of p) ↔ (Passed p × P (Ok (size_of p (main_of p))))
  unfolding check_of
  passes p =
      let header = sweeps? (header_legal p) 0 header_end header_end refl in
      let after = header_first p in
      let table = sweeps? (table_legal p) header_end (tables_end p - header_end) (tables_end p) (omega arith) in
      let rest = reactors_pass (Ok (size_of p (main_of p))) (reactors p) p 0 in (
        λ h.
            let a = (guards P _ _ _ (never _)).0 h in
            let b = (guards P _ _ _ (never _)).0 a.1 in
            let c = (guards P _ _ _ (never _)).0 b.1 in
            let d = (guards P _ _ _ (never _)).0 c.1 in
            let e = (guards P _ _ _ (never _)).0 d.1 in
            let f = rest.0 e.1 in
            let lengths = both? a.0 in (
              record {
                some_bytes = le? lengths.0;
                few_bytes = le? lengths.1;
                header_bytes_lem = header.0 b.0;
                tables_inside = le? c.0;
                table_bytes_lem = table.0 d.0;
                whole = eq? e.0;
                every_reactor = λ r l. f.0 r (omega arith) (omega arith);
              },
              f.1,
            ),
        λ h.
            let s = h.0 in
            (guards P _ _ _ (never _)).1 (
              both! (le! s.some_bytes) (le! s.few_bytes),
              (guards P _ _ _ (never _)).1 (
                header.1 s.header_bytes_lem,
                (guards P _ _ _ (never _)).1 (
                  le! s.tables_inside,
                  (guards P _ _ _ (never _)).1 (
                    table.1 s.table_bytes_lem,
                    (guards P _ _ _ (never _)).1 (
                      eq! s.whole,
                      rest.1 (λ r l m. s.every_reactor r (omega arith), h.1),
                    ),
                  ),
                ),
              ),
            ),
      )

pub accepted : (p : List ℕ) → IsAccepted p ↔ Passed p
accepted p =
    let w = passes (λ (c : Answer). number_of c ≡ 0) (λ w e. omega (arith, refusal_counts w)) p in
    (λ h. (w.0 h).0, λ h. w.1 (h, refl))

pub accepted_size : AcceptedSize
accepted_size p h =
    (passes (λ (c : Answer). c ≡ Ok (size_of p (main_of p)))
    (λ w e. let z : refusal_number w ≡ 0 = ap number_of e in omega (arith, refusal_counts w)) p).1
    ((accepted p).0 h, refl)
