-- 5.3 The whole check, a number and a place: the length, the header, the length of the tables, their bytes, the whole
-- length; then reactor by reactor the commands, and what is missing at the end.
use Rattle.std.specs.Prelude.{ℕ, zero, suc, ◌+◌, ◌-◌, ◌≡◌, List, length, Ok, Err}
use Rattle.value.specs.Test.{◌and◌, ◌≤?◌, ◌=?◌, guard, sweep}
use Rattle.program.specs.Bytes.{most_bytes, header_end, reactors, main_of, entry_at, tables_end, whole_length, commands_in}
use Rattle.program.specs.Location.{size_of}
use Rattle.load.specs.Scan.{Scanned, scan_of, begin_of, complete}
use Rattle.load.specs.Refusal.{at_command}
use Rattle.answer.specs.Answer.{number_of}
use Rattle.load.specs.Tables.{header_legal, table_legal}
use Rattle.answer.specs.declared.Refusal.TheVariants.{ProgramLength, TableByte, Missing}
use Rattle.answer.specs.Answer.{Answer, Ruling}

-- what a reactor's scan comes to: the refusal of a command at its byte, 7 at the reactor's end, or on
unfoldable pub ended : (Unit {0} → Answer) → ℕ → Scanned → ℕ → Answer
ended more entry t zero = guard (complete t.scan) (Err (Missing entry)) more
ended more entry t (suc n) = Err (at_command (suc n) t.place)

-- the n reactors from r on, then `accepted`
unfoldable pub reactors_of : Answer → ℕ → List ℕ → ℕ → Answer
reactors_of accepted zero p r = accepted
reactors_of accepted (suc n) p r =
    let t = scan_of (commands_in p r) p r (begin_of p r) in
    ended (λ _. reactors_of accepted n p (r + 1)) (entry_at p r) t t.code

-- accepted, with the size of main
abbrev pub accepted : List ℕ → Answer
accepted p = Ok (size_of p (main_of p))

unfoldable pub check_of : List ℕ → Answer
check_of p =
    guard ((header_end ≤? length p) and (length p ≤? most_bytes)) (Err (ProgramLength (length p))) (λ _.
    let h = sweep (header_legal p) 0 header_end in
    guard (h =? header_end) (Err (TableByte h)) (λ _.
    guard (tables_end p ≤? length p) (Err (ProgramLength (length p))) (λ _.
    let t = sweep (table_legal p) header_end (tables_end p - header_end) in
    guard (t =? tables_end p) (Err (TableByte t)) (λ _.
    guard (length p =? whole_length p) (Err (ProgramLength (length p))) (λ _.
    reactors_of (accepted p) (reactors p) p 0)))))

-- the answer of a ruling
unfoldable pub checked : List ℕ → Ruling → Answer
checked p (Ok tt) = accepted p
checked p (Err w) = Err w

-- the program is accepted
abbrev pub IsAccepted : List ℕ → Type 0
IsAccepted p = number_of (check_of p) ≡ 0
