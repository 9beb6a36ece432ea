-- The entries, and the running sum of the reactors' commands, one reactor further and up to the program's end.
-- Assumes nothing.
use Rattle.std.specs.Prelude.{ℕ, zero, suc, ◌+◌, ◌-◌, ◌*◌, ◌≤◌, ◌<◌, ◌≡◌, refl, List}
use Rattle.std.proofs.Common.{◌∙◌, ap, arith}
use native.Mathlib.Numerals.{add-one}
use Rattle.program.specs.Bytes.{shapes, shape_at, entry_at, tables_end, commands_in, commands_at, reactors, main_of}
use Rattle.program.specs.Bytes.{whole_length}

pub commands_first : (p : List ℕ) → commands_at p 0 ≡ tables_end p
unfolding commands_at
commands_first p = refl

pub commands_next : (p : List ℕ) (r : ℕ) → commands_at p (r + 1) ≡ commands_at p r + 8 * commands_in p r
unfolding commands_at
commands_next p r = rw add-one

-- the commands of lower reactors stand before
commands_up : (p : List ℕ) (r n : ℕ) → commands_at p r ≤ commands_at p (r + n)
commands_up p r zero = let e : r + 0 ≡ r = omega arith in rw e (omega arith)
commands_up p r (suc n) = let e : r + suc n ≡ r + n + 1 = omega arith in rw e
    (omega (arith, commands_up p r n, commands_next p (r + n)))

pub commands_before : (p : List ℕ) (r q : ℕ) → r ≤ q → commands_at p r ≤ commands_at p q
commands_before p r q h = let e : r + (q - r) ≡ q = omega arith in omega
    (arith, commands_up p r (q - r), ap (commands_at p) e)

pub commands_within : (p : List ℕ) (r : ℕ) → r < reactors p → commands_at p r + 8 * commands_in p r ≤ whole_length p
unfolding whole_length
commands_within p r h = omega (arith, commands_next p r, commands_before p (r + 1) (reactors p) (omega arith))

pub tables_within : (p : List ℕ) → tables_end p ≤ whole_length p
unfolding whole_length
tables_within p = omega (arith, commands_first p, commands_before p 0 (reactors p) (omega arith))

-- main's commands are the last
pub main_commands : (p : List ℕ) → 0 < reactors p → whole_length p ≡ commands_at p (main_of p) + 8 * commands_in p
    (main_of p)
unfolding whole_length main_of
main_commands p h = let e : reactors p ≡ reactors p - 1 + 1 = omega arith in ap (commands_at p) e ∙ commands_next p
    (reactors p - 1)

pub entry_first : (p : List ℕ) → entry_at p 0 ≡ shape_at p (shapes p)
unfolding entry_at
entry_first p = omega arith

pub entry_next : (p : List ℕ) (r : ℕ) → entry_at p (r + 1) ≡ entry_at p r + 4
unfolding entry_at
entry_next p r = omega arith
