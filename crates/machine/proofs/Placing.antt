-- The table of places, one location further.
-- Assumes nothing.
use Rattle.std.specs.Prelude.{ℕ, suc, ◌+◌, ◌*◌, ◌≤◌, ◌<◌, ◌≡◌, refl, true, List, length}
use Rattle.std.proofs.Common.{sym, ◌∙◌, ap, subst, ⊎_elim}
use Rattle.std.specs.Prelude.{set}
use Rattle.std.proofs.Common.{arith}
use lib.Seq.{get_or-set_same, get_or-set_other}
use Rattle.value.specs.Test.{pick}
use Rattle.value.proofs.Tests.{below}
use Rattle.program.specs.Bytes.{byte, commands_d, commands_r, command_at}
use Rattle.program.specs.Command.{Cmd, takes_words, decode, bytes_at, bytes_of, cmd_of, gives, alloc_mono, make_poly}
use Rattle.program.specs.Command.{constant, global, supply, react, consume, sink, alloc_poly, primitive, cell, fetch}
use Rattle.program.specs.Command.{keep, none}
use Rattle.program.specs.Location.{slot_at, results}
use Rattle.program.specs.declared.Command.{Command}
use Rattle.program.proofs.Slots.{first_r, slot_r, slot_up}
use Rattle.image.specs.Memory.{reactor}
use Rattle.remus.specs.Steady.{ReadsUpTo}
use Rattle.machine.specs.Clauses.{Placed, PlacedTo, UpTo, Reaches}

-- the table t₁ is t with entry l
pub placed_next : (p t t₁ : List ℕ) (r l n : ℕ) → l < length t → t₁ ≡ set t l n → PlacedTo p r t l
    → 3 + 2 * n ≡ slot_at p r l → PlacedTo p r t₁ (l + 1)
placed_next p t t₁ r l n h e f g k q =
    rw e
    (⊎_elim
    (λ (d : k < l). ap (λ (x : ℕ). 3 + 2 * x) (get_or-set_other t l k n 0 (omega arith)) ∙ f k d)
    (λ (d : l ≤ k). let s : k ≡ l = omega arith in rw s (ap (λ (x : ℕ). 3 + 2 * x) (get_or-set_same t l n 0 h) ∙ g))
    (below k l))

-- the place of R command j, where m of the locations before it have words
pub place_r_lem : (p : List ℕ) (r first m j : ℕ) → first ≡ first_r p r → j ≤ commands_r p r → m ≡ first_r p r + results p r j
    → 3 + 2 * m ≡ slot_at p r (first + j)
place_r_lem p r first m j f h e =
    let s : first_r p r + j ≡ first + j = omega arith in omega (arith, e, slot_r p r j h, ap (slot_at p r) s)

-- how many they are, one command further: b is its code
pub results_next : (p : List ℕ) (r at j m b n : ℕ) → at ≡ command_at p r (commands_d p r) → b ≡ byte p (at + 8 * j)
    → ((c : Command) → c.code ≡ b → n ≡ pick (takes_words (decode c)) 1 0) → m ≡ first_r p r + results p r j
    → m + n ≡ first_r p r + results p r (j + 1)
unfolding results command_at bytes_of cmd_of bytes_at
results_next p r at j m b n e f g h =
    let s : j + 1 ≡ suc j = omega arith in
    rw s (omega (arith, h, g (bytes_of p r (commands_d p r + j)) (ap (byte p) (omega arith) ∙ sym f)))

-- what a command reads has its place, where the table goes as far as the command's own location l
pub reads_at : (p m t : List ℕ) (o r l k : ℕ) → reactor m o ≡ r → PlacedTo p r t (l + 1) → k ≤ l
    → Placed p (reactor m o) t k
reads_at p m t o r l k e f h = subst (λ (x : ℕ). Placed p x t k) (sym e) (f k (omega arith))

-- and none lies past the words at `here`, which are the command's own
pub reaches : (p t : List ℕ) (r o l here n : ℕ) → PlacedTo p r t (l + 1) → here ≡ o + slot_at p r l → (c : Cmd)
    → ReadsUpTo l c → (takes_words c ≡ true → here + 1 < n) → Reaches t o here n c
unfolding takes_words
reaches p t r o l here n placed e = by
  where
    up : (k : ℕ) → k ≤ l → UpTo t o here k
    up k h = let a = placed k (omega arith) in let b = slot_up p r k l h in omega arith

    by : (c : Cmd) → ReadsUpTo l c → (takes_words c ≡ true → here + 1 < n) → Reaches t o here n c
    by (alloc_mono x) h own = tt
    by (make_poly x) h own = tt
    by (cell x v) h own = tt
    by (gives (constant x v)) h own = own refl
    by (gives (global x)) h own = own refl
    by (gives (consume x b)) h own = (own refl, up b h)
    by (gives (primitive x a b c)) h own = (own refl, up a h.0, up b h.1)
    by (gives (fetch b)) h own = (own refl, up b h)
    by (supply x a b) h own = tt
    by (react b) h own = tt
    by (sink x a) h own = tt
    by (alloc_poly a b) h own = (own refl, up a h.0, up b h.1)
    by (keep a b) h own = (own refl, up a h.0)
    by none h own = tt
