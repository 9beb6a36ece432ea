-- The table of positions, one reactor further.
-- Assumes nothing.
use Rattle.std.specs.Prelude.{ℕ, ◌+◌, ◌≤◌, ◌<◌, ◌≡◌, List, length, get_or, set}
use Rattle.std.proofs.Common.{◌∙◌, ⊎_elim, arith}
use lib.Seq.{get_or-set_same, get_or-set_other}
use Rattle.value.proofs.Tests.{below}
use Rattle.program.specs.Bytes.{commands_at}

pub positions_next : (p places places₁ : List ℕ) (r at : ℕ) → r < length places → at ≡ commands_at p r
    → ((k : ℕ) → k < r → get_or places k 0 ≡ commands_at p k) → places₁ ≡ set places r at
    → (k : ℕ) → k < r + 1 → get_or places₁ k 0 ≡ commands_at p k
positions_next p places places₁ r at l e h s k q =
    rw s
    (⊎_elim (λ (d : k < r). get_or-set_other places r k at 0 (omega arith) ∙ h k d)
    (λ (d : r ≤ k). let x : k ≡ r = omega arith in rw x (get_or-set_same places r at 0 l ∙ e)) (below k r))
