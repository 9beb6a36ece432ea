-- All bytes from the program's end on are 0, so the eight from there are the eight from any later place.
-- Assumes nothing.
use Rattle.std.specs.Prelude.{ℕ, ◌+◌, ◌≤◌, ◌≡◌, List, length, min}
use Rattle.std.proofs.Common.{sym, ◌∙◌, ap, arith, inl, inr}
use Rattle.value.proofs.Tests.{below}
use lib.ListN.{get_or-eq_default}
use Rattle.program.specs.Bytes.{byte}
use Rattle.program.specs.Command.{bytes_at}
use Rattle.program.proofs.EqualByBytes.{same_command}

module _ (p : List ℕ) where
  same_byte : {i j : ℕ} → length p ≤ i → length p ≤ j → byte p i ≡ byte p j
  unfolding byte
  same_byte h g = get_or-eq_default p 0 h ∙ sym (get_or-eq_default p 0 g)

  same_bytes : {at : ℕ} → length p ≤ at → bytes_at p (length p) ≡ bytes_at p at
  unfolding bytes_at
  same_bytes {at} h = same_command (same_byte (omega arith) h) (off 1) (off 2) (off 3) (off 4) (off 5) (off 6) (off 7)
    where
      off : (k : ℕ) → byte p (length p + k) ≡ byte p (at + k)
      off k = same_byte (omega arith) (omega arith)

  pub same_nearest : (i at : ℕ) → i ≡ min at (length p) → bytes_at p i ≡ bytes_at p at
  same_nearest i at e = elim (below at (length p)) [
    | inl h ↦ ap (bytes_at p) (omega arith)
    | inr h ↦ ap (bytes_at p) (omega arith) ∙ same_bytes h
  ]
