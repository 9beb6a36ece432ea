-- A change taken apart: a deployment after it is an old or a new one, and of two sides one may be none.
use Rattle.std.specs.Prelude.{ℕ, ◌⊎◌, List}
use Rattle.std.proofs.Common.{sym, subst, inl, inr, ⊎_elim}
use Rattle.image.specs.Memory.{reactor}
use Rattle.image.specs.Sound.{Deployed}
use Rattle.image.proofs.Memory.Changes.{Change}

pub or_else : {A : Type 0} → ⊥ ⊎ A → A
or_else (inl z) = absurd z
or_else (inr z) = z

pub or_none : {A : Type 0} → A ⊎ ⊥ → A
or_none (inl z) = z
or_none (inr z) = absurd z

-- Z is said of a deployment by its reactor, which an old one keeps
pub old_or_new : (p : List ℕ) {W : ℕ → ℕ → Type 0} {N L : ℕ → Type 0} {m m' : List ℕ}
    → Change p W N L m m' → (Z : ℕ → Type 0) (d : ℕ) → Deployed p m' d
    → (Deployed p m d → Z (reactor m d)) → (N d → Z (reactor m' d)) → Z (reactor m' d)
old_or_new p c Z d t' old new = ⊎_elim (λ t. subst Z (sym (c.reactors d t)) (old t)) new (c.back d t')
