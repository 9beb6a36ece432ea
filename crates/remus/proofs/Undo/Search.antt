-- A chain that has new members before old ones: `below` goes along it to the first old one.
use Rattle.std.specs.Prelude.{ℕ, zero, suc, ◌+◌, ◌≤◌, ◌<◌, ◌≡◌, refl, List}
use Rattle.std.proofs.Common.{sym, ◌∙◌, ap, arith}
use Rattle.value.proofs.Tests.{le!, le×, goes, stops}
use Rattle.program.specs.Bytes.{reactors}
use Rattle.image.specs.Memory.{main_at, used, next}
use Rattle.image.specs.Sound.{Tiles, Deployed, Chain}
use Rattle.image.proofs.Memory.Distinct.{Members, end, one, few_members}
use Rattle.remus.specs.Undo.{below}

-- the chain from c is members from u on, then the chain from c₀
pub data Newer (p m : List ℕ) (u c₀ : ℕ) : ℕ → Type 0 where
  as_was : Newer p m u c₀ c₀
  one_more : {c : ℕ} → Deployed p m c → u ≤ c → Newer p m u c₀ (next m c) → Newer p m u c₀ c

module _ (s : List ℕ) (u : ℕ) where
  below_here : (f c : ℕ) → c < u → below (suc f) s u c ≡ c
  unfolding below
  below_here f c h = sym (stops _ (le× h) refl)

  below_next : (f c : ℕ) → u ≤ c → below (suc f) s u c ≡ below f s u (next s c)
  unfolding below
  below_next f c h = sym (goes _ _ (le! h) refl)

-- the words s need have the chain's nexts from u on only; n is the count of its members
below_from : {p m : List ℕ} {u c₀ c : ℕ} (f n : ℕ) (s : List ℕ) → ((d : ℕ) → u ≤ d → next s d ≡ next m d) → c₀ < u
    → Newer p m u c₀ c → Members m c n → n < f → below f s u c ≡ c₀
below_from zero n s same low new k h = absurd (omega arith)
below_from {u = u} {c₀ = c₀} (suc f) n s same low as_was k h = below_here s u f c₀ low
below_from (suc f) n s same low (one_more dep l new) end h = absurd (omega arith)
below_from {m = m} {u = u} (suc f) n s same low (one_more {c = c} dep l new) (one {n = k} e more) h =
    below_next s u f c l ∙ ap (below f s u) (same c l) ∙ below_from {c = next m c} f k s same low new more (omega arith)

pub below_newer : {p m : List ℕ} {o x u c₀ c : ℕ} (s : List ℕ) → ((d : ℕ) → u ≤ d → next s d ≡ next m d) → c₀ < u
    → Newer p m u c₀ c → Chain p m o x c → Tiles p m (used m) main_at → below (reactors p + 1) s u c ≡ c₀
below_newer {p} s same low new ch tl =
    let k = few_members tl ch in
    below_from (reactors p + 1) k.0 s same low new k.1 (omega (arith, k.2))
