-- Lists of values: how many meanings expressions have, and the first values of a deployment as a list.
use Rattle.std.specs.Prelude.{ℕ, zero, suc, ◌≤◌, ◌<◌, ◌≡◌, refl, ◌⊎◌, List, [], ◌∷◌, ◌++◌}
use Rattle.std.proofs.Common.{sym, ◌∙◌, ap, inl, inr}
use Rattle.std.specs.Prelude.{length, get_or}
use Rattle.std.proofs.Common.{arith}
use lib.ListN.{length-append}
use lib.Seq.{ext_get_or}
use Rattle.value.specs.Value.{blank}
use Rattle.value.specs.declared.Value.{Value}
use Rattle.value.proofs.Tests.{below}
use Rattle.haai.specs.Syntax.{Exprs, none, also, count_of}
use Rattle.haai.specs.Meaning.{Function, meaning, meanings}
use Rattle.haai.proofs.Lists.{snoc_less, snoc_last}

pub length_meanings : (gs : ℕ → Value) (es : Exprs) (fs : List Function) (vs : List Value)
    → length (meanings gs es fs vs) ≡ count_of es
unfolding meanings count_of
length_meanings gs none fs vs = refl
length_meanings gs (also es e) fs vs =
    let h = length_meanings gs es fs vs in
    let q = length-append (meanings gs es fs vs) (meaning gs e fs vs ∷ []) in
    omega arith

-- the first n values of f
abbrev pub first_values : (ℕ → Value) → ℕ → List Value
first_values f zero = []
first_values f (suc n) = first_values f n ++ (f n ∷ [])

length_first : (f : ℕ → Value) (n : ℕ) → length (first_values f n) ≡ n
length_first f zero = refl
length_first f (suc n) =
    let h = length_first f n in let q = length-append (first_values f n) (f n ∷ []) in omega arith

pub first_at_lem : (f : ℕ → Value) (n i : ℕ) → i < n → get_or (first_values f n) i blank ≡ f i
first_at_lem f zero i h = absurd (omega arith)
first_at_lem f (suc n) i h = by (λ l. first_at_lem f n i l) (below i n)
  where
    by : (i < n → get_or (first_values f n) i blank ≡ f i) → (i < n) ⊎ (n ≤ i)
        → get_or (first_values f (suc n)) i blank ≡ f i
    by g (inl l) = snoc_less (first_values f n) (f n) blank n i (length_first f n) l ∙ g l
    by g (inr l) =
        let e : i ≡ n = omega arith in
        snoc_last (first_values f n) (f n) blank n i (length_first f n) e ∙ ap f (sym e)

-- the first values of f are a list's elements
pub first_of : (f : ℕ → Value) (vs : List Value) (n : ℕ) → length vs ≡ n
    → ((x : ℕ) → x < n → f x ≡ get_or vs x blank) → first_values f n ≡ vs
first_of f vs n e h =
    let k = length_first f n in
    ext_get_or blank (first_values f n) vs (k ∙ sym e) (λ x l. first_at_lem f n x (omega arith) ∙ h x (omega arith))
