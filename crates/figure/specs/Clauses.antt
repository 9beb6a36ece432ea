-- What the contracts of the code speak of beside the definitions: a table with a row for each reactor, the lowest that
-- is circular if there is one, and numbers that are counted no further than the most words of a memory.
use Rattle.std.specs.Prelude.{ℕ, ◌+◌, ◌<◌, ◌≡◌, Bool, List, length, get_or, Option, MatchOption}
use Rattle.value.specs.Test.{pick, ◌<?◌, ◌and◌, ◌or◌}
use Rattle.program.specs.Bytes.{reactors}
use Rattle.figure.specs.Steps.{found, reached}
use Rattle.figure.specs.Figure.{lowest_circular}
use Rattle.image.specs.Memory.{most_words}

-- ---- a table t with a row for each of n reactors

-- each row says where f holds
pub record Table (t : List (List Bool)) (n : ℕ) (f : ℕ → ℕ → Bool) : Type 0 where
  pub long : length t ≡ 64
  pub says : (r q : ℕ) → r < n → q < n → found t r q ≡ f r q

-- by f, and by two ways of f that meet at k
abbrev pub through_at : ℕ → (ℕ → ℕ → Bool) → ℕ → ℕ → Bool
through_at k f r q = f r q or (f r k and f k q)

-- r is the lowest reactor that is needed and reaches itself, if there is one
abbrev pub Lowest : List ℕ → Option ℕ → Type 0
Lowest p r =
    let q = lowest_circular p (reached p) in
    MatchOption r (q ≡ reactors p) (λ k. (q ≡ k) × (k < reactors p))

-- ---- numbers up to one more than the most words

unfoldable pub capped : ℕ → ℕ
capped n = pick (n <? most_words + 1) n (most_words + 1)

-- a table of 256 such numbers
abbrev pub Capped : List ℕ → (ℕ → ℕ) → Type 0
Capped t b = (q : ℕ) → q < 256 → get_or t q 0 ≡ capped (b q)

-- f of the first r, and 0
abbrev pub up_to : (ℕ → ℕ) → ℕ → ℕ → ℕ
up_to f r q = pick (q <? r) (f q) 0
