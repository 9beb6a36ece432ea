-- 4.15, 4.16, 4.19 Words in a C caller's bytes, and an answer as one number.
use Rattle.std.specs.Prelude.{ℕ, ◌+◌, ◌*◌, ◌/◌, ◌%◌, List, [], ◌∷◌, ◌++◌, length, drop}
use Rattle.value.specs.Test.{pick, ◌<?◌}

-- a word of four bytes, low byte first
abbrev pub word : ℕ → ℕ → ℕ → ℕ → ℕ
word a b c d = a + b * 256 + c * 65536 + d * 16777216

-- the whole words of some bytes
unfoldable pub words_of : List ℕ → List ℕ
words_of [] = []
words_of (a ∷ []) = []
words_of (a ∷ b ∷ []) = []
words_of (a ∷ b ∷ c ∷ []) = []
words_of (a ∷ b ∷ c ∷ d ∷ s) = word a b c d ∷ words_of s

-- the bytes of some words
unfoldable pub bytes_of : List ℕ → List ℕ
bytes_of [] = []
bytes_of (w ∷ ws) = w % 256 ∷ w / 256 % 256 ∷ w / 65536 % 256 ∷ w / 16777216 % 256 ∷ bytes_of ws

-- the bytes s once they hold these words, from the first on; what lies past them stays
unfoldable pub holding : List ℕ → List ℕ → List ℕ
holding s ws = bytes_of ws ++ drop (4 * length ws) s

-- the largest place that an answer can have
abbrev pub most_place : ℕ
most_place = 4294967295

-- number and place as one number of 64 bits; a larger place is told as the largest
unfoldable pub packed : ℕ → ℕ → ℕ
packed number place = number * 4294967296 + pick (place <? most_place) place most_place
