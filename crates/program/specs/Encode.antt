-- 2.11 The bytes of a command, for what writes programs: `decode` reads them back.
use Rattle.std.specs.Prelude.{ℕ, ◌/◌, ◌%◌, ◌<◌, ◌≡◌, List, [], ◌∷◌, ◌++◌}
use Rattle.program.specs.Command.{Give, Cmd, bytes_at, decode, alloc_mono, make_poly, cell, gives, supply, react, sink}
use Rattle.program.specs.Command.{alloc_poly, keep, none, constant, global, consume, primitive, fetch}

-- 2.11 The code, x, a, b, and v with its low byte first.
unfoldable pub eight : ℕ → ℕ → ℕ → ℕ → ℕ → List ℕ
eight code x a b v = code ∷ x ∷ a ∷ b ∷ v % 256 ∷ v / 256 % 256 ∷ v / 65536 % 256 ∷ v / 16777216 % 256 ∷ []

-- 2.32 Code and bytes, as the command table has them; a byte that a command does not name is 0.
unfoldable pub encode_give : Give → List ℕ
encode_give (constant x v) = eight 3 x 0 0 v
encode_give (global x) = eight 4 x 0 0 0
encode_give (consume x b) = eight 7 x 0 b 0
encode_give (primitive x a b c) = eight 10 x a b c
encode_give (fetch b) = eight 12 0 0 b 0

unfoldable pub encode : Cmd → List ℕ
encode (alloc_mono x) = eight 1 x 0 0 0
encode (make_poly x) = eight 2 x 0 0 0
encode (cell x v) = eight 11 x 0 0 v
encode (gives g) = encode_give g
encode (supply x a b) = eight 5 x a b 0
encode (react b) = eight 6 0 0 b 0
encode (sink x a) = eight 8 x a 0 0
encode (alloc_poly a b) = eight 9 0 a b 0
encode (keep a b) = eight 13 0 a b 0
encode none = eight 0 0 0 0 0

unfoldable pub encode_all : List Cmd → List ℕ
encode_all [] = []
encode_all (c ∷ cs) = encode c ++ encode_all cs

-- ---- what is read back

-- v fits in four bytes, and a third operand in one
abbrev pub SmallGive : Give → Type 0
SmallGive (constant x v) = v < 4294967296
SmallGive (global x) = Unit {0}
SmallGive (consume x b) = Unit {0}
SmallGive (primitive x a b c) = c < 256
SmallGive (fetch b) = Unit {0}

abbrev pub Small : Cmd → Type 0
Small (alloc_mono x) = Unit {0}
Small (make_poly x) = Unit {0}
Small (cell x v) = v < 4294967296
Small (gives g) = SmallGive g
Small (supply x a b) = Unit {0}
Small (react b) = Unit {0}
Small (sink x a) = Unit {0}
Small (alloc_poly a b) = Unit {0}
Small (keep a b) = Unit {0}
Small none = Unit {0}

-- A command that is written is the one that is read: `reads_back` in proofs/Encode.antt.
abbrev pub ReadsBack : Type 0
ReadsBack = (c : Cmd) → Small c → decode (bytes_at (encode c) 0) ≡ c
