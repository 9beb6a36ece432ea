-- The loops that copy: after k steps, k of one list and the rest of the other.
-- Assumes nothing.
use Rattle.std.specs.Prelude.{ℕ, zero, suc, ◌+◌, ◌-◌, ◌*◌, ◌/◌, ◌%◌, ◌≤◌, ◌<◌, ◌≡◌, refl, List, [], ◌∷◌}
use Rattle.std.proofs.Common.{sym, ◌∙◌, ap}
use Rattle.std.specs.Prelude.{◌++◌, length, get_or, set, take, drop}
use Rattle.std.proofs.Common.{arith}
use native.Mathlib.Nat.{not-suc-le-zero, le_of_suc-le-suc}
use native.Mathlib.Numerals.{add-one}
use lib.Seq.{length-take-le, take-append_seam, drop-append_seam}
use Rattle.std.proofs.Common.{append_assoc}
use Rattle.std.proofs.lemmas.List.{take_more, drop-drop}
use borrow.Rule.Slice.PartMut.{put_mid}
use Rattle.rig.specs.Words.{word, words_of, bytes_of, holding}

copy_suc : (k : ℕ) (xs d : List ℕ) → k < length xs → k < length d
    → set (take k xs ++ drop k d) k (get_or xs k 0) ≡ take (suc k) xs ++ drop (suc k) d
copy_suc k [] d h l = absurd (not-suc-le-zero h)
copy_suc k (x ∷ xs) [] h l = absurd (not-suc-le-zero l)
copy_suc zero (x ∷ xs) (y ∷ d) h l = refl
copy_suc (suc k) (x ∷ xs) (y ∷ d) h l =
    ap (λ (t : List ℕ). x ∷ t) (copy_suc k xs d (le_of_suc-le-suc h) (le_of_suc-le-suc l))

pub copy_more : (k k' : ℕ) (xs d : List ℕ) (v : ℕ) → k' ≡ k + 1 → v ≡ get_or xs k 0 → k < length xs → k < length d
    → set (take k xs ++ drop k d) k v ≡ take k' xs ++ drop k' d
copy_more k k' xs d v n e h l = rw (n, e, add-one k) (copy_suc k xs d h l)

-- ---- words of bytes

pub words_length : (s : List ℕ) → (length (words_of s) * 4 ≤ length s) × (length s < length (words_of s) * 4 + 4)
unfolding words_of
words_length [] = (omega arith, omega arith)
words_length (a ∷ []) = (omega arith, omega arith)
words_length (a ∷ b ∷ []) = (omega arith, omega arith)
words_length (a ∷ b ∷ c ∷ []) = (omega arith, omega arith)
words_length (a ∷ b ∷ c ∷ d ∷ s) = let h = words_length s in (omega (arith, h.0), omega (arith, h.1))

pub words_count : (s : List ℕ) → length (words_of s) ≡ length s / 4
words_count s = let h = words_length s in omega (arith, h.0, h.1)

-- byte i of the rest, past the four bytes of a first word
past : (a b c d : ℕ) (s : List ℕ) (k j i : ℕ) → i ≡ suc (suc (suc (suc (k * 4 + j))))
    → get_or (a ∷ b ∷ c ∷ d ∷ s) i 0 ≡ get_or s (k * 4 + j) 0
past a b c d s k j i e = rw e

-- the word of the four bytes from j on
abbrev word_at : List ℕ → ℕ → ℕ
word_at s j = word (get_or s (j + 0) 0) (get_or s (j + 1) 0) (get_or s (j + 2) 0) (get_or s (j + 3) 0)

words_at : (k : ℕ) (s : List ℕ) → k * 4 + 3 < length s → get_or (words_of s) k 0 ≡ word_at s (k * 4)
unfolding words_of
words_at k [] h = absurd (not-suc-le-zero h)
words_at k (a ∷ []) h = absurd (omega arith)
words_at k (a ∷ b ∷ []) h = absurd (omega arith)
words_at k (a ∷ b ∷ c ∷ []) h = absurd (omega arith)
words_at zero (a ∷ b ∷ c ∷ d ∷ s) h = refl
words_at (suc k) (a ∷ b ∷ c ∷ d ∷ s) h =
    let at = past a b c d s k in
    let i = suc k * 4 in
    rw (at 0 (i + 0) (omega arith), at 1 (i + 1) (omega arith), at 2 (i + 2) (omega arith), at 3 (i + 3) (omega arith))
    (words_at k s (omega arith))

-- one step of `load`
pub load_more : (k : ℕ) (s d : List ℕ) (v : ℕ)
    → v ≡ word (get_or s (k * 4) 0) (get_or s (k * 4 + 1) 0) (get_or s (k * 4 + 2) 0) (get_or s (k * 4 + 3) 0)
    → k * 4 + 3 < length s → k < length d
    → set (take k (words_of s) ++ drop k d) k v ≡ take (k + 1) (words_of s) ++ drop (k + 1) d
load_more k s d v e h l =
    let z : k * 4 + 0 ≡ k * 4 = omega arith in
    let n = words_length s in
    copy_more k (k + 1) (words_of s) d v refl (e ∙ sym (rw z at (words_at k s h))) (omega (arith, n.1)) l

-- ---- bytes of words

pub bytes_length : (w : List ℕ) → length (bytes_of w) ≡ length w * 4
unfolding bytes_of
bytes_length [] = refl
bytes_length (x ∷ w) = let h = bytes_length w in omega (arith, h)

-- the four bytes of x before others
abbrev pub four : ℕ → List ℕ → List ℕ
four x s = x % 256 ∷ x / 256 % 256 ∷ x / 65536 % 256 ∷ x / 16777216 % 256 ∷ s

bytes_more : (ws : List ℕ) (x : ℕ) → bytes_of (ws ++ (x ∷ [])) ≡ bytes_of ws ++ four x []
unfolding bytes_of
bytes_more [] x = refl
bytes_more (w ∷ ws) x = ap (four w) (bytes_more ws x)

-- one step of `save`: from the first k of the words ws to one more, the four bytes b written at j
pub save_more : (s ws b : List ℕ) (k j : ℕ) → k < length ws → j ≡ k * 4 → b ≡ four (get_or ws k 0) []
    → put_mid j (j + 4 - j) (holding s (take k ws)) b ≡ holding s (take (k + 1) ws)
unfolding holding
save_more s ws b k j h e f =
    let x = get_or ws k 0 in
    let done = bytes_of (take k ws) in
    let rest = drop (4 * length (take k ws)) s in
    let l = length-take-le k ws (omega arith) in
    let n : j ≡ length done = omega (arith, bytes_length (take k ws), l, e) in
    let head : take j (done ++ rest) ≡ done = ap (λ (i : ℕ). take i (done ++ rest)) n ∙ take-append_seam done rest in
    let past : drop j (done ++ rest) ≡ rest = ap (λ (i : ℕ). drop i (done ++ rest)) n ∙ drop-append_seam done rest in
    let m : 4 * length (take k ws) + (j + 4 - j) ≡ 4 * length (take (k + 1) ws) =
    omega (arith, l, length-take-le (k + 1) ws (omega arith)) in
    let tail : drop (j + 4 - j) rest ≡ drop (4 * length (take (k + 1) ws)) s =
    drop-drop (j + 4 - j) (4 * length (take k ws)) s ∙ ap (λ (i : ℕ). drop i s) m in
    let four_more : bytes_of (take (k + 1) ws) ≡ done ++ four x [] =
    ap bytes_of (take_more ws k 0 h) ∙ bytes_more (take k ws) x in
    rw (head, past, tail, f, four_more) (sym (append_assoc done (four x []) (drop (4 * length (take (k + 1) ws)) s)))
