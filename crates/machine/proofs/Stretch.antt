-- Stretches of a list that are lent on and come back, as the definitions put them.
-- Assumes nothing.
use Rattle.std.specs.Prelude.{ℕ, suc, ◌+◌, ◌-◌, ◌≤◌, ◌<◌, ◌≡◌, List, [], ◌∷◌, ◌++◌}
use Rattle.std.proofs.Common.{sym, ◌∙◌, ap, append_assoc}
use Rattle.std.proofs.Common.{append-nil, arith}
use Rattle.std.specs.Prelude.{length, set, take, drop, replicate}
use native.Mathlib.Numerals.{add-one}
use lib.ListN.{length-replicate, take-append-drop}
use lib.Seq.{drop-length, take-suc-set, drop-set-lt}
use borrow.Rule.Slice.PartMut.{mid_of, put_mid, mid_len, Post-is}
use Rattle.image.specs.Memory.{patch}

-- ---- zeros

-- a stretch that comes back zeroed
pub put_zeros : (m l : List ℕ) (a e : ℕ) → a ≤ e → e ≤ length m → l ≡ replicate (length (mid_of a (e - a) m)) 0
    → put_mid a (e - a) m l ≡ take a m ++ (replicate (e - a) 0 ++ drop e m)
put_zeros m l a e h g f = rw (f, mid_len a e m g, Post-is a e m h)

-- up to the end
pub put_last : (m l : List ℕ) (a e : ℕ) → a ≤ e → e ≡ length m → l ≡ replicate (length (mid_of a (e - a) m)) 0
    → put_mid a (e - a) m l ≡ take a m ++ replicate (e - a) 0
put_last m l a e h g f =
    let le : e ≤ length m = omega arith in
    put_zeros m l a e h le f ∙ rw (g, drop-length, append-nil)

-- ---- a part in its place

pub put_part : (m l : List ℕ) (a e : ℕ) → a ≤ e → length l ≡ e - a → put_mid a (e - a) m l ≡ patch m a l
unfolding patch
put_part m l a e h g =
    let k : a + length l ≡ e = omega arith in
    rw (Post-is a e m h, k)

pub patch_none : (m : List ℕ) (i : ℕ) → patch m i [] ≡ m
unfolding patch
patch_none m i = let k : i + 0 ≡ i = omega arith in rw k (take-append-drop i m)

pub patch_cons : (m : List ℕ) (i w : ℕ) (ws : List ℕ) → i < length m → patch (set m i w) (i + 1) ws ≡ patch m i (w ∷ ws)
unfolding patch
patch_cons m i w ws h =
    let k : i + 1 ≡ suc i = add-one i in
    let n : i + 1 + length ws ≡ i + suc (length ws) = omega arith in
    rw (n, k, take-suc-set m i w h, drop-set-lt (i + suc (length ws)) m i w (omega arith), append_assoc)

-- ---- zeros up to the end

pub zero_rest : (m l : List ℕ) (i n : ℕ) → n ≡ length m → i < n → l ≡ replicate (length (mid_of i (n - i) m)) 0
    → put_mid i (n - i) m l ≡ patch m i (replicate (length m - i) 0)
zero_rest m l i n e h f =
    let q : l ≡ replicate (length m - i) 0 =
    f ∙ ap (λ (k : ℕ). replicate k 0) (mid_len i n m (omega arith) ∙ ap (λ (k : ℕ). k - i) e) in
    let g : length l ≡ n - i = ap length q ∙ length-replicate (length m - i) 0 ∙ sym (ap (λ (k : ℕ). k - i) e) in
    put_part m l i n (omega arith) g ∙ ap (patch m i) q

pub zero_none : (m : List ℕ) (i : ℕ) → length m ≤ i → m ≡ patch m i (replicate (length m - i) 0)
zero_none m i h = let k : length m - i ≡ 0 = omega arith in rw k (sym (patch_none m i))
