-- Bytes by where they stand: in parts, in rows of one width, in columns.
use Rattle.std.specs.Prelude.{ℕ, zero, suc, ◌+◌, ◌-◌, ◌*◌, ◌/◌, ◌%◌, ◌≤◌, ◌<◌, ◌≡◌, ◌↔◌}
use Rattle.std.proofs.Common.{◌∙◌, ap, ap₂, subst, subst₂}
use Rattle.std.specs.Prelude.{Bool, true}
use Rattle.std.proofs.Common.{arith}
use native.Mathlib.Nat.{div-add-mod', mod-lt, div-lt_iff_lt-mul, mul-add-div, div-eq_of_lt, mul-add-mod_self_left}
use native.Mathlib.Nat.{mod-eq_of_lt, mul_comm, mul-suc, mul-le-mul_left, add-zero}
use Rattle.value.specs.Test.{pick, ◌<?◌}
use Rattle.value.proofs.Tests.{cases, lt!, lt×, lt?, lt×?, picks}
use Rattle.value.proofs.Sweeps.{Passes}

-- ---- parts

-- a choice passes where what is chosen does
pub chosen : (i n : ℕ) (x y : Bool) → (pick (i <? n) x y ≡ true) ↔ ((i < n → x ≡ true) × (n ≤ i → y ≡ true))
chosen i n x y =
    let w = picks (λ (t : Bool). t ≡ true) (i <? n) x y in
    (λ h. (λ l. (w.0 h).0 (lt! l), λ l. (w.0 h).1 (lt× l)), λ h. w.1 (λ e. h.0 (lt? e), λ e. h.1 (lt×? e)))

-- where the choice is by where a byte stands: the bytes before m, and those from m on
pub parted : (x y : ℕ → Bool) (a m b : ℕ) → a ≤ m → m ≤ b →
    Passes (λ i. pick (i <? m) (x i) (y i)) a b ↔ (Passes x a m × Passes y m b)
parted x y a m b l k = (
  λ h. (
    λ i u v. ((chosen i m (x i) (y i)).0 (h i u (omega arith))).0 v,
    λ i u v. ((chosen i m (x i) (y i)).0 (h i (omega arith) v)).1 u,
  ),
  λ h i u v. (chosen i m (x i) (y i)).1 (λ e. h.0 i u e, λ e. h.1 i e v),
)

-- ---- rows

module _ (w base : ℕ) (wide : 0 < w) where
  -- the byte at column k of row s is of that row and that column
  offset : (s k : ℕ) → base + w * s + k - base ≡ w * s + k
  offset s k = omega arith

  row_of : (s k : ℕ) → k < w → (base + w * s + k - base) / w ≡ s
  row_of s k h = ap (λ (d : ℕ). d / w) (offset s k) ∙ mul-add-div wide s k
      ∙ ap (λ (d : ℕ). s + d) (div-eq_of_lt h) ∙ add-zero s

  column_of : (s k : ℕ) → k < w → (base + w * s + k - base) % w ≡ k
  column_of s k h = ap (λ (d : ℕ). d % w) (offset s k) ∙ mul-add-mod_self_left w s k ∙ mod-eq_of_lt h

  pub at_row : {A : Type 0} (f : ℕ → ℕ → A) (i s k : ℕ) → i ≡ base + w * s + k → k < w →
      f ((i - base) / w) ((i - base) % w) ≡ f s k
  at_row f i s k e h =
      ap₂ f (ap (λ (j : ℕ). (j - base) / w) e ∙ row_of s k h) (ap (λ (j : ℕ). (j - base) % w) e ∙ column_of s k h)

  -- to say a thing of each byte is to say it of each column of each row
  pub by_rows : (P : ℕ → ℕ → Type 0) (n end : ℕ) → base + w * n ≡ end →
      ((i : ℕ) → base ≤ i → i < end → P ((i - base) / w) ((i - base) % w)) ↔ ((s : ℕ) → s < n → (k : ℕ) → k < w → P s k)
  by_rows P n end q = (
    λ h s l k m. subst₂ P (row_of s k m) (column_of s k m)
        (h (base + w * s + k) (omega arith) (omega (arith, mul-le-mul_left w l, mul-suc w s))),
    λ h i l m. h _ ((div-lt_iff_lt-mul wide).1 (omega (arith, mul_comm w n))) _ (mod-lt _ wide),
  )

  -- and it is enough, for a thing said of bytes
  pub rows : (P : ℕ → Type 0) (n end : ℕ) → base + w * n ≡ end →
      ((s : ℕ) → s < n → (k : ℕ) → k < w → P (base + w * s + k)) → (i : ℕ) → base ≤ i → i < end → P i
  rows P n end q h i l m =
      let e : base + w * ((i - base) / w) + (i - base) % w ≡ i = omega (arith, div-add-mod' (i - base) w) in
      subst P e (h _ ((div-lt_iff_lt-mul wide).1 (omega (arith, mul_comm w n))) _ (mod-lt _ wide))

-- ---- columns

-- the sixteen columns of a shape: two counts, seven source kinds, seven sink kinds
pub sixteen : (P : ℕ → Type 0) → P 0 → P 1 → ((x : ℕ) → x < 7 → P (2 + x)) →
    ((x : ℕ) → x < 7 → P (9 + x)) → (k : ℕ) → k < 16 → P k
sixteen P a b c d zero l = a
sixteen P a b c d (suc zero) l = b
sixteen P a b c d (suc (suc k)) l =
    cases (k <? 7) (λ e. subst P (omega arith) (c k (lt? e)))
    (λ e. let h : 7 ≤ k = lt×? e in subst P (omega arith) (d (k - 7) (omega arith)))

-- the first four bytes, and the others
pub first_four : (P : ℕ → Type 0) → P 0 → P 1 → P 2 → P 3 → ((k : ℕ) → 4 ≤ k → P k) → (k : ℕ) → P k
first_four P a b c d e zero = a
first_four P a b c d e (suc zero) = b
first_four P a b c d e (suc (suc zero)) = c
first_four P a b c d e (suc (suc (suc zero))) = d
first_four P a b c d e (suc (suc (suc (suc k)))) = e _ (omega arith)
