-- The folds of the passes: the lowest place at which a test fails, and tables changed for
-- each of a list, entry by entry.
use Rattle.std.specs.Prelude.{ℕ, ◌/◌, ◌<◌, ◌≡◌, refl, ◌↔◌, ◌≢◌, Bool, true, List, [], ◌∷◌, length, get_or, set}
use Rattle.std.proofs.Common.{◌∙◌, ap}
use Rattle.std.specs.Prelude.{replicate}
use Rattle.std.proofs.Common.{arith}
use mathlib.Core.List.Memᴰ.{head as first}
use mathlib.Core.List.Memᴰ.{not-nil as in_nil}
use mathlib.Core.List.Memᴰ.{tail as later}
use lib.ListN.{length-set, length-replicate}
use lib.Seq.{get_or-set_same, get_or-set_other}
use Rattle.value.specs.Test.{◌=?◌}
use Rattle.value.proofs.Tests.{eq!, eq?, guards}
use Rattle.image.specs.Memory.{main_at}
use Rattle.image.specs.Passes.{table_bytes, lowest, over, table_byte, with_table_byte, blank_table}
use Rattle.value.proofs.Zeros.{zeros_at}
use Rattle.image.proofs.Lists.{over_append}
use Rattle.image.proofs.Exact.Lists.{◌∈◌, same, each, flat}

-- no place is found where the test passes at each; a place is not 0
pub lowest_none : (ok : ℕ → Bool) (l : List ℕ) → ((a : ℕ) → a ∈ l → 0 < a) →
    ((lowest ok l =? 0) ≡ true) ↔ ((a : ℕ) → a ∈ l → ok a ≡ true)
unfolding lowest
lowest_none ok [] pos = (λ h a i. absurd (in_nil i), λ h. eq! refl)
lowest_none ok (b ∷ l) pos =
    let w = lowest_none ok l (λ a i. pos a (later i)) in
    let e = each (λ (a : ℕ). ok a ≡ true) b l in
    let g = guards (λ (n : ℕ). (n =? 0) ≡ true) (ok b) b (λ u. lowest ok l)
    (λ z. omega (arith, eq? z, pos b (first refl))) in
    (λ h. let k = g.0 h in e.1 (k.0, w.0 k.1), λ h. let k = e.0 h in g.1 (k.0, w.1 k.1))

-- ---- a table changed for each of a list

module _ (f : List ℕ → ℕ → List ℕ) where
  -- what each change keeps, all keep
  pub over_keeps : (P : List ℕ → Type 0) (l t : List ℕ) →
      ((s : List ℕ) (a : ℕ) → a ∈ l → P s → P (f s a)) → P t → P (over f t l)
  unfolding over
  over_keeps P [] t h k = k
  over_keeps P (a ∷ l) t h k = over_keeps P l (f t a) (λ s b i. h s b (later i)) (h t a (first refl) k)

  pub over-length : (l t : List ℕ) → ((s : List ℕ) (a : ℕ) → length (f s a) ≡ length s) → length (over f t l) ≡ length t
  over-length l t h = over_keeps (λ (s : List ℕ). length s ≡ length t) l t (λ s a i e. h s a ∙ e) refl

  -- a change for each of a list, for each of a list
  pub over_flat : (g : ℕ → List ℕ) (l t : List ℕ) → over (λ s a. over f s (g a)) t l ≡ over f t (flat g l)
  unfolding over flat
  over_flat g [] t = refl
  over_flat g (a ∷ l) t = over_flat g l (over f t (g a)) ∙ over_append f t (g a) (flat g l)

-- ---- entries

-- in the same three words
pub entry_near : (t : List ℕ) (d a : ℕ) → d / 3 ≡ a / 3 → table_byte t d ≡ table_byte t a
unfolding table_byte
entry_near t d a e = ap (λ (i : ℕ). get_or t i 0) e

module _ (t : List ℕ) (a v : ℕ) where
  pub entry_here : (d : ℕ) → d / 3 ≡ a / 3 → d / 3 < length t → table_byte (with_table_byte t a v) d ≡ v
  unfolding table_byte with_table_byte
  entry_here d e h = ap (λ (i : ℕ). get_or (set t (a / 3) v) i 0) e ∙ get_or-set_same t (a / 3) v 0 (omega arith)

  pub entry_other : (d : ℕ) → d / 3 ≢ a / 3 → table_byte (with_table_byte t a v) d ≡ table_byte t d
  unfolding table_byte with_table_byte
  entry_other d n = get_or-set_other t (a / 3) (d / 3) v 0 n

  pub entry_length : length (with_table_byte t a v) ≡ length t
  unfolding with_table_byte
  entry_length = length-set t (a / 3) v

-- by cases on whether one of a list is of the same three words as d
pub near : {C : Type 0} (d : ℕ) (l : List ℕ) → ((a : ℕ) → a ∈ l → d / 3 ≡ a / 3 → C) →
    (((a : ℕ) → a ∈ l → d / 3 ≢ a / 3) → C) → C
near d [] f g = g (λ a i. absurd (in_nil i))
near d (b ∷ l) f g =
    same (d / 3) (b / 3) (f b (first refl))
    (λ n. near d l (λ a i. f a (later i)) (λ h. g ((each (λ (a : ℕ). d / 3 ≢ a / 3) b l).1 (n, h))))

-- ---- the table before the visits

pub blank_length : length blank_table ≡ table_bytes
unfolding blank_table
blank_length = entry_length (replicate table_bytes 0) main_at 1 ∙ length-replicate {A = ℕ} table_bytes 0

pub blank_main : table_byte blank_table main_at ≡ 1
unfolding blank_table
blank_main = entry_here (replicate table_bytes 0) main_at 1 main_at refl (rw length-replicate (omega arith))

pub blank_other : (d : ℕ) → d / 3 ≢ main_at / 3 → table_byte blank_table d ≡ 0
unfolding blank_table table_byte
blank_other d n = entry_other (replicate table_bytes 0) main_at 1 d n ∙ zeros_at table_bytes (d / 3)

-- ---- one entry written for each of a list

module _ (v : List ℕ → ℕ → ℕ) where
  -- the entry of a written, by what the table is
  abbrev pub writes : List ℕ → ℕ → List ℕ
  writes t a = with_table_byte t a (v t a)

  pub writes_length : (l t : List ℕ) → length (over writes t l) ≡ length t
  writes_length l t = over-length writes l t (λ s a. entry_length s a (v s a))

  -- an entry of other words than the list's is kept
  pub writes_keep : (d : ℕ) (l t : List ℕ) → ((a : ℕ) → a ∈ l → d / 3 ≢ a / 3) →
      table_byte (over writes t l) d ≡ table_byte t d
  writes_keep d l t h = over_keeps writes (λ (s : List ℕ). table_byte s d ≡ table_byte t d) l t
      (λ s a i e. entry_other s a (v s a) d (h a i) ∙ e) refl

  -- an entry of the list comes to x, if that is what is written there while P holds, which is kept
  pub writes_set : (P : List ℕ → Type 0) (x d : ℕ) (l t : List ℕ) →
      ((s : List ℕ) (a : ℕ) → a ∈ l → P s → P (writes s a)) →
      ((s : List ℕ) (a : ℕ) → a ∈ l → d / 3 ≡ a / 3 → P s → v s a ≡ x) → P t → d / 3 < length t → d ∈ l →
      table_byte (over writes t l) d ≡ x
  unfolding over
  writes_set P x d [] t keeps gives k h i = elim i [ ]
  writes_set P x d (a ∷ l) t keeps gives k h (first e) =
      let q : d / 3 ≡ a / 3 = ap (λ (n : ℕ). n / 3) e in
      (over_keeps writes (λ (s : List ℕ). P s × (d / 3 < length s) × (table_byte s d ≡ x)) l (writes t a)
      (λ s b i r. (
        keeps s b (later i) r.0,
        rw entry_length r.1,
        same (d / 3) (b / 3) (λ q. entry_here s b (v s b) d q r.1 ∙ gives s b (later i) q r.0)
            (λ n. entry_other s b (v s b) d n ∙ r.2),
      ))
      (keeps t a (first refl) k, rw entry_length h, entry_here t a (v t a) d q h ∙ gives t a (first refl) q k)).2
  writes_set P x d (a ∷ l) t keeps gives k h (later i) = writes_set P x d l (writes t a) (λ s b j. keeps s b (later j))
      (λ s b j. gives s b (later j)) (keeps t a (first refl) k) (rw entry_length h) i
