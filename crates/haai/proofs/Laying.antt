-- The output after some words: the code of the whole definitions stands in it, then what the present one has so far.
-- What a word adds keeps this.
use Rattle.std.specs.Prelude.{ℕ, zero, suc, ◌+◌, ◌-◌, ◌*◌, ◌≤◌, ◌<◌, ◌≡◌, List, [], ◌∷◌, ◌++◌, length}
use Rattle.std.proofs.Common.{sym, ◌∙◌, ap}
use Rattle.std.proofs.Common.{arith, subst, inl, inr}
use lib.ListN.{length-append}
use Rattle.program.specs.Bytes.{byte}
use Rattle.program.specs.Command.{Cmd}
use Rattle.program.specs.Encode.{encode_all}
use Rattle.program.proofs.Encode.{length-encode_all}
use Rattle.haai.specs.declared.Size.{Size}
use Rattle.haai.specs.Tables.{size_at, size_length}
use Rattle.haai.specs.Syntax.{Exprs, Definition}
use Rattle.haai.specs.Names.{Opened, Known, with_pile}
use Rattle.haai.specs.Emit.{commands_of, code_of}
use Rattle.haai.specs.Writing.{put_commands, place_d, place_r, first_at}
use Rattle.haai.specs.declared.Cursor.{Cursor}
use Rattle.haai.proofs.Formed.{nth}
use Rattle.haai.proofs.Program.{length_commands}
use Rattle.haai.proofs.Grown.{calls_open, steps_open}
use Rattle.haai.proofs.Stands.{Stands, stands_join, Changes, changes_on, stands_kept, encode_join, Written}
use Rattle.haai.proofs.Stands.{written}
use Rattle.haai.proofs.Emitting.{emitted_d, emitted_r, length_d, length_r}
use Rattle.haai.proofs.Noting.{Noted}
use Rattle.haai.proofs.Apt.{Inside}
use Rattle.haai.proofs.Hindsight.{Exact, Good}

-- ---- where a definition's commands begin

module _ (sizes : List Size) (end : ℕ) where
  first_more : (j d : ℕ) → first_at sizes end j ≤ first_at sizes end (d + j)
  unfolding first_at size_length
  first_more j zero = let z : 0 + j ≡ j = omega arith in rw z (omega arith)
  first_more j (suc d) =
      let z : suc d + j ≡ suc (d + j) = omega arith in
      let h = first_more j d in
      rw z (omega arith)

  pub first_order : (i j : ℕ) → i ≤ j → first_at sizes end i ≤ first_at sizes end j
  first_order i j l =
      let z : j - i + i ≡ j = omega arith in
      subst (λ (x : ℕ). first_at sizes end i ≤ first_at sizes end x) z (first_more i (j - i))

  first_from : (ds : List Definition) (i : ℕ) → ((j : ℕ) → j < length ds → Exact sizes (nth ds j) (i + j))
      → first_at sizes end (i + length ds) ≡ first_at sizes end i + length (code_of ds)
  unfolding first_at size_length code_of
  first_from [] i h = let z : i + 0 ≡ i = omega arith in rw z (omega arith)
  first_from (d ∷ ds) i h =
      let z : i + suc (length ds) ≡ suc i + length ds = omega arith in
      let y : i + 0 ≡ i = omega arith in
      let x : Exact sizes d i = subst (Exact sizes d) y (h 0 (omega arith)) in
      let a = x.calls in
      let b = x.runs in
      let q =
      first_from ds (suc i)
      (λ j l.
      let v : i + suc j ≡ suc i + j = omega arith in
      subst (Exact sizes (nth ds j)) v (h (suc j) (omega arith)))
      in
      let n = length-append (encode_all (commands_of d)) (code_of ds) in
      let m = length-encode_all (commands_of d) in
      let c = length_commands d in
      rw z (omega arith)

  -- the code of ds ends there
  pub first_is : (ds : List Definition) → ((j : ℕ) → j < length ds → Exact sizes (nth ds j) j)
      → first_at sizes end (length ds) ≡ end + length (code_of ds)
  unfolding first_at size_length
  first_is ds h =
      let z : 0 + length ds ≡ length ds = omega arith in
      ap (first_at sizes end) (sym z)
      ∙ first_from ds 0 (λ j l. let y : j ≡ 0 + j = omega arith in subst (Exact sizes (nth ds j)) y (h j l))

-- ---- commands added in both sequences

-- D and R commands of a reactor from byte F on: ED and ER are there, dc and rc are added
module _ (out : List ℕ) (F D R : ℕ) (ED ER dc rc : List Cmd) (p_d p_r : ℕ) (at_d : p_d ≡ F + 8 * length ED)
    (at_r : p_r ≡ F + 8 * (D + length ER)) (fit_d : length ED + length dc ≤ D) (fit_r : length ER + length rc ≤ R)
    (room : F + 8 * (D + R) ≤ length out) (in_d : Stands out F (encode_all ED))
    (in_r : Stands out (F + 8 * D) (encode_all ER)) where
  abbrev mid : List ℕ
  mid = put_commands out p_d dc

  abbrev new : List ℕ
  new = put_commands (put_commands out p_d dc) p_r rc

  first_half : Written out mid p_d dc
  first_half = written dc out p_d (omega arith)

  second_half : Written mid new p_r rc
  second_half = let a = first_half.changes.long in written rc mid p_r (omega arith)

  pub both_change : Changes out new F (F + 8 * (D + R))
  both_change =
      changes_on out mid new p_d (p_d + 8 * length dc) p_r (p_r + 8 * length rc) F (F + 8 * (D + R)) first_half.changes
      second_half.changes (omega arith) (omega arith) (omega arith) (omega arith)

  pub both_d : Stands new F (encode_all (ED ++ dc))
  both_d =
      let a = length-encode_all ED in
      let b = length-encode_all dc in
      rw (encode_join ED dc)
      (stands_kept mid new p_r (p_r + 8 * length rc) F (encode_all ED ++ encode_all dc) second_half.changes
      (inl (let c = length-append (encode_all ED) (encode_all dc) in omega arith))
      (stands_join mid F p_d (encode_all ED) (encode_all dc) (omega arith)
      (stands_kept out mid p_d (p_d + 8 * length dc) F (encode_all ED) first_half.changes (inl (omega arith)) in_d)
      first_half.stands))

  pub both_r : Stands new (F + 8 * D) (encode_all (ER ++ rc))
  both_r =
      let a = length-encode_all ER in
      rw (encode_join ER rc)
      (stands_join new (F + 8 * D) p_r (encode_all ER) (encode_all rc) (omega arith)
      (stands_kept mid new p_r (p_r + 8 * length rc) (F + 8 * D) (encode_all ER) second_half.changes (inl (omega arith))
      (stands_kept out mid p_d (p_d + 8 * length dc) (F + 8 * D) (encode_all ER) first_half.changes (inr (omega arith))
      in_r))
      second_half.stands)

-- ---- the output so far

-- the location of the first R command of the present definition
abbrev pub base_of : List Size → Known → ℕ
base_of sizes k = length k.parameters + (size_at sizes (length k.definitions)).declared

-- c says where the next commands go
pub record Pointed (sizes : List Size) (end : ℕ) (c : Cursor) (k : Known) : Type 0 where
  pub first : c.first ≡ first_at sizes end (length k.definitions)
  pub parameters : c.parameters ≡ length k.parameters
  pub declared : c.declared ≡ (size_at sizes (length k.definitions)).declared
  pub calls : c.calls ≡ calls_open k.body k.pile
  pub steps : c.steps ≡ steps_open k.body k.pile

module _ (count : ℕ) (sizes : List Size) (end : ℕ) (old : List ℕ) where
  -- inside a definition
  pub record Amid (k : Known) (out ls : List ℕ) : Type 0 where
    pub D : Stands out (first_at sizes end (length k.definitions)) (encode_all (emitted_d k.body k.pile))
    pub R :
        Stands out
        (first_at sizes end (length k.definitions) + 8 * (size_at sizes (length k.definitions)).declared)
        (encode_all (emitted_r (length k.parameters) (base_of sizes k) k.body k.pile))
    pub noted : Noted ls (base_of sizes k) k.body k.pile

  pub record Laying (k : Known) (out ls : List ℕ) : Type 0 where
    pub changes : Changes old out end (first_at sizes end count)
    pub code : Stands out end (code_of k.definitions)
    pub long : length ls ≡ 119
    pub inside : Inside k → Amid k out ls

  module _ (room : first_at sizes end count ≤ length old) (n : ℕ) (k : Known) (out ls : List ℕ)
      (lay : Laying k out ls) (good : Good n count sizes k) (i : Inside k) (c : Cursor)
      (p : Pointed sizes end c k) where
    abbrev j : ℕ
    j = length k.definitions

    abbrev F : ℕ
    F = first_at sizes end j

    pub fits : first_at sizes end (suc j) ≤ first_at sizes end count
    fits = let a = (good.inside i).more in first_order sizes end (suc j) count (omega arith)

    -- the whole definitions end where the present one begins
    pub begins : F ≡ end + length (code_of k.definitions)
    begins = first_is sizes end k.definitions good.exact

    -- one more expression: dc and rc are added, and the body and the pile are b and os then
    pub lays_more : (f : ℕ) (b : Exprs) (os : List Opened) (dc rc : List Cmd) (ls₂ : List ℕ)
        → Good n count sizes (with_pile k f b os) → emitted_d b os ≡ emitted_d k.body k.pile ++ dc
        → emitted_r (length k.parameters) (base_of sizes k) b os
        ≡ emitted_r (length k.parameters) (base_of sizes k) k.body k.pile ++ rc
        → length ls₂ ≡ 119 → Noted ls₂ (base_of sizes k) b os
        → Laying (with_pile k f b os) (put_commands (put_commands out (place_d c) dc) (place_r c) rc) ls₂
    unfolding with_pile place_d place_r first_at size_length
    lays_more f b os dc rc ls₂ after e_d e_r long noted =
        let s = length k.parameters in
        let base = base_of sizes k in
        let D = (size_at sizes j).declared in
        let R = (size_at sizes j).running in
        let ED = emitted_d k.body k.pile in
        let ER = emitted_r s base k.body k.pile in
        let amid = lay.inside i in
        let m = after.inside i in
        let pc = p.calls in
        let ps = p.steps in
        let pf = p.first in
        let pd = p.declared in
        let l_d = length_d k.body k.pile in
        let l_r = length_r s base k.body k.pile in
        let m_d = length_d b os in
        let m_r = length_r s base b os in
        let a_d : length (emitted_d b os) ≡ length ED + length dc = ap length e_d ∙ length-append ED dc in
        let a_r : length (emitted_r s base b os) ≡ length ER + length rc = ap length e_r ∙ length-append ER rc in
        let k_d = m.calls in
        let k_r = m.steps in
        let ft = fits in
        let ch = lay.changes.long in
        let low = begins in
        let at_d : place_d c ≡ F + 8 * length ED = omega arith in
        let at_r : place_r c ≡ F + 8 * (D + length ER) = omega arith in
        let fit_d : length ED + length dc ≤ D = omega arith in
        let fit_r : length ER + length rc ≤ R = omega arith in
        let rm : F + 8 * (D + R) ≤ length out = omega arith in
        let new = put_commands (put_commands out (place_d c) dc) (place_r c) rc in
        let bc = both_change out F D R ED ER dc rc (place_d c) (place_r c) at_d at_r fit_d fit_r rm amid.D amid.R in
        record {
          changes =
              changes_on old out new end (first_at sizes end count) F (F + 8 * (D + R)) end (first_at sizes end count)
              lay.changes bc (omega arith) (omega arith) (omega arith) (omega arith);
          code =
              stands_kept out new F (F + 8 * (D + R)) end (code_of k.definitions) bc (inl (omega arith)) lay.code;
          long = long;
          inside = λ z.
              record {
                D =
                    rw e_d
                    (both_d out F D R ED ER dc rc (place_d c) (place_r c) at_d at_r fit_d fit_r rm amid.D amid.R);
                R =
                    rw e_r
                    (both_r out F D R ED ER dc rc (place_d c) (place_r c) at_d at_r fit_d fit_r rm amid.D amid.R);
                noted = noted;
              };
        }
