-- Where the values of operands are noted: a row of seven for the body and for each open application. One more
-- expression is one more entry of the innermost row.
use Rattle.std.specs.Prelude.{ℕ, zero, suc, ◌+◌, ◌*◌, ◌≤◌, ◌<◌, ◌≡◌, List, [], ◌∷◌, ◌++◌, length, get_or}
use Rattle.std.proofs.Common.{sym, ◌∙◌, ap}
use Rattle.std.specs.Prelude.{set}
use Rattle.std.proofs.Common.{arith, subst}
use lib.Seq.{get_or-set_same, get_or-set_other}
use Rattle.haai.specs.Syntax.{Expr, Exprs, none, count_of}
use Rattle.haai.specs.Names.{Opened, with_operand}
use Rattle.haai.specs.Emit.{steps_all, location_of, locations_of}
use Rattle.haai.proofs.Lists.{length_locations}
use Rattle.haai.proofs.Grown.{steps_open}
use Rattle.haai.proofs.Stands.{Stands, stands_join}
use Rattle.haai.proofs.Emitting.{body_with, pile_with}

-- ---- one row

stands_set : (ls : List ℕ) (a : ℕ) (xs : List ℕ) (j x : ℕ) → a + length xs ≤ j → Stands ls a xs
    → Stands (set ls j x) a xs
stands_set ls a xs j x h s i l = get_or-set_other ls j (a + i) x 0 (λ e. omega arith) ∙ s i l

row_more : (ls : List ℕ) (a : ℕ) (xs : List ℕ) (j x y : ℕ) → j ≡ a + length xs → j < length ls → x ≡ y → Stands ls a xs
    → Stands (set ls j x) a (xs ++ (y ∷ []))
row_more ls a xs j x y e h q s =
    stands_join (set ls j x) a j xs (y ∷ []) e (stands_set ls a xs j x (omega arith) s) last
  where
    last : Stands (set ls j x) j (y ∷ [])
    last zero l =
        let z : j + 0 ≡ j = omega arith in
        ap (λ (i : ℕ). get_or (set ls j x) i 0) z ∙ get_or-set_same ls j x 0 h ∙ q
    last (suc i) l = absurd (omega arith)

-- ---- all rows

-- how many operands the innermost application of os has, or the body b
unfoldable pub top_count : Exprs → List Opened → ℕ
top_count b [] = count_of b
top_count b (o ∷ os) = count_of o.operands

-- each has at most seven
abbrev pub FewOpen : Exprs → List Opened → Type 0
FewOpen b [] = count_of b ≤ 7
FewOpen b (o ∷ os) = (count_of o.operands ≤ 7) × FewOpen b os

abbrev pub Noted : List ℕ → ℕ → Exprs → List Opened → Type 0
Noted ls base b [] = Stands ls 0 (locations_of base 0 b)
Noted ls base b (o ∷ os) =
    Stands ls (7 * length (o ∷ os)) (locations_of base (steps_open b os) o.operands) × Noted ls base b os

pub few_before : (b : Exprs) (os : List Opened) (e : Expr) → FewOpen (body_with b os e) (pile_with os e)
    → FewOpen b os × (top_count b os < 7)
unfolding body_with pile_with with_operand count_of top_count
few_before b [] e h = (omega arith, omega arith)
few_before b (o ∷ os) e h = let l = h.0 in ((omega arith, h.1), omega arith)

-- a later row's entry
noted_set : (ls : List ℕ) (base : ℕ) (b : Exprs) (os : List Opened) (j x : ℕ) → 7 * length os + 7 ≤ j → FewOpen b os
    → Noted ls base b os → Noted (set ls j x) base b os
noted_set ls base b [] j x h f s =
    let n = length_locations base 0 b in stands_set ls 0 (locations_of base 0 b) j x (omega arith) s
noted_set ls base b (o ∷ os) j x h f s =
    let r = steps_open b os in
    let n = length_locations base r o.operands in
    let l = f.0 in (
      stands_set ls (7 * length (o ∷ os)) (locations_of base r o.operands) j x (omega arith) s.0,
      noted_set ls base b os j x (omega arith) f.1 s.1,
    )

-- one more expression, whose value is at x
pub noted_more : (ls : List ℕ) (base : ℕ) (b : Exprs) (os : List Opened) (e : Expr) (j x : ℕ) → length ls ≡ 119
    → length os ≤ 16 → j ≡ 7 * length os + top_count b os → top_count b os < 7 → FewOpen b os
    → x ≡ location_of base (steps_open b os) e → Noted ls base b os
    → Noted (set ls j x) base (body_with b os e) (pile_with os e)
unfolding body_with pile_with with_operand top_count steps_open locations_of
noted_more ls base b [] e j x long deep at room few q s =
    let n = length_locations base 0 b in
    let z : steps_all b ≡ 0 + steps_all b = omega arith in
    row_more ls 0 (locations_of base 0 b) j x (location_of base (0 + steps_all b) e) (omega arith) (omega arith)
    (q ∙ ap (λ (r : ℕ). location_of base r e) z) s
noted_more ls base b (o ∷ os) e j x long deep at room few q s =
    let r = steps_open b os in
    let n = length_locations base r o.operands in (
      row_more ls (7 * length (o ∷ os)) (locations_of base r o.operands) j x
          (location_of base (r + steps_all o.operands) e) (omega arith) (omega arith) q s.0,
      noted_set ls base b os j x (omega arith) few.1 s.1,
    )

-- an application begins
pub noted_opens : (ls : List ℕ) (base : ℕ) (b : Exprs) (o : Opened) (os : List Opened) → o.operands ≡ none
    → Noted ls base b os → Noted ls base b (o ∷ os)
unfolding locations_of
noted_opens ls base b o os e s = (
  subst (λ (es : Exprs). Stands ls (7 * length (o ∷ os)) (locations_of base (steps_open b os) es)) (sym e)
      (λ i h. absurd (omega arith)),
  s,
)
