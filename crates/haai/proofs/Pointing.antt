-- Where the code writes and notes next, by the tree as it is kept: the places and locations of the definition.
use Rattle.std.specs.Prelude.{ℕ, suc, ◌+◌, ◌-◌, ◌*◌, ◌≤◌, ◌<◌, ◌≡◌, refl, List, [], ◌∷◌, length, get_or}
use Rattle.std.proofs.Common.{sym, ◌∙◌, ap}
use Rattle.std.proofs.Common.{arith}
use Rattle.value.specs.Test.{pick, ◌<?◌, ◌≤?◌}
use Rattle.value.proofs.Tests.{pick_any, lt×?, le!, le×, eq!, eq×, yes, no}
use Rattle.haai.specs.declared.Places.{Places}
use Rattle.haai.specs.declared.Size.{Size}
use Rattle.haai.specs.declared.Application.{Application}
use Rattle.haai.specs.Tables.{size_at}
use Rattle.haai.specs.Names.{Opened, Known}
use Rattle.haai.specs.Tables.{counted, opened_at}
use Rattle.haai.specs.Writing.{deployment_loc, location_r, first_at, cursor_of, operands_so_far, few, entry_for}
use Rattle.haai.specs.Writing.{next_entry, outer_entry}
use Rattle.haai.specs.declared.Cursor.{Cursor}
use Rattle.haai.specs.declared.Tally.{Tally}
use Rattle.haai.specs.declared.Tree.{Tree}
use Rattle.haai.proofs.Placed.{length_names}
use Rattle.haai.proofs.Imaged.{Named}
use Rattle.haai.proofs.Growing.{innermost_is}
use Rattle.haai.proofs.Grown.{calls_open, steps_open, PileIs, Grown}
use Rattle.haai.proofs.Counts.{counted_exact}
use Rattle.haai.proofs.Noting.{top_count}
use Rattle.haai.proofs.Hindsight.{Midst}
use Rattle.haai.proofs.Laying.{base_of, Pointed}

-- ---- the cursor

module _ (count : ℕ) (sizes : List Size) (end : ℕ) (t : List ℕ) (k : Known) (v : Tally) (u : Tree) (ps : Places) (tb : List Size) (pl : List Application)
    (first : ℕ) where
  pub pointed : Named t k v ps → Grown k u tb pl
      → Midst count sizes (length k.definitions) k.body k.pile
      → first ≡ first_at sizes end (length k.definitions) → Pointed sizes end (cursor_of sizes first v u) k
  unfolding cursor_of
  pointed named grown m at =
      let a = m.calls in
      let b = m.steps in
      let c = m.few_d in
      let d = m.few_r in
      record {
        first = at;
        parameters = sym (length_names t ps.parameters (v.names - v.own) v.own) ∙ ap length named.parameters;
        declared = ap (λ (j : ℕ). (size_at sizes j).declared) grown.definitions;
        calls = grown.calls ∙ counted_exact (calls_open k.body k.pile) (omega arith);
        steps = grown.steps ∙ counted_exact (steps_open k.body k.pile) (omega arith);
      }

module _ (count : ℕ) (sizes : List Size) (end : ℕ) (k : Known) (c : Cursor) (p : Pointed sizes end c k)
    (m : Midst count sizes (length k.definitions) k.body k.pile) (seven : length k.parameters ≤ 7) where
  pub location_is : (x : ℕ) → x ≤ 8 → location_r c x ≡ base_of sizes k + (steps_open k.body k.pile + x)
  unfolding location_r
  location_is x l =
      let a = p.parameters in
      let b = p.declared in
      let d = p.steps in
      let e = m.steps in
      let f = m.few_d in
      let g = m.few_r in
      omega arith

  pub deployment_is : deployment_loc c ≡ length k.parameters + calls_open k.body k.pile
  unfolding deployment_loc
  deployment_is =
      let a = p.parameters in
      let b = p.calls in
      let d = m.calls in
      let e = m.few_d in
      omega arith

-- ---- the entries

pub few_exact : (n : ℕ) → n ≤ 7 → few n ≡ n
unfolding few
few_exact n h =
    pick_any (λ x. x ≡ n) (n <? 7) (λ e. refl) (λ e. let l : 7 ≤ n = lt×? e in omega arith)

entry_is : (i m l n : ℕ) → i ≡ l → m ≡ counted n → n < 7 → entry_for i m ≡ 7 * l + n
unfolding entry_for
entry_is i m l n e f h =
    let a = counted_exact n (omega arith) in
    let b : m ≡ n = omega arith in
    let c = few_exact m (omega arith) in
    omega arith

module _ (k : Known) (u : Tree) (tb : List Size) (pl : List Application) (h : Grown k u tb pl) where
  so_far : (os : List Opened) → k.pile ≡ os → operands_so_far u pl ≡ counted (top_count k.body os)
  unfolding operands_so_far top_count
  so_far [] e =
      let l = h.level in
      let z : length k.pile ≡ 0 = ap length e in
      let y : u.level ≡ 0 = omega arith in
      sym (yes _ (eq! y) refl) ∙ h.count
  so_far (o ∷ os) e =
      let l = h.level in
      let z : length k.pile ≡ suc (length os) = ap length e in
      let q : PileIs pl (o ∷ os) = rw e at h.pile in
      sym (no _ (eq× (λ w. omega arith)) refl)
      ∙ ap (λ (y : Application). y.operands) (innermost_is k u tb pl h o os e) ∙ q.2

  pub next_entry_lem : top_count k.body k.pile < 7
      → next_entry u pl ≡ 7 * length k.pile + top_count k.body k.pile
  unfolding next_entry
  next_entry_lem l =
      entry_is u.level (operands_so_far u pl) (length k.pile) (top_count k.body k.pile) h.level
      (so_far k.pile refl) l

  outer : (o : Opened) (os : List Opened) → k.pile ≡ o ∷ os
      → pick (u.level ≤? 1) u.count (opened_at pl (u.level - 2)).operands ≡ counted (top_count k.body os)
  unfolding top_count
  outer o [] e =
      let l = h.level in
      let z : length k.pile ≡ 1 = ap length e in
      let y : u.level ≤ 1 = omega arith in
      sym (yes _ (le! y) refl) ∙ h.count
  outer o (o₂ ∷ os) e =
      let l = h.level in
      let z : length k.pile ≡ suc (suc (length os)) = ap length e in
      let y : 1 < u.level = omega arith in
      let x : u.level - 2 ≡ length os = omega arith in
      let q : PileIs pl (o ∷ o₂ ∷ os) = rw e at h.pile in
      sym (no _ (le× y) refl) ∙ ap (λ (j : ℕ). (opened_at pl j).operands) x ∙ q.3.2

  pub outer_entry_lem : (o : Opened) (os : List Opened) → k.pile ≡ o ∷ os → top_count k.body os < 7
      → outer_entry u pl ≡ 7 * length os + top_count k.body os
  unfolding outer_entry
  outer_entry_lem o os e l =
      let a = h.level in
      let z : length k.pile ≡ suc (length os) = ap length e in
      entry_is (u.level - 1) _ (length os) (top_count k.body os) (omega arith) (outer o os e) l
