-- What the tests of the ladder of soundness say: the frame, main before any turn, and the passes.
use Rattle.std.specs.Prelude.{ℕ, suc, ◌+◌, ◌-◌, ◌≤◌, ◌<◌, ◌≡◌, refl, ◌↔◌, ◌≢◌, Bool, true, false, Ok, Err}
use Rattle.std.proofs.Common.{sym, ◌∙◌, subst}
use Rattle.std.specs.Prelude.{List, [], ◌∷◌, length}
use Rattle.std.proofs.Common.{arith}
use mathlib.Core.List.Memᴰ.{head as first_in}
use mathlib.Core.List.Memᴰ.{tail as later}
use Rattle.value.specs.Test.{◌and◌, ◌<?◌, ◌=?◌}
use Rattle.value.proofs.Tests.{cases, clash, goes, stops, lt!, lt?, lt×?, le!, le?, eq!, eq?, eq×?, both!, both?, Says}
use Rattle.program.specs.Bytes.{reactors, most_reactors, main_of}
use Rattle.program.specs.Location.{size_of}
use Rattle.image.specs.Memory.{most_words, main_at, used, reactor, wired, next, zero_at}
use Rattle.image.specs.Sound.{here, Deployed}
use Rattle.image.specs.Passes.{Judged, lowest, fits, lowest_unfit, framed}
use Rattle.image.specs.Fault.{Framed, Own, FreshMain, Named, Shallow, All, Lowest}
use Rattle.image.specs.declared.Pass.{Pass}
use Rattle.image.specs.declared.Pass.TheVariants.{Starts, Names, Depths}
use Rattle.image.proofs.Exact.Lists.{◌∈◌, each, Rising, rises, rising_from}
use Rattle.image.proofs.Exact.Tables.{lowest_none}
use Rattle.image.proofs.Exact.Tiling.{tiles?, tiles!, Laid, starts, table_of, start_in, start_rising}
use Rattle.image.proofs.Exact.Zeros.{zero_rest, all_blank}
use Rattle.image.proofs.Exact.SlotTests.{own_test}
use Rattle.image.proofs.Exact.Names.{named_test}
use Rattle.image.proofs.Exact.Depths.{depth_test}
use Rattle.image.proofs.Memory.Tiles.{in_to}

pub unsound_not : (q : ℕ) → ◌≡◌ {A = Judged} (Err q) (Ok tt) → ⊥
unsound_not q e = let z : ◌≡◌ {A = ℕ} 0 1 = cc in omega arith

module _ (p m : List ℕ) where
  pub framed_says : Says (framed p m) (Framed p m)
  unfolding framed
  framed_says = (
    λ e.
        let a = both? e in
        let b = both? a.1 in
        let c = both? b.1 in
        let d = both? c.1 in
        let main = both? c.0 in
        let fits : used m ≤ length m = le? a.0 in
        record {
          fits = fits;
          few_turns = le? b.0;
          tiles = tiles? p m (length m) (used m) main_at (omega arith) d.0;
          main = here (lt? main.0);
          first = eq? main.1;
          rest = (zero_rest m (used m) fits).0 d.1;
        },
    λ f.
        both! (le! f.fits)
        (both! (le! f.few_turns)
        (both! (both! (lt! (in_to p f.main)) (eq! f.first))
        (both! (tiles! p m (length m) (used m) main_at (omega (arith, f.fits)) f.tiles)
        ((zero_rest m (used m) f.fits).1 f.rest)))),
  )

  pub framed_laid : reactors p ≤ most_reactors → length m ≤ most_words → Framed p m → Laid p m
  framed_laid few small f =
      record { few = few; small = small; fits = f.fits; some = in_to p f.main; tiles = f.tiles }

  pub main_says : reactor m main_at ≡ main_of p → next m main_at ≡ 0 →
      Says ((wired m main_at =? 0) and zero_at m (main_at + 3) (size_of p (main_of p) - 3)) (FreshMain p m)
  main_says first last =
      let w = all_blank p m main_at (main_of p) first in (
        λ e. let b = both? e in record { unwired = eq? b.0; empty = w.0 b.1; last = last },
        λ g. both! (eq! g.unwired) (w.1 g.empty),
      )

-- ---- the lowest of a rising list for which a test fails

record Found (ok : ℕ → Bool) (l : List ℕ) (q : ℕ) : Type 0 where
  in_list : q ∈ l
  fails : ok q ≡ false
  before : (a : ℕ) → a ∈ l → a < q → ok a ≡ true

found : (ok : ℕ → Bool) (b : ℕ) (l : List ℕ) → Rising b l → lowest ok l ≢ 0 → Found ok l (lowest ok l)
unfolding lowest
found ok b [] r n = absurd (n refl)
found ok b (c ∷ l) (rises low r) n =
    cases (ok c)
    (λ e.
    let same = goes c (λ u. lowest ok l) e refl in
    let w = found ok (suc c) l r (λ z. n (sym same ∙ z)) in
    subst (Found ok (c ∷ l)) same
    (record {
      in_list = later w.in_list;
      fails = w.fails;
      before = (each (λ (a : ℕ). a < lowest ok l → ok a ≡ true) c l).1 (λ k. e, w.before);
    }))
    (λ e.
    subst (Found ok (c ∷ l)) (stops (λ u. lowest ok l) e refl)
    (record {
      in_list = first_in refl;
      fails = e;
      before =
          (each (λ (a : ℕ). a < c → ok a ≡ true) c l).1
          (λ k. absurd (omega arith), λ a i k. absurd (omega (arith, rising_from r i)));
    }))

pub lowest_one : (p m : List ℕ) {P : ℕ → Type 0} {d e : ℕ} → Lowest p m P d → Lowest p m P e → d ≡ e
lowest_one p m {P} {d} {e} l k =
    cases (d <? e)
    (λ y. absurd (l.wrong (k.lower d l.deployed (lt? y))))
    (λ y.
    cases (e <? d)
    (λ z. absurd (k.wrong (l.lower e k.deployed (lt? z))))
    (λ z. omega (arith, lt×? y, lt×? z)))

-- ---- a pass, whose test says Q of each deployment

abbrev Unfit : (p m : List ℕ) → Pass → ℕ
Unfit p m pass = lowest_unfit p m pass (starts p m)

abbrev Tells : (p m : List ℕ) → Pass → (ℕ → Type 0) → Type 0
Tells p m pass Q = (d : ℕ) → Deployed p m d → Says (fits p m pass (table_of p m pass) d) (Q d)

-- it stops, at q
abbrev StopsAt : (p m : List ℕ) → Pass → ℕ → Type 0
StopsAt p m pass q = ((Unfit p m pass =? 0) ≡ false) × (Unfit p m pass ≡ q)

module _ (p m : List ℕ) (laid : Laid p m) (pass : Pass) (Q : ℕ → Type 0) (tells : Tells p m pass Q) where
  all_fit : Says (Unfit p m pass =? 0) (All p m Q)
  unfolding lowest_unfit
  all_fit =
      let above : (a : ℕ) → a ∈ starts p m → 0 < a = (λ a i. omega (arith, rising_from (start_rising p m laid) i)) in
      let w = lowest_none (fits p m pass (table_of p m pass)) (starts p m) above in (
        λ h d i. (tells d i).0 (w.0 h d ((start_in p m laid d).1 i)),
        λ h. w.1 (λ d j. let i = (start_in p m laid d).0 j in (tells d i).1 (h d i)),
      )

  one_unfit : (Unfit p m pass =? 0) ≡ false → Lowest p m Q (Unfit p m pass)
  unfolding lowest_unfit
  one_unfit e =
      let w = found (fits p m pass (table_of p m pass)) main_at (starts p m) (start_rising p m laid) (eq×? e) in
      let i = (start_in p m laid _).0 w.in_list in
      record {
        deployed = i;
        wrong = λ h. clash ((tells _ i).1 h) w.fails;
        lower = λ d j k. (tells d j).0 (w.before d ((start_in p m laid d).1 j) k);
      }

  lowest_unfit_lem : (q : ℕ) → StopsAt p m pass q ↔ Lowest p m Q q
  lowest_unfit_lem q = (
    λ h. subst (Lowest p m Q) h.1 (one_unfit h.0),
    λ l.
        cases (Unfit p m pass =? 0)
        (λ e. absurd (l.wrong (all_fit.0 e q l.deployed)))
        (λ e. (e, lowest_one p m (one_unfit e) l)),
  )

-- ---- the three passes: what a later one says rests on the earlier

module _ (p m : List ℕ) (laid : Laid p m) where
  module _ (z : next m main_at ≡ 0) where
    own_tells : Tells p m Starts (Own p m)
    own_tells d i = own_test p m laid z i

    pub own_says : Says (Unfit p m Starts =? 0) (All p m (Own p m))
    own_says = all_fit p m laid Starts (Own p m) own_tells

    pub own_stops : (q : ℕ) → StopsAt p m Starts q ↔ Lowest p m (Own p m) q
    own_stops = lowest_unfit_lem p m laid Starts (Own p m) own_tells

  module _ (o : All p m (Own p m)) where
    named_tells : Tells p m Names (Named p m)
    named_tells d i = named_test p m laid (λ e j. (o e j).slots) i

    pub named_says : Says (Unfit p m Names =? 0) (All p m (Named p m))
    named_says = all_fit p m laid Names (Named p m) named_tells

    pub named_stops : (q : ℕ) → StopsAt p m Names q ↔ Lowest p m (Named p m) q
    named_stops = lowest_unfit_lem p m laid Names (Named p m) named_tells

    pub depth_says : All p m (Named p m) → Says (Unfit p m Depths =? 0) (All p m (Shallow p m))
    depth_says n = all_fit p m laid Depths (Shallow p m) (λ d i. depth_test p m laid (λ e j. (o e j).slots) n i)
