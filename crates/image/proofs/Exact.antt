-- Exact soundness: the ladder of the passes comes to `Ok` where the image is sound. Where else it stops is in Place.
pub mod Lists
pub mod Tables
pub mod Tiling
pub mod Zeros
pub mod Chains
pub mod SlotTests
pub mod Names
pub mod Depths
pub mod Rungs
pub mod Place
use Rattle.std.specs.Prelude.{ℕ, ◌≤◌, ◌≡◌, refl, ◌↔◌, ◌≢◌, Bool, true, false, List, length, Ok, Err}
use Rattle.std.proofs.Common.{sym, ap, subst, ⊎_elim}
use Rattle.std.proofs.Common.{arith}
use Rattle.value.specs.Test.{guard, ◌=?◌}
use Rattle.value.specs.Value.{blank}
use Rattle.value.proofs.Tests.{eq!, eq?, eq×?, guards}
use Rattle.program.specs.Bytes.{main_of}
use Rattle.program.specs.Location.{size_of, HasSlot}
use Rattle.load.specs.Rules.{Rules}
use Rattle.image.specs.Memory.{most_words, main_at, turns, reactor, next, value_at, size_at}
use Rattle.image.specs.Sound.{Deployed, InD, Fresh, Grown, SoundImage}
use Rattle.image.specs.Passes.{fresh_sound, grown_sound, by_turns, sound_of, ExactSoundness}
use Rattle.image.specs.Passes.{Judged}
use Rattle.image.specs.Fault.{Framed, Own, FreshMain, All}
use Rattle.image.proofs.Memory.Tiles.{in_to, in_next}
use Rattle.image.proofs.Exact.Tiling.{Laid, starts}
use Rattle.image.proofs.Exact.Rungs.{unsound_not, framed_says, framed_laid, main_says, own_says, named_says}
use Rattle.image.proofs.Exact.Rungs.{depth_says}

-- a ladder ends in `Ok` where each test passes
ladder : (t : Bool) (n : ℕ) (more : Unit {0} → Judged) →
    (guard t (Err n) more ≡ Ok tt) ↔ ((t ≡ true) × (more tt ≡ Ok tt))
ladder t n more = guards (λ (j : Judged). j ≡ Ok tt) t (Err n) more (unsound_not n)

module _ (p m : List ℕ) where
  -- "all slots but D slots are zero"
  abbrev Empty : ℕ → Type 0
  Empty d = (l : ℕ) → HasSlot p (reactor m d) l → (InD p m (reactor m d) l → ⊥) → value_at p m d l ≡ blank

  -- ---- turns 0

  fresh_test : reactor m main_at ≡ main_of p → next m main_at ≡ 0 → (fresh_sound p m ≡ Ok tt) ↔ Fresh p m
  unfolding fresh_sound
  fresh_test first last =
      let w = main_says p m first last in (
        λ h.
            let a = (ladder _ _ _).0 h in
            let g = w.0 a.0 in
            record { alone = eq? ((ladder _ _ _).0 a.1).0; unwired = g.unwired; empty = g.empty },
        λ r.
            let g : FreshMain p m = record { unwired = r.unwired; empty = r.empty; last = last } in
            (ladder _ _ _).1 (w.1 g, (ladder _ _ _).1 (eq! r.alone, refl)),
      )

  -- main's slots are all
  fresh_empty : reactor m main_at ≡ main_of p → Fresh p m → (d : ℕ) → Deployed p m d → Empty d
  unfolding size_at
  fresh_empty e r d i =
      ⊎_elim
      (λ q. subst Empty (sym q) (λ l k n. r.empty l (subst (λ (x : ℕ). HasSlot p x l) e k)))
      (λ q. absurd (omega (arith, in_to p i, r.alone, ap (size_of p) e)))
      (in_next p i)

  module _ (laid : Laid p m) (first : reactor m main_at ≡ main_of p) (last : next m main_at ≡ 0) where
    -- ---- turns above 0

    grown_test : (grown_sound p m (starts p m) ≡ Ok tt) ↔ (((d : ℕ) → Deployed p m d → Empty d) × Grown p m)
    unfolding grown_sound
    grown_test =
        let owns = own_says p m laid last in (
          λ h.
              let a = (ladder _ _ _).0 h in
              let b = (ladder _ _ _).0 a.1 in
              let c = (ladder _ _ _).0 b.1 in
              let own = owns.0 a.0 in
              let once = (named_says p m laid own).0 b.0 in (
                λ d i. (own d i).empty,
                record {
                  all_wired = λ d i. (own d i).is_wired;
                  monos = λ o j x i. (own o i).slots.monos j x;
                  points = λ o j x i. (own o i).slots.points j x;
                  cells = λ o j x v i. (own o i).slots.cells j x v;
                  named = once;
                  depth = (depth_says p m laid own once).0 c.0;
                },
              ),
          λ h.
              let g = h.1 in
              let own : All p m (Own p m) =
              (λ d i.
              record {
                is_wired = g.all_wired d i;
                empty = h.0 d i;
                slots = record {
                  monos = λ j x. g.monos d j x i;
                  points = λ j x. g.points d j x i;
                  cells = λ j x v. g.cells d j x v i;
                };
                last = λ q. subst (λ (a : ℕ). next m a ≡ 0) (sym q) last;
              }) in
              (ladder _ _ _).1 (
                owns.1 own,
                (ladder _ _ _).1 (
                  (named_says p m laid own).1 g.named,
                  (ladder _ _ _).1 ((depth_says p m laid own g.named).1 g.depth, refl),
                ),
              ),
        )

    -- ---- by turns

    -- what depends on the turns
    record ByTurns : Type 0 where
      empties : (d : ℕ) → Deployed p m d → Empty d
      fresh : turns m ≡ 0 → Fresh p m
      grown : turns m ≢ 0 → Grown p m

    turns_test : (t : Bool) → (turns m =? 0) ≡ t → (by_turns p m t ≡ Ok tt) ↔ ByTurns
    unfolding by_turns
    turns_test true q =
        let w = fresh_test first last in (
          λ h. record { empties = fresh_empty first (w.0 h); fresh = λ z. w.0 h; grown = λ n. absurd (n (eq? q)) },
          λ r. w.1 (r.fresh (eq? q)),
        )
    turns_test false q =
        let w = grown_test in (
          λ h. record { empties = (w.0 h).0; fresh = λ z. absurd (eq×? q z); grown = λ n. (w.0 h).1 },
          λ r. w.1 (r.empties, r.grown (eq×? q)),
        )

-- ---- the ladder

pub exact_soundness : (p : List ℕ) → ExactSoundness p
unfolding sound_of
exact_soundness p few m small = (
  λ h.
      let a = (ladder _ _ _).0 h in
      let b = (ladder _ _ _).0 a.1 in
      let f = (framed_says p m).0 a.0 in
      let last = eq? b.0 in
      let rest = (turns_test p m (framed_laid p m few small f) f.first last (turns m =? 0) refl).0 b.1 in
      record {
        fits = f.fits;
        tiles = f.tiles;
        main = f.main;
        first = f.first;
        last = last;
        rest = f.rest;
        empty = λ x l i. rest.empties x i l;
        few_turns = f.few_turns;
        fresh = rest.fresh;
        grown = rest.grown;
      },
  λ s.
      let f : Framed p m =
      record {
        fits = s.fits;
        few_turns = s.few_turns;
        tiles = s.tiles;
        main = s.main;
        first = s.first;
        rest = s.rest;
      } in
      (ladder _ _ _).1 (
        (framed_says p m).1 f,
        (ladder _ _ _).1 (
          eq! s.last,
          (turns_test p m (framed_laid p m few small f) s.first s.last (turns m =? 0) refl).1
              (record { empties = λ d i l. s.empty d l i; fresh = s.fresh; grown = s.grown }),
        ),
      ),
)

-- the same, of a program that keeps the rules
pub rules_soundness : (p : List ℕ) → Rules p → (m : List ℕ) → length m ≤ most_words →
    (sound_of p m ≡ Ok tt) ↔ SoundImage p m
rules_soundness p rules = exact_soundness p rules.tables.header.few_reactors
