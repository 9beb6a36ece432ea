-- Tiling: the test for it, the list of starts, and the table of starts, against `Tiles` and `Deployed`.
use Rattle.std.specs.Prelude.{ℕ, zero, suc, ◌+◌, ◌/◌, ◌≤◌, ◌<◌, ◌≡◌, refl, ◌↔◌, ◌≢◌}
use Rattle.std.proofs.Common.{sym, ◌∙◌, ap, subst, ⊎_elim}
use Rattle.std.specs.Prelude.{Bool, true, List, [], length}
use Rattle.std.proofs.lemmas.Bool.{false≢true}
use Rattle.std.proofs.Common.{arith}
use mathlib.Core.List.Memᴰ.{cases_cons as in_cons}
use mathlib.Core.List.Memᴰ.{head as first}
use mathlib.Core.List.Memᴰ.{tail as later}
use mathlib.Core.List.Memᴰ.{not-nil as in_nil}
use Rattle.value.specs.Test.{◌<?◌}
use Rattle.value.proofs.Tests.{cases, lt!, lt×, lt?, eq!, eq?, goes, stops, guards}
use Rattle.program.specs.Bytes.{reactors, most_reactors}
use Rattle.image.specs.Memory.{most_words, main_at, used, reactor, size_at, starts_from, starts_below}
use Rattle.image.specs.Sound.{Tiles, done, more, In, here, there, Deployed}
use Rattle.image.specs.Passes.{table_byte, blank_table, start_byte, is_start, tiles_from, visit, table_after}
use Rattle.image.specs.declared.Pass.{Pass}
use Rattle.image.specs.declared.Pass.TheVariants.{Starts}
use Rattle.image.proofs.Tiles.{grows}
use Rattle.image.proofs.Memory.Tiles.{in_ge, in_to, in_reactor, three_unique}
use Rattle.image.proofs.Exact.Lists.{◌∈◌, Rising, ends, rises, rising_low, total}
use Rattle.image.proofs.Exact.Tables.{entry_near, near, blank_length, blank_other, writes_keep, writes_set}

module _ (p m : List ℕ) where
  -- each deployment takes words, so that as many steps as there are words left are enough
  pub tiles? : (f u a : ℕ) → u ≤ a + f → tiles_from p m f u a ≡ true → Tiles p m u a
  unfolding tiles_from
  tiles? zero u a l e = subst (λ (x : ℕ). Tiles p m u x) (sym (eq? e)) done
  tiles? (suc f) u a l e =
      cases (a <? u)
      (λ t.
      let g = (guards (λ (b : Bool). b ≡ true) _ _ _ false≢true).0 (goes _ _ t refl ∙ e) in
      more (lt? t) (lt? g.0) (tiles? f u (a + size_at p m a) (omega (arith, grows p m a)) g.1))
      (λ t. subst (λ (x : ℕ). Tiles p m u x) (sym (eq? (stops _ t refl ∙ e))) done)

  pub tiles! : (f u a : ℕ) → u ≤ a + f → Tiles p m u a → tiles_from p m f u a ≡ true
  unfolding tiles_from
  tiles! zero u a l done = eq! refl
  tiles! zero u a l (more h r t) = absurd (omega arith)
  tiles! (suc f) u a l done = sym (stops _ (lt× (omega arith)) (sym (eq! refl)))
  tiles! (suc f) u a l (more h r t) =
      sym (goes _ _ (lt! h) (goes _ _ (lt! r) (sym (tiles! f u (a + size_at p m a) (omega (arith, grows p m a)) t))))

  -- ---- the list of starts

  pub starts? : (f u a d : ℕ) → d ∈ starts_from p f m u a → In p m u a d
  unfolding starts_from
  starts? zero u a d i = absurd (in_nil i)
  starts? (suc f) u a d i =
      cases (a <? u)
      (λ t.
      ⊎_elim (λ e. subst (λ (x : ℕ). In p m u a x) (sym e) (here (lt? t)))
      (λ k. there (lt? t) (starts? f u (a + size_at p m a) d k))
      (in_cons (subst (λ (l : List ℕ). d ∈ l) (sym (goes [] _ t refl)) i)))
      (λ t. absurd (in_nil (subst (λ (l : List ℕ). d ∈ l) (sym (stops _ t refl)) i)))

  pub starts! : (f u a d : ℕ) → u ≤ a + f → In p m u a d → d ∈ starts_from p f m u a
  unfolding starts_from
  starts! zero u a d l i = let q = in_ge p i in let r = in_to p i in absurd (omega arith)
  starts! (suc f) u a d l (here h) = subst (λ (k : List ℕ). a ∈ k) (goes [] _ (lt! h) refl) (first refl)
  starts! (suc f) u a d l (there h i) = subst (λ (k : List ℕ). d ∈ k) (goes [] _ (lt! h) refl)
      (later (starts! f u (a + size_at p m a) d (omega (arith, grows p m a)) i))

  pub starts_rising : (f u a : ℕ) → Rising a (starts_from p f m u a)
  unfolding starts_from
  starts_rising zero u a = ends
  starts_rising (suc f) u a =
      cases (a <? u)
      (λ t.
      let rest : Rising (suc a) (starts_from p f m u (a + size_at p m a)) =
      rising_low (omega (arith, grows p m a)) (starts_rising f u (a + size_at p m a)) in
      subst (Rising a) (goes [] _ t refl) (rises {a = a} {b = a} (omega arith) rest))
      (λ t. subst (Rising a) (stops _ t refl) ends)

  -- the deployments' sizes fill the words
  starts_fill : (f u a : ℕ) → u ≤ a + f → Tiles p m u a → a + total (size_at p m) (starts_from p f m u a) ≡ u
  unfolding starts_from total
  starts_fill zero u a l done = omega arith
  starts_fill zero u a l (more h r t) = absurd (omega arith)
  starts_fill (suc f) u a l done =
      subst (λ (k : List ℕ). a + total (size_at p m) k ≡ u) (stops _ (lt× (omega arith)) refl) (omega arith)
  starts_fill (suc f) u a l (more h r t) =
      subst (λ (k : List ℕ). a + total (size_at p m) k ≡ u) (goes [] _ (lt! h) refl)
      (omega (arith, starts_fill f u (a + size_at p m a) (omega (arith, grows p m a)) t))

-- ---- what is known once the deployments tile

pub record Laid (p m : List ℕ) : Type 0 where
  pub few : reactors p ≤ most_reactors
  pub small : length m ≤ most_words
  pub fits : used m ≤ length m
  pub some : main_at < used m
  pub tiles : Tiles p m (used m) main_at

abbrev pub starts : List ℕ → List ℕ → List ℕ
starts p m = starts_below p m (used m)

abbrev pub table_of : List ℕ → List ℕ → Pass → List ℕ
table_of p m pass = table_after p m pass (starts p m)

module _ (p m : List ℕ) (laid : Laid p m) where
  pub start_in : (d : ℕ) → (d ∈ starts p m) ↔ Deployed p m d
  unfolding starts_below
  start_in d = (
    λ i. starts? p m (length m) (used m) main_at d i,
    λ i. starts! p m (length m) (used m) main_at d (omega (arith, laid.fits)) i,
  )

  pub start_rising : Rising main_at (starts p m)
  unfolding starts_below
  start_rising = starts_rising p m (length m) (used m) main_at

  pub start_fill : main_at + total (size_at p m) (starts p m) ≡ used m
  unfolding starts_below
  start_fill = starts_fill p m (length m) (used m) main_at (omega (arith, laid.fits)) laid.tiles

  pub main_deployed : Deployed p m main_at
  main_deployed = here laid.some

  pub deployed_one : {d e : ℕ} → Deployed p m d → Deployed p m e → d / 3 ≡ e / 3 → d ≡ e
  deployed_one {d} {e} i j q = three_unique p d e i j q

  pub deployed_entry : {d : ℕ} → Deployed p m d → d / 3 < length blank_table
  deployed_entry i = omega (arith, blank_length, in_to p i, laid.fits, laid.small)

  pub deployed_reactor : {d : ℕ} → Deployed p m d → reactor m d < reactors p
  deployed_reactor i = in_reactor p laid.tiles i

  start_entry : {d : ℕ} → Deployed p m d → table_byte (table_of p m Starts) d ≡ start_byte d
  unfolding table_after visit
  start_entry {d} i =
      writes_set (λ s a. start_byte a) (λ (s : List ℕ). Unit {0}) (start_byte d) d (starts p m) blank_table (λ s a j u. tt)
      (λ s a j e u. ap (λ (c : ℕ). start_byte c) (sym (deployed_one i ((start_in a).0 j) e))) tt
      (deployed_entry i) ((start_in d).1 i)

  start_none : (d : ℕ) → ((a : ℕ) → a ∈ starts p m → d / 3 ≢ a / 3) → table_byte (table_of p m Starts) d ≡ 0
  unfolding table_after visit
  start_none d n = writes_keep (λ s a. start_byte a) d (starts p m) blank_table n
      ∙ blank_other d (n main_at ((start_in main_at).1 main_deployed))

  pub start_test : (d : ℕ) → (is_start (table_of p m Starts) d ≡ true) ↔ Deployed p m d
  unfolding is_start
  start_test d = (
    λ e.
        near d (starts p m)
        (λ a j q.
        let h = (start_in a).0 j in
        subst (Deployed p m) (omega (arith, eq? e, start_entry h, entry_near (table_of p m Starts) d a q)) h)
        (λ n. absurd (omega (arith, eq? e, start_none d n))),
    λ i. eq! (start_entry i),
  )
