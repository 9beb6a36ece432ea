-- A pass over the words of a text whose form is right, after which all names are known: what is kept at each word is
-- what the definition knows there.
use Rattle.std.specs.Prelude.{ℕ, ◌≤◌, ◌<◌, ◌≡◌, refl, true, false, List, []}
use Rattle.std.proofs.Common.{sym, ◌∙◌, ap, subst}
use Rattle.std.specs.Prelude.{length}
use Rattle.std.proofs.Common.{arith}
use Rattle.value.proofs.Tests.{both?, pick_any}
use Rattle.haai.specs.Places.{Roomy}
use Rattle.haai.specs.declared.Knowing.{Knowing}
use Rattle.haai.specs.Grammar.{Step, takes, refuses}
use Rattle.haai.specs.Word.{Word, word_start, word_end, bytes_of, class_of}
use Rattle.haai.specs.Grammar.{begin, step_of, whole, Item, Formed, items, fault, with_item, taken, form_from}
use Rattle.haai.specs.Grammar.{form_of}
use Rattle.haai.specs.Clauses.{Room, check_of, right as right_form}
use Rattle.haai.specs.Names.{Known, nothing, learn, learn_all}
use Rattle.haai.specs.Places.{word_of, Fits}
use Rattle.haai.specs.Tables.{first_tally, first_tree, learnt, items_of, known_by}
use Rattle.haai.specs.declared.Reading.{Reading}
use Rattle.haai.specs.declared.Role.{Role}
use Rattle.haai.proofs.Ahead.{Ahead, ahead, at_first, first_words, at_last, word_at, onward, words_ahead}
use Rattle.haai.proofs.Ahead.{word_past, further, end_to}
use Rattle.haai.proofs.Small.{Small, small_begin, room, SmallStep, step_small, check_item, form_word}
use Rattle.haai.proofs.Counting.{Counted, StepGood, step_good}
use Rattle.haai.proofs.Paired.{Paired, PairedStep, paired_nothing, step_paired}
use Rattle.haai.proofs.Shallow.{Flat, Shallow, shallow_begin, Ready, ReadyStep, step_ready}
use Rattle.haai.proofs.Imaged.{Named}
use Rattle.haai.proofs.Forming.{class_ok, begun, top_any}
use Rattle.haai.proofs.Grown.{Grown}
use Rattle.haai.proofs.Agreeing.{Agree, agree_begins, agree_learn}

nothing_more : (k : Known) → learn_all k (items_of (items [])) ≡ k
unfolding items_of learn_all
nothing_more k = refl

not_right : (q : ℕ) → check_of (fault q) ≡ right_form → ⊥
unfolding check_of
not_right q e = let z : ◌≡◌ {A = ℕ} 0 1 = cc in omega arith

items_after : (k : Known) (i : Item) (x : Formed) → check_of x ≡ right_form
    → learn_all k (items_of (with_item i x)) ≡ learn_all (learn k i.word.at i.word.bytes i.role) (items_of x)
unfolding check_of with_item items_of learn_all
items_after k i (items is) e = refl
items_after k i (fault q) e = absurd (not_right q e)

-- the form of no words, if it is right
last_form : (n : ℕ) (s : Reading) (k : Known) → check_of (form_from n [] s) ≡ right_form
    → (whole s ≡ true) × (learn_all k (items_of (form_from n [] s)) ≡ k)
unfolding form_from
last_form n s k r =
    pick_any (λ (y : Formed). check_of y ≡ right_form → (whole s ≡ true) × (learn_all k (items_of y) ≡ k)) (whole s)
    right
    wrong
    r
  where
    right : whole s ≡ true → check_of (items []) ≡ right_form → (whole s ≡ true) × (learn_all k (items_of (items [])) ≡ k)
    right e q = (e, nothing_more k)

    wrong : whole s ≡ false → check_of (fault n) ≡ right_form → (whole s ≡ true) × (learn_all k (items_of (fault n)) ≡ k)
    wrong e q = absurd (not_right n q)

module _ (t : List ℕ) where
  -- The pass is at the word that begins at a, with the form read up to there.
  pub record Gathering (s : Reading) (a : ℕ) (x : Knowing) : Type 0 where
    pub known : Known
    pub words : Ahead t a
    pub same : known_by (length t) (form_of t) ≡ learn_all known (items_of (form_from (length t) (ahead t words) s))
    pub right : check_of (form_from (length t) (ahead t words) s) ≡ right_form
    pub counted : Counted (length t) s known
    pub paired : Paired s.phase known
    pub small : Small s
    pub shallow : Shallow s known
    pub named : Named t known x.tally x.places
    pub grown : Grown known x.tree x.sizes x.pile

  pub gather_begins : (s : Reading) (a : ℕ) (x : Knowing) → s ≡ begin → a ≡ word_start t 0 → check_of (form_of t) ≡ right_form
      → x.tally ≡ first_tally (length t)
      → x.tree ≡ first_tree
      → Roomy x.places
      → length x.sizes ≡ 32
      → length x.pile ≡ 16
      → Gathering s a x
  unfolding form_of known_by begin
  gather_begins s a x e f r v u ps tb pl =
      let n = length t in
      let ws = first_words t a f in
      let form = ap (λ (l : List Word). form_from n l begin) (sym ws)
      ∙ ap (λ (z : Reading). form_from n (ahead t (at_first t a f)) z) (sym e) in
      let g = agree_begins t x v u ps tb pl in
      record {
        known = nothing n;
        words = at_first t a f;
        same = ap (λ (y : Formed). learn_all (nothing n) (items_of y)) form;
        right = ap check_of (sym form) ∙ r;
        counted = subst (λ (z : Reading). Counted n z (nothing n)) (sym e) (begun n);
        paired = subst (λ (z : Reading). Paired z.phase (nothing n)) (sym e) (paired_nothing n);
        small = subst Small (sym e) small_begin;
        shallow = subst (λ (z : Reading). Shallow z (nothing n)) (sym e) (shallow_begin n);
        named = g.named;
        grown = g.grown;
      }

  pub begins_known : (s : Reading) (a : ℕ) (x : Knowing) (e : s ≡ begin) (f : a ≡ word_start t 0)
      (r : check_of (form_of t) ≡ right_form) (v : x.tally ≡ first_tally (length t)) (u : x.tree ≡ first_tree)
      (ps : Roomy x.places) (tb : length x.sizes ≡ 32) (pl : length x.pile ≡ 16)
      → (gather_begins s a x e f r v u ps tb pl).known ≡ nothing (length t)
  unfolding gather_begins
  begins_known s a x e f r v u ps tb pl = refl

  -- what is known of a text when its words are all read
  pub record Gathered (s : Reading) (x : Knowing) : Type 0 where
    pub complete : whole s ≡ true
    pub named : Named t (known_by (length t) (form_of t)) x.tally x.places
    pub grown : Grown (known_by (length t) (form_of t)) x.tree x.sizes x.pile
    pub counted : Counted (length t) s (known_by (length t) (form_of t))
    pub flat : length (known_by (length t) (form_of t)).pile ≡ 0

  module _ (s : Reading) (a : ℕ) (x : Knowing) (h : Gathering s a x) where
    pub gather_fits : Fits x.tally × Room s
    gather_fits = (h.named.fits, room s h.small)

    -- the last word is read
    pub gather_last : length t ≤ a → (whole s ≡ true) × (h.known ≡ known_by (length t) (form_of t))
    gather_last l =
        let n = length t in
        let none = at_last t h.words l in
        let f = last_form n s h.known (ap (λ (ws : List Word). check_of (form_from n ws s)) (sym none) ∙ h.right) in
        let e = ap (λ (ws : List Word). learn_all h.known (items_of (form_from n ws s))) none in
        (f.0, sym (h.same ∙ e ∙ f.1))

    pub gather_ends : length t ≤ a → Gathered s x
    unfolding whole
    gather_ends l =
        let f = gather_last l in
        let e = f.1 in
        record {
          complete = f.0;
          named = subst (λ (k : Known). Named t k x.tally x.places) e h.named;
          grown = subst (λ (k : Known). Grown k x.tree x.sizes x.pile) e h.grown;
          counted = subst (λ (k : Known). Counted (length t) s k) e h.counted;
          flat =
              subst (λ (k : Known). length k.pile ≡ 0) e
              (top_any (λ p. Flat p (length h.known.pile)) s.phase (both? f.0).0 h.shallow.flat);
        }

    module _ (l : a < length t) where
      abbrev step : Step
      step = step_of s (class_of (bytes_of t a (word_end t a)))

      pub gather_word : (e : ℕ) → e ≡ word_end t a → (a ≤ e) × (e ≤ length t)
      gather_word e q = let p = word_past t h.words l in let z = end_to t a l in (omega arith, omega arith)

      pub gather_on : (b : ℕ) → b ≡ word_start t (word_end t a) → a < b
      gather_on b e = further t h.words l b e

      -- the words ahead, one by one
      turn : (b : ℕ) (e : b ≡ word_start t (word_end t a))
          → form_from (length t) (ahead t h.words) s
          ≡ taken (form_from (length t) (ahead t (onward t h.words l b e))) (word_at t a) step
      turn b e =
          ap (λ (ws : List Word). form_from (length t) ws s) (words_ahead t h.words l b e)
          ∙ form_word (length t) (word_at t a) (ahead t (onward t h.words l b e)) s

      pub gather_refused : step ≡ refuses → ⊥
      unfolding taken
      gather_refused q =
          let b = word_start t (word_end t a) in
          let rest = form_from (length t) (ahead t (onward t h.words l b refl)) in
          let f = turn b refl ∙ ap (λ (y : Step). taken rest (word_at t a) y) q in
          not_right a (ap check_of (sym f) ∙ h.right)

      ready : (r : Role) (s₂ : Reading) → step ≡ takes r s₂
          → Ready h.known r × Shallow s₂ (learn h.known a (word_of t a) r)
      unfolding word_of
      ready r s₂ q =
          let w = bytes_of t a (word_end t a) in
          subst (ReadyStep h.known a w) q
          (step_ready (length t) s h.known a w h.shallow h.counted h.paired (class_of w))

      pub gather_ready : (r : Role) (s₂ : Reading) → step ≡ takes r s₂ → Ready h.known r
      gather_ready r s₂ q = (ready r s₂ q).0

      pub gather_taken : (b : ℕ) (r : Role) (s₂ : Reading) → b ≡ word_start t (word_end t a) → step ≡ takes r s₂
          → Gathering s₂ b (learnt t a (word_of t a) x r)
      unfolding taken word_of step_of
      gather_taken b r s₂ e q =
          let n = length t in
          let k = h.known in
          let c = h.counted in
          let w = bytes_of t a (word_end t a) in
          let i : Item = record { role = r; word = word_at t a } in
          let rest = form_from n (ahead t (onward t h.words l b e)) in
          let form : form_from n (ahead t h.words) s ≡ with_item i (rest s₂)
          = turn b e ∙ ap (λ (y : Step). taken rest (word_at t a) y) q in
          let right = sym (check_item i (rest s₂)) ∙ ap check_of (sym form) ∙ h.right in
          let good = step_good n s k a w l c.few_sources c.same c.few c.done s.phase c.phased
          (class_of w) (class_ok n w) in
          let g : Agree t k x = record { named = h.named; grown = h.grown } in
          let on = ready r s₂ q in
          let after = agree_learn t a k x g c.done r on.0 in
          record {
            known = learn k a w r;
            words = onward t h.words l b e;
            same =
                h.same ∙ ap (λ (y : Formed). learn_all k (items_of y)) form ∙ items_after k i (rest s₂) right;
            right = right;
            counted = (subst (StepGood n k a w) q good).1;
            paired = subst (PairedStep k a w) q (step_paired n s k a w c h.paired (class_of w));
            small = subst SmallStep q (step_small s h.small (class_of w));
            shallow = on.1;
            named = after.named;
            grown = after.grown;
          }

      pub taken_known : (b : ℕ) (r : Role) (s₂ : Reading) (e : b ≡ word_start t (word_end t a)) (q : step ≡ takes r s₂)
          → (gather_taken b r s₂ e q).known ≡ learn h.known a (word_of t a) r
      unfolding gather_taken word_of
      taken_known b r s₂ e q = refl
