-- Laws of names by their places: the first that is a word, one name more, and what a new place leaves as it was.
use Rattle.std.specs.Prelude.{ℕ, zero, suc, ◌+◌, ◌-◌, ◌≤◌, ◌<◌, ◌≡◌, refl, ◌⊎◌, Bool, true}
use Rattle.std.proofs.Common.{sym, ◌∙◌, ap, inl, inr}
use Rattle.std.specs.Prelude.{not, drop}
use Rattle.std.specs.List.{position_or_len}
use Rattle.std.specs.Prelude.{false, List, [], ◌∷◌, ◌++◌, length, get_or, set, take}
use Rattle.std.proofs.Common.{arith}
use lib.ListN.{drop_of_length-le}
use lib.Seq.{get_or-set_same, get_or-set_other, drop-cons}
use Rattle.value.specs.Test.{◌<?◌, ◌=?◌, ◌or◌}
use Rattle.value.proofs.Tests.{cases, goes, stops, yes, no, eq!, eq×, lt!, lt×, lt?, lt×?, same_test}
use Rattle.haai.specs.Word.{same_word, position, among, bytes_of, word_end}
use Rattle.haai.specs.Names.{unless}
use Rattle.std.specs.Prelude.{cond, Option, Some, None}
use Rattle.std.specs.Option.{unwrap_or}
use Rattle.std.proofs.Common.{ap₂}
use lib.Dec.{ltb}
use Rattle.value.specs.Test.{pick}
use Rattle.haai.specs.Clauses.{words_at, place_in}
use Rattle.haai.specs.Places.{place_at, word_of, names_at, held}
use Rattle.haai.specs.declared.Tally.{Tally}
use Rattle.haai.proofs.Words.{position_here, position_next, position_none}

-- no word begins past the end
pub no_word : (t : List ℕ) (a : ℕ) → length t ≤ a → word_of t a ≡ []
unfolding word_of bytes_of
no_word t a h = rw (drop_of_length-le t {i = a} h) (nothing_of (word_end t a - a))
  where
    nothing_of : (n : ℕ) → take {A = ℕ} n [] ≡ []
    nothing_of zero = refl
    nothing_of (suc n) = refl

pub same_none : (w : List ℕ) → (length w =? 0) ≡ same_word [] w
unfolding same_word
same_none [] = eq! refl
same_none (x ∷ xs) = eq× (λ e. omega arith)

-- ---- the first that is w

module _ (t ps : List ℕ) where
  pub length_names : (n i : ℕ) → length (names_at t ps i n) ≡ n
  unfolding names_at
  length_names zero i = refl
  length_names (suc n) i = ap suc (length_names n (i + 1))

  one : (n i : ℕ) → names_at t ps i (suc n) ≡ word_of t (place_at ps i) ∷ names_at t ps (i + 1) n
  unfolding names_at
  one n i = refl

words_none : (t ps : List ℕ) → words_at t (take 0 ps) ≡ []
unfolding words_at
words_none t [] = refl
words_none t (a ∷ ps) = refl

words_one : (t : List ℕ) (n a : ℕ) (ps : List ℕ) → words_at t (take (suc n) (a ∷ ps)) ≡ word_of t a ∷ words_at t (take n ps)
unfolding words_at
words_one t n a ps = refl

-- the words that begin at n places from i on
pub words_are : (t ps : List ℕ) (n i : ℕ) → i + n ≤ length ps → words_at t (take n (drop i ps)) ≡ names_at t ps i n
unfolding names_at place_at
words_are t ps zero i l = words_none t (drop i ps)
words_are t ps (suc n) i l =
    let f : i + 1 ≡ suc i = omega arith in
    let d : drop i ps ≡ get_or ps i 0 ∷ drop (i + 1) ps = rw f (drop-cons ps i 0 (omega arith)) in
    ap (λ (qs : List ℕ). words_at t (take (suc n) qs)) d
    ∙ words_one t n (get_or ps i 0) (drop (i + 1) ps)
    ∙ ap (λ (l : List (List ℕ)). word_of t (get_or ps i 0) ∷ l) (words_are t ps n (i + 1) (omega arith))

-- the first of the words at these places that is w
pub position_at : (t w : List ℕ) (ps : List ℕ)
    → position (words_at t ps) w ≡ position_or_len (λ a. same_word (word_of t a) w) ps
unfolding words_at position
position_at t w [] = refl
position_at t w (a ∷ ps) =
    cases (same_word (word_of t a) w)
    (λ e. sym (stops _ (ap not e) refl) ∙ rw e)
    (λ e. sym (goes _ _ (ap not e) refl) ∙ rw e (ap (λ (n : ℕ). 1 + n) (position_at t w ps)))

pub length_words : (t ps : List ℕ) → length (words_at t ps) ≡ length ps
unfolding words_at
length_words t [] = refl
length_words t (a ∷ ps) = ap suc (length_words t ps)

-- ---- a word among two lists

pub among_none : (w : List ℕ) → among [] w ≡ false
unfolding among position
among_none w = lt× (omega arith)

pub among_one : (x : List ℕ) (xs : List (List ℕ)) (w : List ℕ) → among (x ∷ xs) w ≡ (same_word x w or among xs w)
unfolding among ◌or◌
among_one x xs w = by (same_word x w) refl
  where
    by : (b : Bool) → same_word x w ≡ b → (position (x ∷ xs) w <? length (x ∷ xs)) ≡ (b or (position xs w <? length xs))
    by true e = let z = position_here x xs w e in lt! (omega arith)
    by false e =
        let z = position_next x xs w _ e refl in
        same_test (position (x ∷ xs) w <? length (x ∷ xs)) (position xs w <? length xs)
        (λ q. let l : position (x ∷ xs) w < length (x ∷ xs) = lt? q in lt! (omega arith))
        (λ q. let l : position xs w < length xs = lt? q in lt! (omega arith))

or_group : (a b c : Bool) → ((a or b) or c) ≡ (a or (b or c))
unfolding ◌or◌
or_group true b c = refl
or_group false b c = refl

or_none : (b : Bool) → (false or b) ≡ b
unfolding ◌or◌
or_none b = refl

pub among_both : (xs ys : List (List ℕ)) (w : List ℕ) → among (xs ++ ys) w ≡ (among xs w or among ys w)
among_both [] ys w = sym (ap (λ (b : Bool). b or among ys w) (among_none w) ∙ or_none (among ys w))
among_both (x ∷ xs) ys w =
    among_one x (xs ++ ys) w ∙ ap (λ (b : Bool). same_word x w or b) (among_both xs ys w)
    ∙ sym (ap (λ (b : Bool). b or among ys w) (among_one x xs w) ∙ or_group (same_word x w) (among xs w) (among ys w))

pub among_three : (xs ys zs : List (List ℕ)) (w : List ℕ)
    → among (xs ++ (ys ++ zs)) w ≡ (among xs w or (among ys w or among zs w))
among_three xs ys zs w = among_both xs (ys ++ zs) w ∙ ap (λ (b : Bool). among xs w or b) (among_both ys zs w)

-- ---- one place more

pub names_more : (t ps : List ℕ) (n i a : ℕ) → i + n < length ps
    → names_at t (set ps (i + n) a) i (n + 1) ≡ names_at t ps i n ++ (word_of t a ∷ [])
unfolding names_at place_at
names_more t ps zero i a h =
    let e : i + 0 ≡ i = omega arith in
    rw e (ap (λ (x : ℕ). word_of t x ∷ []) (get_or-set_same ps i a 0 (omega arith)))
names_more t ps (suc n) i a h =
    let e : i + suc n ≡ i + 1 + n = omega arith in
    let f : suc n + 1 ≡ suc (n + 1) = omega arith in
    let g = get_or-set_other ps (i + 1 + n) i a 0 (λ q. omega arith) in
    rw (e, f, g) (ap (λ (l : List (List ℕ)). word_of t (get_or ps i 0) ∷ l) (names_more t ps n (i + 1) a (omega arith)))

-- ---- bounds

pub position_le : (ns : List (List ℕ)) (w : List ℕ) → position ns w ≤ length ns
position_le [] w = let z = position_none w in omega arith
position_le (x ∷ xs) w =
    cases (same_word x w)
    (λ e. let z = position_here x xs w e in omega arith)
    (λ e. let z = position_next x xs w _ e refl in let l = position_le xs w in omega arith)

-- ---- the code's place of a word, if it is there

cond_pick : {A : Type 0} (b : Bool) (x y : A) → cond b x y ≡ pick b x y
unfolding pick
cond_pick true x y = refl
cond_pick false x y = refl

pub place_found : (t w ps : List ℕ)
    → cond (ltb (position_or_len (λ a. same_word (word_of t a) w) ps) (length ps))
    (Some (position_or_len (λ a. same_word (word_of t a) w) ps)) None
    ≡ place_in (words_at t ps) w
unfolding place_in among ◌<?◌
place_found t w ps =
    let p = sym (position_at t w ps) in
    let n = sym (length_words t ps) in
    ap₂ (λ (i j : ℕ). cond (ltb i j) (Some i) None) p n
    ∙ cond_pick (ltb (position (words_at t ps) w) (length (words_at t ps))) (Some (position (words_at t ps) w)) None

module _ (ns : List (List ℕ)) (w : List ℕ) where
  pub found_at : (p : ℕ) → Some p ≡ place_in ns w → (among ns w ≡ true) × (p ≡ position ns w)
  unfolding place_in
  found_at p e =
      cases (among ns w)
      (λ q. let z : Some p ≡ Some (position ns w) = e ∙ sym (yes _ q refl) in (q, cc))
      (λ q. let z : Some p ≡ None = e ∙ sym (no _ q refl) in absurd (cc))

  pub found_none : None ≡ place_in ns w → among ns w ≡ false
  unfolding place_in
  found_none e =
      cases (among ns w)
      (λ q. let z : None ≡ Some (position ns w) = e ∙ sym (yes _ q refl) in absurd (cc))
      (λ q. q)

  -- after them all where there is none
  pub found_or : (n : ℕ) → n ≡ length ns → unwrap_or (place_in ns w) n ≡ position ns w
  unfolding place_in among
  found_or n e =
      cases (position ns w <? length ns)
      (λ q. ap (λ (o : Option ℕ). unwrap_or o n) (sym (yes {z = Some (position ns w)} None q refl)))
      (λ q.
      let l : length ns ≤ position ns w = lt×? q in
      let m = position_le ns w in
      let z : n ≡ position ns w = omega arith in
      ap (λ (o : Option ℕ). unwrap_or o n) (sym (no {z = None} (Some (position ns w)) q refl)) ∙ z)
