-- The words of a text one after the other, as a pass over it meets them: each begins at `word_start` of the end of
-- the one before.
use Rattle.std.specs.Prelude.{ℕ, zero, suc, ◌+◌, ◌-◌, ◌≤◌, ◌<◌, ◌≡◌, refl, ◌⊎◌}
use Rattle.std.proofs.Common.{sym, ◌∙◌, ap, subst, inl, inr, ⊎_elim}
use Rattle.std.specs.Prelude.{Bool, false, not, List, [], ◌∷◌, length}
use Rattle.std.proofs.Common.{arith}
use Rattle.value.specs.Test.{sweep}
use Rattle.value.proofs.Tests.{cases, goes, stops, lt!, lt×, or×}
use Rattle.value.proofs.Sweeps.{swept, sweep_next, Swept}
use Rattle.program.specs.Bytes.{byte}
use Rattle.haai.specs.Word.{Word, is_space, is_bracket, ends_word, word_start, word_end, bytes_of, words_from, words_of}

module _ (t : List ℕ) where
  -- ---- where words are

  spaces : (i : ℕ) → Swept (λ j. is_space (byte t j)) i (length t - i) (word_start t i)
  unfolding word_start
  spaces i = swept (λ j. is_space (byte t j)) i (length t - i)

  pub start_from : (i : ℕ) → i ≤ word_start t i
  start_from i = (spaces i).from

  pub start_to : (i : ℕ) → i ≤ length t → word_start t i ≤ length t
  start_to i h = let l = (spaces i).to in omega arith

  no_space : (i a : ℕ) → a ≡ word_start t i → a < length t → is_space (byte t a) ≡ false
  no_space i a e h =
      let f = (spaces i).from in
      subst (λ (j : ℕ). is_space (byte t j) ≡ false) (sym e) ((spaces i).stopped (omega arith))

  abbrev plain : ℕ → Bool
  plain j = not (ends_word (byte t j))

  module _ (a : ℕ) (h : a < length t) where
    -- after a bracket, or at the first byte that ends a word
    ends : (word_end t a ≡ a + 1) ⊎ ((is_bracket (byte t a) ≡ false) × (word_end t a ≡ sweep plain a (length t - a)))
    unfolding word_end
    ends =
        cases (is_bracket (byte t a))
        (λ e. inl (sym (stops _ (ap not e) refl)))
        (λ e. inr (e, sym (goes _ _ (ap not e) refl)))

    pub end_to : word_end t a ≤ length t
    end_to = ⊎_elim (λ q. omega arith) (λ q. omega (arith, q.1, (swept plain a (length t - a)).to)) ends

    pub end_least : a ≤ word_end t a
    end_least = ⊎_elim (λ q. omega arith) (λ q. omega (arith, q.1, (swept plain a (length t - a)).from)) ends

    pub end_in : (e : ℕ) → e ≡ word_end t a → (a ≤ e) × (e ≤ length t)
    end_in e q = (omega (arith, end_least), omega (arith, end_to))

    pub end_from : is_space (byte t a) ≡ false → a < word_end t a
    unfolding ends_word
    end_from d =
        ⊎_elim (λ q. omega arith)
        (λ q.
        let n = sweep_next plain a (length t) h (ap not (or× d q.0)) in
        let l = (swept plain (a + 1) (length t - (a + 1))).from in
        omega (arith, q.1)) ends

  -- ---- the words ahead

  -- a pass stands at the word that begins at a
  pub record Ahead (a : ℕ) : Type 0 where
    pub place : ℕ
    pub fuel : ℕ
    pub start : a ≡ word_start t place
    pub enough : length t ≤ place + fuel

  abbrev pub ahead : {a : ℕ} → Ahead a → List Word
  ahead h = words_from h.fuel t h.place

  pub at_first : (a : ℕ) → a ≡ word_start t 0 → Ahead a
  at_first a e = record { place = 0; fuel = length t; start = e; enough = omega arith }

  pub first_words : (a : ℕ) (e : a ≡ word_start t 0) → ahead (at_first a e) ≡ words_of t
  unfolding words_of at_first
  first_words a e = refl

  none_ahead : (f i : ℕ) → length t ≤ word_start t i → words_from f t i ≡ []
  unfolding words_from
  none_ahead zero i h = refl
  none_ahead (suc f) i h = sym (stops _ (lt× h) refl)

  pub at_last : {a : ℕ} (h : Ahead a) → length t ≤ a → ahead h ≡ []
  at_last h l = none_ahead h.fuel h.place (let e = h.start in omega arith)

  abbrev pub word_at : ℕ → Word
  word_at a = record { at = a; bytes = bytes_of t a (word_end t a) }

  pub word_past : {a : ℕ} → Ahead a → a < length t → a < word_end t a
  word_past {a} h l = end_from a l (no_space h.place a h.start l)

  one_word : (f i a : ℕ) → a ≡ word_start t i → a < length t
      → words_from (suc f) t i ≡ word_at a ∷ words_from f t (word_end t a)
  unfolding words_from
  one_word f i a e l = rw (← e) (sym (goes _ _ (lt! l) refl))

  module _ {a : ℕ} (h : Ahead a) (l : a < length t) (b : ℕ) (e : b ≡ word_start t (word_end t a)) where
    pub onward : Ahead b
    onward =
        let p = word_past h l in let s = h.start in let f = start_from h.place in let n = h.enough in
        record { place = word_end t a; fuel = h.fuel - 1; start = e; enough = omega arith }

    pub further : a < b
    further = let p = word_past h l in let f = start_from (word_end t a) in omega arith

    pub words_ahead : ahead h ≡ word_at a ∷ ahead onward
    unfolding onward word_end
    words_ahead =
        let s = h.start in let f = start_from h.place in let n = h.enough in
        let q : h.fuel ≡ suc (h.fuel - 1) = omega arith in
        ap (λ (k : ℕ). words_from k t h.place) q ∙ one_word (h.fuel - 1) h.place a h.start l
