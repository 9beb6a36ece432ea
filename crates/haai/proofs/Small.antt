-- The counts of how far a form has been read stay small; and what each word of a pass over the form comes to.
use Rattle.std.specs.Prelude.{ℕ, ◌-◌, ◌≤◌, ◌<◌, ◌≡◌, refl, Bool, true, false, List}
use Rattle.std.proofs.Common.{sym, ◌∙◌, ap, subst}
use Rattle.std.proofs.lemmas.Bool.{false≢true}
use Rattle.std.specs.Prelude.{[], ◌∷◌, length}
use Rattle.std.proofs.Common.{arith}
use Rattle.value.specs.Test.{pick, ◌<?◌, ◌≤?◌, ◌=?◌, ◌and◌}
use Rattle.value.proofs.Tests.{lt?, both?, pick_any}
use Rattle.haai.specs.Grammar.{Step, takes, refuses}
use Rattle.std.specs.Prelude.{Some, None, Err}
use Rattle.haai.specs.Word.{Word, word_start, word_end, bytes_of, class_of, defr_word, out_word, source_word}
use Rattle.haai.specs.Grammar.{is_open, is_shut, named, operates, is_taken, begin, on_to, counting, deepened, sourced}
use Rattle.haai.specs.Grammar.{defined, after_expression, expression, step_at, step_of, whole, Item, Formed, items}
use Rattle.haai.specs.Grammar.{fault, with_item, taken, form_from, form_of}
use Rattle.haai.specs.Clauses.{Room, check_of, right}
use Rattle.haai.specs.declared.Class.{Class}
use Rattle.haai.specs.declared.Class.TheVariants.{Open, Shut, Sign, Number, Taken, Name, Other}
use Rattle.haai.specs.declared.Phase.{Phase}
use Rattle.haai.specs.declared.Phase.TheVariants.{Top, Form, SourceName, SourceEnd, Head, ReactorName}
use Rattle.haai.specs.declared.Phase.TheVariants.{Parameters, Body, First, Out, Operator, Operands, End}
use Rattle.haai.specs.declared.Reading.{Reading}
use Rattle.haai.specs.declared.Role.{Role}
use Rattle.haai.proofs.Ahead.{Ahead, ahead, at_first, first_words, at_last, word_at, onward, words_ahead, further}
use Rattle.haai.proofs.Ahead.{end_in}

-- ---- small counts

-- what a phase adds: a source or a definition has still to be counted, or an expression
abbrev Phased : Phase → ℕ → ℕ → ℕ → Bool → Type 0
Phased Top a d n m = Unit {0}
Phased Form a d n m = d < 32
Phased SourceName a d n m = (d < 32) × (a < 31)
Phased SourceEnd a d n m = (d < 32) × (a < 31)
Phased Head a d n m = d < 32
Phased ReactorName a d n m = d < 32
Phased Parameters a d n m = d < 32
Phased Body a d n m = (d < 32) × (m ≡ false)
Phased First a d n m = (d < 32) × (m ≡ false)
Phased Out a d n m = d < 32
Phased Operator a d n m = (d < 32) × (m ≡ true → n < 7)
Phased Operands a d n m = (d < 32) × (m ≡ true → n < 7)
Phased End a d n m = d < 32

pub record Small (s : Reading) : Type 0 where
  pub few_sources : s.sources ≤ 31
  pub few_definitions : s.definitions ≤ 32
  pub few : s.count ≤ 7
  pub phased : Phased s.phase s.sources s.definitions s.count s.many

pub small_begin : Small begin
unfolding begin
small_begin = record { few_sources = omega arith; few_definitions = omega arith; few = omega arith; phased = tt }

pub room : (s : Reading) → Small s → Room s
room s h =
    let a = h.few_sources in let b = h.few_definitions in let c = h.few in (omega arith, (omega arith, omega arith))

abbrev pub SmallStep : Step → Type 0
SmallStep (Some (r, s)) = Small s
SmallStep None = Unit {0}

small : {s : Reading} → s.sources ≤ 31 → s.definitions ≤ 32 → s.count ≤ 7
    → Phased s.phase s.sources s.definitions s.count s.many → Small s
small a b c z = record { few_sources = a; few_definitions = b; few = c; phased = z }

module _ (s : Reading) (fs : s.sources ≤ 31) (fd : s.definitions ≤ 32) (fc : s.count ≤ 7) where
  after : (d : ℕ) → s.definitions < 32 → (s.many ≡ true → s.count < 7) → Small (after_expression s d)
  unfolding after_expression deepened counting
  after d l h =
      pick_any Small (0 <? d) (λ z. small fs fd fc (l, h))
      (λ z. pick_any Small s.many (λ m. small fs fd (omega (arith, h m)) l) (λ m. small fs fd (omega arith) l))

  expression_small : s.definitions < 32 → (s.many ≡ true → s.count < 7) → (c : Class) → SmallStep (expression s c)
  unfolding expression deepened
  expression_small l h Open = pick_any SmallStep (s.depth <? 16) (λ z. small fs fd fc (l, h)) (λ z. tt)
  expression_small l h Shut = tt
  expression_small l h (Sign o) = tt
  expression_small l h (Number v) = after s.depth l h
  expression_small l h (Taken j) = after s.depth l h
  expression_small l h Name = after s.depth l h
  expression_small l h Other = tt

  never : {A : Type 0} → s.many ≡ false → s.many ≡ true → A
  never e f = absurd (false≢true (sym e ∙ f))

  by_phase : (f : Phase) → Phased f s.sources s.definitions s.count s.many → (c : Class)
      → SmallStep (step_at f s c)
  unfolding step_at on_to counting deepened sourced defined
  by_phase Top z c =
      pick_any SmallStep (is_open c and (s.definitions <? 32))
      (λ e. small fs fd fc (lt? (both? e).1)) (λ e. tt)
  by_phase Form z c =
      pick_any SmallStep (is_taken source_word c and ((s.definitions =? 0) and (s.sources <? 31)))
      (λ e. small fs fd fc (z, lt? (both? (both? e).1).1))
      (λ e. pick_any SmallStep (is_taken defr_word c) (λ e. small fs fd fc z) (λ e. tt))
  by_phase SourceName z c = pick_any SmallStep (named c) (λ e. small fs fd fc z) (λ e. tt)
  by_phase SourceEnd z c =
      pick_any SmallStep (is_shut c) (λ e. let a = z.1 in small (omega arith) fd (omega arith) tt) (λ e. tt)
  by_phase Head z c = pick_any SmallStep (is_open c) (λ e. small fs fd fc z) (λ e. tt)
  by_phase ReactorName z c = pick_any SmallStep (named c) (λ e. small fs fd (omega arith) z) (λ e. tt)
  by_phase Parameters z c =
      pick_any SmallStep (is_shut c)
      (λ e. small fs fd (omega arith) (z, refl))
      (λ e. pick_any SmallStep (named c and (s.count <? 7))
      (λ e. let l : s.count < 7 = lt? (both? e).1 in small fs fd (omega arith) z) (λ e. tt))
  by_phase Body z c =
      pick_any SmallStep (is_open c)
      (λ e. small fs fd fc z)
      (λ e. expression_small z.0 (never z.1) c)
  by_phase First z c =
      pick_any SmallStep (is_taken out_word c)
      (λ e. small fs fd (omega arith) z.0)
      (λ e. pick_any SmallStep (operates c) (λ e. small fs fd fc (z.0, never z.1)) (λ e. tt))
  by_phase Out z c =
      pick_any SmallStep (is_shut c and (1 ≤? s.count))
      (λ e. small fs fd fc z)
      (λ e. pick_any SmallStep (s.count <? 7) (λ e. expression_small z (λ m. lt? e) c) (λ e. tt))
  by_phase Operator z c = pick_any SmallStep (operates c) (λ e. small fs fd fc z) (λ e. tt)
  by_phase Operands z c =
      pick_any SmallStep (is_shut c) (λ e. after (s.depth - 1) z.0 z.1) (λ e. expression_small z.0 z.1 c)
  by_phase End z c = pick_any SmallStep (is_shut c) (λ e. small fs (omega arith) (omega arith) tt) (λ e. tt)

pub step_small : (s : Reading) → Small s → (c : Class) → SmallStep (step_of s c)
unfolding step_of
step_small s h c = by_phase s h.few_sources h.few_definitions h.few s.phase h.phased c

-- ---- the check of the form

pub check_item : (i : Item) (x : Formed) → check_of (with_item i x) ≡ check_of x
unfolding check_of with_item
check_item i (items is) = refl
check_item i (fault q) = refl

check_pick : (n : ℕ) (b : Bool) → pick b right (Err n) ≡ check_of (pick b (items []) (fault n))
unfolding check_of pick
check_pick n true = refl
check_pick n false = refl

pub form_word : (n : ℕ) (w : Word) (ws : List Word) (s : Reading)
    → form_from n (w ∷ ws) s ≡ taken (form_from n ws) w (step_of s (class_of w.bytes))
unfolding form_from
form_word n w ws s = refl

module _ (t : List ℕ) where
  -- the check so far: the answer is that for the words ahead
  pub record Checking (s : Reading) (a : ℕ) : Type 0 where
    pub words : Ahead t a
    pub same : check_of (form_of t) ≡ check_of (form_from (length t) (ahead t words) s)
    pub small : Small s

  pub check_begins : (s : Reading) (a : ℕ) → s ≡ begin → a ≡ word_start t 0 → Checking s a
  unfolding form_of
  check_begins s a e f =
      record {
        words = at_first t a f;
        same =
            ap (λ (ws : List Word). check_of (form_from (length t) ws begin)) (sym (first_words t a f))
            ∙ ap (λ (z : Reading). check_of (form_from (length t) (ahead t (at_first t a f)) z)) (sym e);
        small = subst Small (sym e) small_begin;
      }

  ends : (s : Reading) → pick (whole s) right (Err (length t)) ≡ check_of (form_from (length t) [] s)
  unfolding form_from
  ends s = check_pick (length t) (whole s)

  module _ (s : Reading) (a : ℕ) (h : Checking s a) where
    pub check_ends : length t ≤ a → pick (whole s) right (Err (length t)) ≡ check_of (form_of t)
    check_ends l =
        ends s ∙ sym (h.same ∙ ap (λ (ws : List Word). check_of (form_from (length t) ws s)) (at_last t h.words l))

    module _ (l : a < length t) where
      abbrev step : Step
      step = step_of s (class_of (bytes_of t a (word_end t a)))

      -- the check of what follows the word
      abbrev later : (b : ℕ) → b ≡ word_start t (word_end t a) → Reading → Formed
      later b e = form_from (length t) (ahead t (onward t h.words l b e))

      -- the word's end
      pub word_in : (e : ℕ) → e ≡ word_end t a → (a ≤ e) × (e ≤ length t)
      word_in = end_in t a l

      pub goes_on : (b : ℕ) → b ≡ word_start t (word_end t a) → a < b
      goes_on b e = further t h.words l b e

      turn : (b : ℕ) (e : b ≡ word_start t (word_end t a))
          → check_of (form_of t) ≡ check_of (taken (later b e) (word_at t a) step)
      turn b e =
          h.same
          ∙ ap (λ (ws : List Word). check_of (form_from (length t) ws s)) (words_ahead t h.words l b e)
          ∙ ap check_of (form_word (length t) (word_at t a) (ahead t (onward t h.words l b e)) s)

      pub check_refused : (b : ℕ) → b ≡ word_start t (word_end t a) → step ≡ refuses → Err a ≡ check_of (form_of t)
      unfolding check_of taken
      check_refused b e q = sym (turn b e ∙ ap (λ (x : Step). check_of (taken (later b e) (word_at t a) x)) q)

      pub check_taken : (b : ℕ) (r : Role) (s₂ : Reading) → b ≡ word_start t (word_end t a) → step ≡ takes r s₂
          → Checking s₂ b
      unfolding taken
      check_taken b r s₂ e q =
          record {
            words = onward t h.words l b e;
            same =
                turn b e ∙ ap (λ (x : Step). check_of (taken (later b e) (word_at t a) x)) q
                ∙ check_item (record { role = r; word = word_at t a }) (later b e s₂);
            small = subst SmallStep q (step_small s h.small (class_of (bytes_of t a (word_end t a))));
          }
