-- From a text whose form is right and whose names are: a tree that is well-formed and bounded.
use Rattle.std.specs.Prelude.{ℕ, zero, suc, ◌≤◌, ◌<◌, ◌≡◌, refl, true, false, not, List, [], ◌∷◌}
use Rattle.std.proofs.Common.{◌∙◌}
use Rattle.std.proofs.lemmas.Bool.{false≢true}
use Rattle.std.specs.Prelude.{length}
use Rattle.std.proofs.Common.{arith}
use lib.IntN.{ℤ, pos, negsuc}
use mir.Syntax.{w32}
use mir.Val.{of_z}
use Rattle.value.specs.Test.{◌<?◌, ◌≤?◌, ◌=?◌, ◌and◌}
use Rattle.value.specs.Primitive.{in32}
use Rattle.value.proofs.Integers.{in32_fits}
use Rattle.value.proofs.Tests.{not_false, lt?, le?, eq?, both?, pick_any}
use Rattle.haai.specs.Grammar.{Step}
use Rattle.std.specs.Prelude.{Some, None}
use Rattle.haai.specs.Word.{Word, word_start, word_end, words_from, words_of, is_number, integer_of, class_of}
use Rattle.haai.specs.Grammar.{begin, step_of, whole, is_top, Item, Formed, items, fault, with_item, taken, form_from}
use Rattle.haai.specs.Grammar.{form_of}
use Rattle.haai.specs.Syntax.{Definition}
use Rattle.haai.specs.Names.{Known, nothing, learn, learn_all, fault_of, text_of}
use Rattle.haai.specs.Emit as E
use Rattle.haai.specs.Emit.{within_limits}
use Rattle.haai.specs.declared.Phase.{Phase}
use Rattle.haai.specs.declared.Phase.TheVariants.{Top, Form, SourceName, SourceEnd, Head, ReactorName}
use Rattle.haai.specs.declared.Phase.TheVariants.{Parameters, Body, First, Out, Operator, Operands, End}
use Rattle.haai.specs.declared.Reading.{Reading}
use Rattle.haai.proofs.Formed.{nth, WellFormed, Bounded}
use Rattle.haai.proofs.Fitting.{ItemsOk, learn_all_sane, nothing_sane, guard_any, unless_clean}
use Rattle.haai.proofs.Counting.{Counted, Phased, ClassOk, StepGood, step_good}

-- ---- classes

-- a number of 32 bits is a word
in_word : (z : ℤ) → in32 z ≡ true → of_z w32 z < 4294967296
in_word (pos m) e = omega (arith, (in32_fits (pos m) e).sfits)
in_word (negsuc m) e = omega arith

pub class_ok : (n : ℕ) (w : List ℕ) → ClassOk n (class_of w)
unfolding class_of is_number
class_ok n w =
    guard_any (ClassOk n) _ _ _
    (λ a. guard_any (ClassOk n) _ _ _
    (λ b. guard_any (ClassOk n) _ _ _
    (λ c. guard_any (ClassOk n) _ _ _
    (λ d. guard_any (ClassOk n) _ _ _
    (λ e. pick_any (ClassOk n) _ (λ f. tt) (λ f. tt)) (λ e. tt))
    (λ d. in_word (integer_of w) (number d)))
    (λ c. tt))
    (λ b. tt))
    (λ a. tt)
  where
    number : not (is_number w) ≡ false → in32 (integer_of w) ≡ true
    number e = (both? (both? (not_false (is_number w) e)).1).1

-- ---- words

abbrev Below : ℕ → List Word → Type 0
Below n [] = Unit {0}
Below n (w ∷ ws) = (w.at < n) × Below n ws

words_below : (f : ℕ) (t : List ℕ) (i : ℕ) → Below (length t) (words_from f t i)
unfolding words_from
words_below zero t i = tt
words_below (suc f) t i =
    guard_any (Below (length t)) (word_start t i <? length t) [] _
    (λ e. (lt? e, words_below f t (word_end t (word_start t i)))) (λ e. tt)

-- ---- the form

pub record Ended (n : ℕ) (k : Known) (is : List Item) : Type 0 where
  pub state : Reading
  pub counted : Counted n state (learn_all k is)
  pub complete : whole state ≡ true
  pub ok : ItemsOk n is

same_items : {is js : List Item} → items is ≡ items js → is ≡ js
same_items e = cc

formed : (n : ℕ) (ws : List Word) (s : Reading) (k : Known) (is : List Item) → Below n ws → Counted n s k
    → form_from n ws s ≡ items is → Ended n k is
unfolding form_from taken with_item learn_all step_of
formed n [] s k is low c e =
    pick_any (λ x. x ≡ items is → Ended n k is) (whole s) done
    (λ f z. let y : ◌≡◌ {A = ℕ} 0 1 = cc in absurd (omega arith)) e
  where
    done : whole s ≡ true → items [] ≡ items is → Ended n k is
    done f z = rw (← (same_items z)) (record { state = s; counted = c; complete = f; ok = tt })
formed n (w ∷ ws) s k is low c e =
    step (λ r k₂ js c₂ e₂. formed n ws r k₂ js low.1 c₂ e₂) (step_of s (class_of w.bytes))
    (step_good n s k w.at w.bytes low.0 c.few_sources c.same c.few c.done s.phase c.phased
    (class_of w.bytes) (class_ok n w.bytes)) e
  where
    step : ((r : Reading) (k₂ : Known) (js : List Item) → Counted n r k₂ → form_from n ws r ≡ items js → Ended n k₂ js)
        → (x : Step) → StepGood n k w.at w.bytes x → taken (form_from n ws) w x ≡ items is → Ended n k is
    step rest None g z = let y : ◌≡◌ {A = ℕ} 0 1 = cc in absurd (omega arith)
    step rest (Some (r, s₂)) g z = by (form_from n ws s₂) refl z
      where
        by : (x : Formed) → form_from n ws s₂ ≡ x → with_item (record { role = r; word = w }) x ≡ items is → Ended n k is
        by (fault q) e₂ z₂ = let y : ◌≡◌ {A = ℕ} 0 1 = cc in absurd (omega arith)
        by (items js) e₂ z₂ =
            let f = rest s₂ (learn k w.at w.bytes r) js g.1 e₂ in
            rw (← (same_items z₂))
            (record { state = f.state; counted = f.counted; complete = f.complete; ok = ((low.0, g.0), f.ok) })

-- ---- the end of the text

pub begun : (n : ℕ) → Counted n begin (nothing n)
unfolding begin nothing
begun n =
    record {
      few_sources = omega arith;
      same = refl;
      few = omega arith;
      done = λ j l. absurd (omega arith);
      phased = (refl, λ l. absurd (omega arith));
    }

-- only `Top` is where a text may end
pub top_any : (P : Phase → Type 0) (f : Phase) → is_top f ≡ true → P f → P Top
unfolding is_top
top_any P Top e z = z
top_any P Form e z = absurd (false≢true e)
top_any P SourceName e z = absurd (false≢true e)
top_any P SourceEnd e z = absurd (false≢true e)
top_any P Head e z = absurd (false≢true e)
top_any P ReactorName e z = absurd (false≢true e)
top_any P Parameters e z = absurd (false≢true e)
top_any P Body e z = absurd (false≢true e)
top_any P First e z = absurd (false≢true e)
top_any P Out e z = absurd (false≢true e)
top_any P Operator e z = absurd (false≢true e)
top_any P Operands e z = absurd (false≢true e)
top_any P End e z = absurd (false≢true e)

-- 18's limits
pub limits : (fs : List Definition) → within_limits fs ≡ true → (j : ℕ) → j < length fs
    → (E.declared (nth fs j) ≤ 32) × (E.running (nth fs j) ≤ 128)
unfolding within_limits
limits [] e j h = absurd (omega arith)
limits (f ∷ fs) e zero h =
    guard_any (λ x. x ≡ true → (E.declared f ≤ 32) × (E.running f ≤ 128))
    ((E.declared f ≤? 32) and (E.running f ≤? 128)) false _
    (λ b z. let q = both? b in (le? q.0, le? q.1)) (λ b z. absurd (false≢true z)) e
limits (f ∷ fs) e (suc j) h =
    limits fs
    (guard_any (λ x. x ≡ true → within_limits fs ≡ true) ((E.declared f ≤? 32) and (E.running f ≤? 128)) false _
    (λ b z. z) (λ b z. absurd (false≢true z)) e) j (omega arith)

pub tree_right : (t : List ℕ) (is : List Item) → form_of t ≡ items is
    → fault_of (learn_all (nothing (length t)) is) ≡ length t
    → within_limits (learn_all (nothing (length t)) is).definitions ≡ true
    → WellFormed (learn_all (nothing (length t)) is).definitions (length (learn_all (nothing (length t)) is).sources)
    × Bounded (text_of (learn_all (nothing (length t)) is))
unfolding form_of words_of fault_of text_of whole
tree_right t is e f w =
    let n = length t in
    let k = learn_all (nothing n) is in
    let en = formed n (words_from n t 0) begin (nothing n) is (words_below n t 0) (begun n) e in
    let b = both? en.complete in
    let c = en.counted in
    let top = top_any (λ f. Phased n f en.state k) en.state.phase b.0 c.phased in
    let l : 1 ≤ en.state.definitions = le? b.1 in
    let some : 1 ≤ length k.definitions = omega (arith, c.same) in
    let at = top.1 some in
    let sane = learn_all_sane n is (nothing n) en.ok (nothing_sane n) in
    let u = unless_clean (length k.parameters =? 0) k.at k.fault n at.0 sane.most f in
    let clean = sane.clean u.1 in
    let bare : length k.parameters ≡ 0 = eq? u.0 in (
      record { bodies = clean.bodies; main_bare = at.1 ∙ bare },
      record {
        few_sources = c.few_sources;
        some = some;
        few = c.few;
        few_parameters = λ j l. (c.done j l).0;
        some_sink = λ j l. (c.done j l).1;
        few_sinks = λ j l. (c.done j l).2;
        few_d = λ j l. (limits k.definitions w j l).0;
        few_r = λ j l. (limits k.definitions w j l).1;
      },
    )
