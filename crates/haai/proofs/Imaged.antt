-- What is known of names, by its places in the text: `Named` relates what the definition knows to a tally and its
-- places, and each name that is taken in keeps it.
use Rattle.std.specs.Prelude.{ℕ, zero, suc, ◌+◌, ◌-◌, ◌<◌, ◌≡◌, refl, not, List, [], ◌∷◌, ◌++◌}
use Rattle.std.proofs.Common.{sym, ◌∙◌, ap, ap₂, inl, inr}
use Rattle.std.specs.Prelude.{length, set}
use Rattle.std.proofs.Common.{arith}
use lib.ListN.{length-set}
use Rattle.value.specs.Test.{guard}
use Rattle.value.proofs.Tests.{cases, goes, stops, lt?}
use Rattle.haai.specs.declared.Places.{Places}
use Rattle.haai.specs.Word.{position, among, signs, sign_at, sign_number}
use Rattle.haai.specs.Syntax.{sign, global}
use Rattle.haai.specs.Names.{Known, meant, operator_of, fresh, unless, add_source, add_reactor, add_parameter}
use Rattle.haai.specs.Places.{word_of, names_at, sources_in, reactors_in, names_in, parameters_in, Fits, Held, held}
use Rattle.haai.specs.Places.{source_held, reactor_held, parameter_held, applied_by, operator_in, expr_of, global_in}
use Rattle.haai.specs.Places.{meant_in}
use Rattle.haai.specs.Places.{Roomy}
use Rattle.haai.specs.declared.Tally.{Tally}
use Rattle.haai.proofs.Placed.{names_more}

pub record Named (t : List ℕ) (k : Known) (v : Tally) (ps : Places) : Type 0 where
  pub fault : v.fault ≡ k.fault
  pub sources : names_at t ps.sources 0 v.sources ≡ k.sources
  pub reactors : names_at t ps.reactors 0 v.reactors ≡ k.reactors
  pub others : names_at t ps.parameters 0 v.names ≡ k.others
  pub parameters : names_at t ps.parameters v.own (v.names - v.own) ≡ k.parameters
  pub at : v.at ≡ k.at
  pub room : Roomy ps
  pub fits : Fits v

abbrev pub NamedHeld : List ℕ → Known → Held → Type 0
NamedHeld t k (held v ps) = Named t k v ps

faults : {l m : List (List ℕ)} {f g : ℕ} (w : List ℕ) (a : ℕ) → l ≡ m → f ≡ g
    → unless (fresh l w) a f ≡ unless (fresh m w) a g
faults w a p q = ap₂ (λ x y. unless (fresh x w) a y) p q

joined : {a b c x y z : List (List ℕ)} → a ≡ x → b ≡ y → c ≡ z → a ++ (b ++ c) ≡ x ++ (y ++ z)
joined p q r = ap₂ (λ l m. l ++ m) p (ap₂ (λ l m. l ++ m) q r)

none_named : (t ps : List ℕ) (i : ℕ) → names_at t ps i 0 ≡ []
unfolding names_at
none_named t ps i = refl

-- one name more, at the end of the list from i on
longer : (t ps : List ℕ) (n i j a : ℕ) (l : List (List ℕ)) → j ≡ i + n → i + n < length ps → names_at t ps i n ≡ l
    → names_at t (set ps j a) i (n + 1) ≡ l ++ (word_of t a ∷ [])
longer t ps n i j a l e h q =
    ap (λ (x : ℕ). names_at t (set ps x a) i (n + 1)) e
    ∙ names_more t ps n i a h
    ∙ ap (λ (x : List (List ℕ)). x ++ (word_of t a ∷ [])) q

module _ (t : List ℕ) (a : ℕ) (k : Known) (v : Tally) (ps : Places) (h : Named t k v ps) where
  abbrev w : List ℕ
  w = word_of t a

  pub named_source : v.sources < 31 → NamedHeld t (add_source k a w) (source_held t a w v ps)
  unfolding add_source source_held sources_in
  named_source l =
      let n = h.room.0 in let f = h.fits.1.0 in let g = h.fits.1.1.0 in let o = h.fits.1.1.1 in
      record {
        fault = faults w a h.sources h.fault;
        sources = longer t ps.sources v.sources 0 v.sources a k.sources (omega arith) (omega arith) h.sources;
        reactors = h.reactors;
        others = h.others;
        parameters = h.parameters;
        at = h.at;
        room = (length-set ps.sources v.sources a ∙ n, h.room.1);
        fits = (omega arith, (f, (g, o)));
      }

  pub named_reactor : v.reactors < 32 → NamedHeld t (add_reactor k a w) (reactor_held t a w v ps)
  unfolding add_reactor reactor_held sources_in reactors_in names_in
  named_reactor l =
      let n = h.room.1.0 in let s = h.fits.0 in let g = h.fits.1.1.0 in
      let z : v.names - v.names ≡ 0 = omega arith in
      record {
        fault = faults w a (joined h.sources h.reactors h.others) h.fault;
        sources = h.sources;
        reactors = longer t ps.reactors v.reactors 0 v.reactors a k.reactors (omega arith) (omega arith) h.reactors;
        others = h.others;
        parameters =
            ap (λ (x : ℕ). names_at t ps.parameters v.names x) z ∙ none_named t ps.parameters v.names;
        at = refl;
        room = (h.room.0, (length-set ps.reactors v.reactors a ∙ n, h.room.1.1));
        fits = (s, (omega arith, (g, omega arith)));
      }

  pub named_parameter : v.names < 224 → NamedHeld t (add_parameter k a w) (parameter_held t a w v ps)
  unfolding add_parameter parameter_held sources_in reactors_in parameters_in
  named_parameter l =
      let n = h.room.1.1 in let s = h.fits.0 in let f = h.fits.1.0 in let o = h.fits.1.1.1 in
      let z : v.names + 1 - v.own ≡ v.names - v.own + 1 = omega arith in
      record {
        fault = faults w a (joined h.sources h.reactors h.parameters) h.fault;
        sources = h.sources;
        reactors = h.reactors;
        others = longer t ps.parameters v.names 0 v.names a k.others (omega arith) (omega arith) h.others;
        parameters =
            ap (λ (x : ℕ). names_at t (set ps.parameters v.names a) v.own x) z
            ∙ longer t ps.parameters (v.names - v.own) v.own v.names a k.parameters (omega arith) (omega arith)
            h.parameters;
        at = h.at;
        room = (h.room.0, (h.room.1.0, length-set ps.parameters v.names a ∙ n));
        fits = (s, (f, (omega arith, omega arith)));
      }

-- ---- what a name means

-- the sign at a place is the one with its number
pub sign_place : (n : ℕ) → n < 4 → sign_number (sign_at n) ≡ n
unfolding sign_number sign_at
sign_place zero l = refl
sign_place (suc zero) l = refl
sign_place (suc (suc zero)) l = refl
sign_place (suc (suc (suc zero))) l = refl
sign_place (suc (suc (suc (suc n)))) l = absurd (omega arith)

pub operator_same : (k : Known) (w : List ℕ) → applied_by (operator_in k.reactors w) ≡ operator_of k w
unfolding operator_in applied_by operator_of among
operator_same k w =
    cases (among signs w)
    (λ e.
    sym (ap applied_by (stops _ (ap not e) refl))
    ∙ ap (λ (n : ℕ). sign n) (sign_place (position signs w) (lt? e))
    ∙ stops _ (ap not e) refl)
    (λ e. sym (ap applied_by (goes _ _ (ap not e) refl)) ∙ goes _ _ (ap not e) refl)

global_same : (k : Known) (w : List ℕ)
    → expr_of (global_in k.sources w)
    ≡ guard (not (among k.sources w)) (global (position k.sources w + 1)) (λ _. global 0)
unfolding expr_of global_in
global_same k w =
    cases (among k.sources w)
    (λ e. sym (ap expr_of (stops _ (ap not e) refl)) ∙ stops _ (ap not e) refl)
    (λ e. sym (ap expr_of (goes _ _ (ap not e) refl)) ∙ goes _ _ (ap not e) refl)

pub meant_same : (k : Known) (w : List ℕ) → expr_of (meant_in k.parameters k.sources w) ≡ meant k w
unfolding expr_of meant_in meant
meant_same k w =
    cases (among k.parameters w)
    (λ e. sym (ap expr_of (stops _ (ap not e) refl)) ∙ stops _ (ap not e) refl)
    (λ e. sym (ap expr_of (goes _ _ (ap not e) refl)) ∙ goes _ _ (ap not e) (global_same k w))
