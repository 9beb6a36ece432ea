-- The loop of the pass over names: a word's end as the code has it, and what is found when the words are all read.
use Rattle.std.specs.Prelude.{ℕ, ◌-◌, ◌≤◌, ◌<◌, ◌≡◌, List, length}
use Rattle.std.proofs.Common.{sym, ◌∙◌, ap, subst, arith}
use Rattle.value.specs.Test.{◌=?◌}
use Rattle.haai.specs.declared.Places.{Places}
use Rattle.haai.specs.declared.Knowing.{Knowing}
use Rattle.haai.specs.Grammar.{takes, refuses}
use Rattle.haai.specs.Word.{word_start, word_end, bytes_of, class_of}
use Rattle.haai.specs.Grammar.{step_of, form_of}
use Rattle.haai.specs.Names.{Known, unless, fault_of}
use Rattle.haai.specs.Places.{word_of}
use Rattle.haai.specs.Tables.{learnt, known_by, found_of, FoundIs}
use Rattle.haai.specs.declared.Found.{Found}
use Rattle.haai.specs.declared.Reading.{Reading}
use Rattle.haai.specs.declared.Role.{Role}
use Rattle.haai.specs.declared.Tally.{Tally}
use Rattle.haai.proofs.Placed.{length_names}
use Rattle.haai.proofs.Imaged.{Named}
use Rattle.haai.proofs.Gathering.{Gathering, gather_ends, gather_on, gather_refused, gather_taken}

module _ (t : List ℕ) (s : Reading) (a : ℕ) (x : Knowing) (h : Gathering t s a x) (l : a < length t) where
  module _ (e : ℕ) (q : e ≡ word_end t a) where
    pub gather_further : (b : ℕ) → b ≡ word_start t e → a < b
    gather_further b p = gather_on t s a x h l b (p ∙ ap (word_start t) q)

    pub gather_stops : {C : Type 0} → step_of s (class_of (bytes_of t a e)) ≡ refuses → C
    gather_stops p =
        absurd (gather_refused t s a x h l (ap (λ (n : ℕ). step_of s (class_of (bytes_of t a n))) (sym q) ∙ p))

    pub gather_goes : (b : ℕ) (r : Role) (s₂ : Reading) (y : Knowing) → b ≡ word_start t e
        → step_of s (class_of (bytes_of t a e)) ≡ takes r s₂
        → y ≡ learnt t a (bytes_of t a e) x r
        → Gathering t s₂ b y
    unfolding word_of
    gather_goes b r s₂ y p f g =
        subst (Gathering t s₂ b) (sym (g ∙ ap (λ (n : ℕ). learnt t a (bytes_of t a n) x r) q))
        (gather_taken t s a x h l b r s₂ (p ∙ ap (word_start t) q)
        (ap (λ (n : ℕ). step_of s (class_of (bytes_of t a n))) (sym q) ∙ f))

same_fault : (t : List ℕ) (k : Known) (v : Tally) (ps : Places) → Named t k v ps
    → unless (v.names - v.own =? 0) v.at v.fault ≡ fault_of k
unfolding fault_of
same_fault t k v ps h =
    let few = sym (length_names t ps.parameters (v.names - v.own) _) ∙ ap length h.parameters in
    ap (λ (n : ℕ). unless (n =? 0) v.at v.fault) few
    ∙ ap (λ (n : ℕ). unless (length k.parameters =? 0) n v.fault) h.at
    ∙ ap (λ (n : ℕ). unless (length k.parameters =? 0) k.at n) h.fault

pub gather_found : (t : List ℕ) (s : Reading) (a : ℕ) (x : Knowing) → Gathering t s a x → length t ≤ a → (f : Found)
    → f ≡ found_of x.tally x.tree
    → FoundIs (known_by (length t) (form_of t)) f x.sizes
unfolding found_of
gather_found t s a x h l f e =
    let k = known_by (length t) (form_of t) in
    let end = gather_ends t s a x h l in
    let n = end.named in
    let sources = sym (length_names t x.places.sources x.tally.sources 0) ∙ ap length n.sources in
    let definitions = end.grown.definitions in
    let few_sources = end.counted.few_sources in
    let few = end.counted.few in
    subst (λ (y : Found). FoundIs k y x.sizes) (sym e)
    (record {
      fault = same_fault t k x.tally x.places n;
      sources = sources;
      definitions = definitions;
      few_sources = omega arith;
      few = omega arith;
      sizes = end.grown.sizes;
      long = end.grown.long_table;
    })
