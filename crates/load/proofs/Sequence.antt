-- A command among the D commands, or among the R commands: allowed where it stands in its sequence and is right,
-- and then taken. Assumes nothing.
use Rattle.std.specs.Prelude.{ℕ, ◌≡◌, ◌≢◌, refl, Bool, true, false, List, Option, None, Some, is_some}
use Rattle.std.specs.Bool.{then_some}
use Rattle.std.proofs.Common.{sym, ◌∙◌, ap, subst}
use Rattle.value.specs.Test.{◌and◌, ◌<?◌, pick}
use Rattle.value.proofs.Tests.{eq?, eq×?, true_and, yes, no}
use Rattle.program.specs.Bytes.{commands_d}
use Rattle.program.specs.Command.{Cmd, Give, gives, sequence_of, decode}
use Rattle.program.specs.Kind.{give_kind}
use Rattle.program.specs.declared.Command.{Command}
use Rattle.program.proofs.Decode.{by_code}
use Rattle.load.specs.Scan.{some_value, stand, in_sequence, standing_after, refusal_of}
use Rattle.load.specs.Clauses.{right, allowed, state, valued, Giving, Taking, Making}
use Rattle.load.specs.declared.Location.{Location}
use Rattle.load.specs.declared.Locations.{Locations}
use Rattle.load.specs.declared.Scan.{Scan}
use Rattle.load.proofs.Conditions.{allowed_test}

module _ (p : List ℕ) (r : ℕ) (s : Scan) (c : Command) where
  pub in_its_sequence : (is_d : Bool) (d : Cmd) {z : Bool} → in_sequence (sequence_of d) is_d ≡ true → z ≡ right p r s c d →
      z ≡ allowed is_d p r s c d
  unfolding allowed
  in_its_sequence is_d d q e = e ∙ sym (true_and _ q)

  -- a code of no R command, and of no D command
  pub other_r :
      (c.code ≡ 3 → ⊥) → (c.code ≡ 4 → ⊥) → (c.code ≡ 5 → ⊥) → (c.code ≡ 6 → ⊥) → (c.code ≡ 7 → ⊥) →
      (c.code ≡ 8 → ⊥) →
      (c.code ≡ 9 → ⊥) → (c.code ≡ 10 → ⊥) → (c.code ≡ 12 → ⊥) → (c.code ≡ 13 → ⊥) → false ≡ allowed false p r s c
      (decode c)
  unfolding allowed in_sequence sequence_of ◌and◌
  other_r n3 n4 n5 n6 n7 n8 n9 n10 n12 n13 =
      by_code (λ (d : Cmd). false ≡ allowed false p r s c d) c (λ e. refl) (λ e. refl)
      (λ e. absurd (n3 e)) (λ e. absurd (n4 e)) (λ e. absurd (n5 e)) (λ e. absurd (n6 e)) (λ e. absurd (n7 e))
      (λ e. absurd (n8 e))
      (λ e. absurd (n9 e)) (λ e. absurd (n10 e)) (λ e. refl) (λ e. absurd (n12 e)) (λ e. absurd (n13 e)) (λ e. refl)

  pub other_d : (c.code ≡ 1 → ⊥) → (c.code ≡ 2 → ⊥) → (c.code ≡ 11 → ⊥) → false ≡ allowed true p r s c (decode c)
  unfolding allowed in_sequence sequence_of ◌and◌
  other_d n1 n2 n11 =
      by_code (λ (d : Cmd). false ≡ allowed true p r s c d) c (λ e. absurd (n1 e)) (λ e. absurd (n2 e))
      (λ e. refl) (λ e. refl) (λ e. refl) (λ e. refl) (λ e. refl) (λ e. refl)
      (λ e. refl) (λ e. refl) (λ e. absurd (n11 e)) (λ e. refl) (λ e. refl) (λ e. refl)

  -- ---- a step

  module _ (is_d : Bool) (q : (s.next <? commands_d p r) ≡ is_d) where
    asked : allowed is_d p r s c (decode c) ≡ allowed (s.next <? commands_d p r) p r s c (decode c)
    asked = ap (λ (b : Bool). allowed b p r s c (decode c)) (sym q)

    pub step_refused : allowed is_d p r s c (decode c) ≡ false → refusal_of p r s c (decode c) ≢ 0
    step_refused e = eq×? (allowed_test p r s c (decode c) ∙ sym asked ∙ e)

    pub step_taken : allowed is_d p r s c (decode c) ≡ true → refusal_of p r s c (decode c) ≡ 0
    step_taken e = eq? (allowed_test p r s c (decode c) ∙ sym asked ∙ e)

-- the condition of an R command, and the locations where it holds and where not
pub taking : (p : List ℕ) (r here : ℕ) (before after : Locations) (c : Command) (d : Cmd) {t : Bool} →
    in_sequence (sequence_of d) false ≡ true → ((n : ℕ) → t ≡ right p r (state before n) c d) →
    ((n : ℕ) → let s = state before n in state after n ≡ pick t (standing_after p r s here d) s) →
    Taking p r here before after c d t
taking p r here before after c d q e f =
    record { told = λ n. in_its_sequence p r (state before n) c false d q (e n); done = f }

-- the kind of a value, by two conditions that agree
pub same_given : {t u : Bool} {j k : ℕ} → t ≡ u → j ≡ k → then_some t j ≡ then_some u k
same_given e f = simp (e, f)

pub none_given : {t : Bool} (k : ℕ) → false ≡ t → None ≡ then_some t k
none_given k e = ap (λ (t : Bool). then_some t k) e

none_right : (b : Bool) (x : ℕ) → None ≡ then_some b x → b ≡ false
none_right true x e = cc
none_right false x e = refl

some_right : (b : Bool) (k x : ℕ) → Some k ≡ then_some b x → (b ≡ true) × (k ≡ x)
some_right true k x e = (refl, cc)
some_right false k x e = cc

-- the locations after a command that gives a value
pub value_done : (p : List ℕ) (r : ℕ) (before after : Locations) (c : Command) (g : Give) (k : Option ℕ) (here : ℕ)
    (t : Bool) → Giving p r before c g k → t ≡ is_some k →
    ((n : ℕ) → state after n ≡ valued k (state before n) here) → Taking p r here before after c (gives g) t
unfolding in_sequence sequence_of standing_after give_kind
value_done p r before after c g None here t e f h = record {
  told = λ n. f ∙ in_its_sequence p r (state before n) c false (gives g) refl (sym (none_right _ _ (e n)));
  done = λ n. no _ f (h n);
}
value_done p r before after c g (Some k) here t e f h = record {
  told = λ n. f ∙ in_its_sequence p r (state before n) c false (gives g) refl (sym (some_right _ k _ (e n)).0);
  done = λ n. yes _ f (h n ∙ ap (stand (state before n) here some_value) (some_right _ k _ (e n)).1);
}

-- what a D command makes of its location
pub making : (p : List ℕ) (r : ℕ) (s : Scan) (here : ℕ) (c : Command) (d : Cmd) (t : Bool) (m : Location)
    {o : Option Location} → o ≡ then_some t m → in_sequence (sequence_of d) true ≡ true → t ≡ right p r s c d →
    stand s here m.standing m.kind ≡ standing_after p r s here d → Making p r s here c d o
making p r s here c d true m e q f g =
    subst (λ (o : Option Location). Making p r s here c d o) (sym e) (sym (in_its_sequence p r s c true d q f), g)
making p r s here c d false m e q f g =
    subst (λ (o : Option Location). Making p r s here c d o) (sym e) (sym (in_its_sequence p r s c true d q f))
