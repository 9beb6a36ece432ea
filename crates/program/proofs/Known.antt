-- A table of reactors' numbers: the empty one, one reactor more, and the whole.
-- Assumes nothing.
use Rattle.std.specs.Prelude.{ℕ, ◌+◌, ◌≤◌, ◌<◌, ◌≡◌, ◌≢◌, List, length, get_or, set}
use Rattle.std.proofs.Common.{sym, ◌∙◌, ap, subst, ⊎_elim}
use Rattle.std.specs.Prelude.{replicate}
use Rattle.std.proofs.Common.{arith}
use lib.ListN.{length-set, length-replicate}
use lib.Seq.{get_or-set_same, get_or-set_other}
use Rattle.value.proofs.Tests.{same?}
use Rattle.value.proofs.Zeros.{zeros_at}
use Rattle.program.specs.Bytes.{most_reactors, reactors}
use Rattle.program.specs.Clauses.{Facts, Tells}

-- the table of p so far: the first n reactors
pub record Upto (p t : List ℕ) (n : ℕ) : Type 0 where
  pub right : (r : ℕ) → get_or t r 0 ≢ 0 → Tells p r (get_or t r 0)
  pub legal : (r : ℕ) → get_or t r 0 ≢ 0 → r < n
  pub known : (r : ℕ) → r < n → Tells p r (get_or t r 0)
  pub long : length t ≡ 64
  pub few : n ≤ most_reactors

pub upto_none : (p t : List ℕ) → t ≡ replicate 64 0 → Upto p t 0
upto_none p t e = record {
  right = λ r d. absurd (d (ap (λ (s : List ℕ). get_or s r 0) e ∙ zeros_at 64 r));
  legal = λ r d. absurd (d (ap (λ (s : List ℕ). get_or s r 0) e ∙ zeros_at 64 r));
  known = λ r h. absurd (omega arith);
  long = ap length e ∙ length-replicate {A = ℕ} 64 0;
  few = omega arith;
}

pub upto_next : (p t : List ℕ) (n w : ℕ) → n < 64 → Tells p n w → Upto p t n → (t₁ : List ℕ) → t₁ ≡ set t n w
    → Upto p t₁ (n + 1)
upto_next p t n w l holds f t₁ e = record {
  right = λ r d. ⊎_elim (here r) (λ (o : r ≢ n). subst (Tells p r) (sym (other r o))
      (f.right r (λ z. d (other r o ∙ z)))) (same? r n);
  legal = λ r d. ⊎_elim (λ (s : r ≡ n). omega arith) (λ (o : r ≢ n). let l =
      f.legal r (λ z. d (other r o ∙ z)) in omega arith) (same? r n);
  known = λ r h. ⊎_elim (here r) (λ (o : r ≢ n). subst (Tells p r) (sym (other r o)) (f.known r (omega (arith, o))))
      (same? r n);
  long = ap length e ∙ length-set t n w ∙ f.long;
  few = omega arith;
}
  where
    other : (r : ℕ) → r ≢ n → get_or t₁ r 0 ≡ get_or t r 0
    other r o = ap (λ (s : List ℕ). get_or s r 0) e ∙ get_or-set_other t n r w 0 o

    here : (r : ℕ) → r ≡ n → Tells p r (get_or t₁ r 0)
    here r s =
        let q : get_or t₁ n 0 ≡ w = ap (λ (s : List ℕ). get_or s n 0) e ∙ get_or-set_same t n w 0 (omega (arith, f.long)) in
        rw s (subst (Tells p n) (sym q) holds)

pub upto_all : (p t : List ℕ) (n : ℕ) → Upto p t n → n ≡ reactors p → Facts p t
upto_all p t n f e = record {
  right = f.right;
  legal = λ r d. (let l = f.legal r d in omega arith);
  known = λ r a. f.known r (omega arith);
  few = let h = f.few in omega arith;
}
