-- The tests on values of a kind say what the propositions do: `content_legal_lem` and `legal_kind`.
-- Assumes nothing.
use Rattle.std.specs.Prelude.{ℕ, zero, suc, ◌≡◌, refl, ◌⊎◌, ◌↔◌, true, List}
use Rattle.std.proofs.Common.{inl, inr}
use Rattle.value.specs.Test.{◌and◌, ◌=?◌}
use Rattle.value.specs.Value.{mark_of, value}
use Rattle.value.specs.declared.Value.{Value}
use Rattle.value.proofs.Tests.{lt!, lt?, eq!, eq?, both!, both?, either!, or!, or?, cases}
use Rattle.program.specs.Kind.{content_legal, legal, Content, OfKind}

pub content_legal_lem : (p : List ℕ) (k c : ℕ) → (content_legal p k c ≡ true) ↔ Content p k c
unfolding content_legal
content_legal_lem p zero c = (λ e. tt, λ e. refl)
content_legal_lem p (suc zero) c = (lt?, lt!)
content_legal_lem p (suc (suc s)) c =
    (λ e. let b = both? e in (lt? b.0, eq? b.1), λ h. both! (lt! h.0) (eq! h.1))

same_value : (v : Value) (m c : ℕ) → v.mark ≡ m → v.content ≡ c → v ≡ value m c
same_value v m c e f = rw (← e, ← f) refl

pub legal_kind : (p : List ℕ) (k : ℕ) (v : Value) → (legal p k v ≡ true) ↔ OfKind p k v
unfolding legal
legal_kind p k v = (λ e. to (or? e), from)
  where
    to : (((v.mark =? 0) and (v.content =? 0)) ≡ true)
        ⊎ (((v.mark =? mark_of k) and content_legal p k v.content) ≡ true) → OfKind p k v
    to (inl e) = let b = both? e in inl (same_value v 0 0 (eq? b.0) (eq? b.1))
    to (inr e) = let b = both? e in inr (eq? b.0, (content_legal_lem p k v.content).0 b.1)

    from : OfKind p k v → legal p k v ≡ true
    from (inl e) = rw e (either! _ (both! (eq! refl) (eq! refl)))
    from (inr h) =
        let second = both! (eq! h.0) ((content_legal_lem p k v.content).1 h.1) in
        cases ((v.mark =? 0) and (v.content =? 0)) (λ e. either! _ e) (λ e. or! e second)
