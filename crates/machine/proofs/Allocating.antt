-- What an allocation's code leaves, as the definition of the command says it.
-- Assumes nothing.
use Rattle.std.specs.Prelude.{ℕ, zero, suc, ◌+◌, ◌-◌, ◌≤◌, ◌<◌, ◌≡◌, true, false, List, length, Ok}
use Rattle.std.proofs.Common.{sym, ◌∙◌, ap, arith}
use Rattle.value.specs.Test.{pick, ◌≤?◌}
use Rattle.value.specs.Value.{value, deployment_mark}
use Rattle.value.specs.declared.Value.{Value}
use Rattle.value.proofs.Tests.{le!, le×, le?, le×?}
use Rattle.program.specs.Command.{takes_words, alloc_poly}
use Rattle.program.specs.Location.{command_loc, size_of}
use Rattle.program.proofs.Slots.{slot_least, size_least}
use Rattle.image.specs.Memory.{word, used, reactor, with_used, slot, store, deploy}
use Rattle.image.proofs.Memory.Changes.{slot_kept}
use Rattle.remus.specs.Exec.{chosen}
use Rattle.remus.proofs.Undo.Back.{word_unset}
use Rattle.machine.specs.declared.Outcome.TheVariants.{Given}
use Rattle.machine.specs.Clauses.{Acted, did, acted, Stands}

-- ---- whether there is room, by the size that the code goes by
module _ (p m : List ℕ) (r s : ℕ) (e : s ≡ size_of p r) where
  pub has_room : (used m + s ≤? length m) ≡ true → (size_of p r ≤? length m - used m) ≡ true
  has_room h = le! (omega (arith, le? h))

  pub no_room : (used m + s ≤? length m) ≡ false → (size_of p r ≤? length m - used m) ≡ false
  no_room h = le× (omega (arith, le×? h, size_least p r))

-- ---- the slots of a deployment that stands keep their places

-- where another deployment is placed
pub slot_placed : (p m m₁ : List ℕ) (r old o l i : ℕ) → Stands m o → m₁ ≡ deploy p m r old
    → i ≡ slot p m o l → i ≡ slot p m₁ o l
unfolding deploy with_used reactor
slot_placed p m m₁ r old o l i s e f =
    let u = used m in
    let a = s.above in
    let b = s.below in
    let kept : word m₁ o ≡ word m o =
    ap (λ (w : List ℕ). word w o) e ∙ word_unset _ 0 _ o (omega arith) ∙ word_unset _ (u + 2) _ o (omega arith)
    ∙ word_unset _ (u + 1) _ o (omega arith) ∙ word_unset m u _ o (omega arith) in
    f ∙ sym (slot_kept p m m₁ o l kept)

-- and where one of them is stored
pub slot_stored : (p m m₁ : List ℕ) (o k l i : ℕ) (v : Value) → m₁ ≡ store p m o k v
    → i ≡ slot p m o l → i ≡ slot p m₁ o l
unfolding store reactor
slot_stored p m m₁ o k l i v e f =
    let least : o + 3 ≤ slot p m o k = unfold slot in omega (arith, slot_least p (reactor m o) k) in
    let kept : word m₁ o ≡ word m o =
    ap (λ (w : List ℕ). word w o) e ∙ word_unset _ (slot p m o k + 1) _ o (omega arith)
    ∙ word_unset m (slot p m o k) _ o (omega arith) in
    f ∙ sym (slot_kept p m m₁ o l kept)

-- ---- the deployment that is there
pub found : (p rd : List ℕ) (h : ℕ) (m : List ℕ) (o i d q a b : ℕ) {x : Acted} → 0 < d
    → x ≡ did (Ok Given) (store p m o (command_loc p (reactor m o) i) (value deployment_mark d))
    → x ≡ acted m (alloc_poly a b) (chosen p rd h m o i d q b)
unfolding chosen acted takes_words pick
found p rd h m o i zero q a b l e = absurd (omega arith)
found p rd h m o i (suc d) q a b l e = e
