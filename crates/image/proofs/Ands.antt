-- Tests joined by `and`, one after the other; and a guard that stops at false as one of them.
-- Assumes nothing.
use Rattle.std.specs.Prelude.{◌≡◌, refl, Bool, true, false}
use Rattle.std.proofs.Common.{sym, ◌∙◌}
use Rattle.value.specs.Test.{◌and◌, guard}
use Rattle.value.proofs.Tests.{left×, true_and}

pub and_goes : {s t z : Bool} → s ≡ true → z ≡ t → z ≡ (s and t)
and_goes e h = h ∙ sym (true_and _ e)

pub and_stops : {s : Bool} (t : Bool) → s ≡ false → false ≡ (s and t)
and_stops t e = sym (left× t e)

pub and_assoc : (s t u : Bool) → ((s and t) and u) ≡ (s and (t and u))
unfolding ◌and◌
and_assoc true t u = refl
and_assoc false t u = refl

pub and_true : (t : Bool) → (t and true) ≡ t
unfolding ◌and◌
and_true true = refl
and_true false = refl

pub as_and : (t u : Bool) → guard t false (λ _. u) ≡ (t and u)
unfolding ◌and◌ guard
as_and true u = refl
as_and false u = refl
