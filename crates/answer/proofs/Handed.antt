-- What `?` hands on of a refusal.
use Rattle.std.specs.Prelude.{◌≡◌, Result, Ok, Err, IsErrAnd}
use Rattle.std.proofs.Common.{ap}
use Rattle.answer.specs.declared.Refusal.{Refusal}

pub handed_on : {T : Type 0} {w : Refusal} (r : Result T Refusal) → IsErrAnd r (λ v. v ≡ w) → r ≡ Err w
handed_on (Ok x) h = absurd h
handed_on (Err v) h = ap Err h
