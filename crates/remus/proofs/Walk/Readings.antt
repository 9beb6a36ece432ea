-- Readings that 10 and 11 do not refuse are legal: every global is of its declared kind.
use Rattle.std.specs.Prelude.{ℕ, zero, suc, ◌+◌, ◌≡◌, refl, List, Ok}
use Rattle.std.proofs.Common.{sym, inr, arith}
use Rattle.value.specs.Value.{mark_of, number_kind}
use Rattle.value.proofs.Tests.{eq!, yes}
use Rattle.program.specs.Bytes.{global_kind}
use Rattle.program.specs.Kind.{OfKind}
use Rattle.remus.specs.Exec.{global_value}
use Rattle.remus.specs.Turn.{asked_of, reading_at}
use Rattle.remus.proofs.Walk.Walking.{Legal}
use Rattle.remus.proofs.Fits.{fits}

pub globals_legal : (p w rd sk : List ℕ) → asked_of p w rd sk ≡ Ok tt → Legal p rd
unfolding global_value
globals_legal p w rd sk e m zero h = time
  where
    number : global_kind p 0 ≡ number_kind
    number = unfold global_kind in sym (yes _ (eq! refl) refl)

    time : OfKind p (global_kind p 0) (global_value rd m 0)
    time = unfold mark_of in rw number (inr (refl, tt))
globals_legal p w rd sk e m (suc k) h =
    let z : k + 1 ≡ suc k = omega arith in
    let f = (fits p w (record { readings = rd; sink_space = sk })).1 e in
    let y : OfKind p (global_kind p (suc k)) (reading_at rd k) = rw z at (f.legal k (omega arith)) in
    unfold reading_at in y
