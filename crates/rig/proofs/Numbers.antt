-- Refusals by their numbers: those of the check are others than 10, and a refusal that is known by its case by its number.
-- Assumes nothing.
use Rattle.std.specs.Prelude.{ℕ, ◌≡◌, refl, ◌≢◌, true, false, List}
use Rattle.remus.specs.Preview.{from_run}
use Rattle.answer.specs.Answer.{refusal_place}
use Rattle.answer.specs.declared.Refusal.TheVariants.{ReadingsLength, NoRoom, TooDeep}
use Rattle.answer.proofs.Refusals.{refusals_apart, refusal_counts}
use Rattle.value.proofs.Tests.{eq!, eq×, or×, either!, right! }
use Rattle.std.proofs.Common.{ap, subst, inl, inr, arith}
use Rattle.load.specs.Check.{check_of}
use Rattle.answer.specs.Answer.{number_of, refusal_number}
use Rattle.load.specs.Fault.{CheckNumber}
use Rattle.answer.specs.declared.Refusal.{Refusal}
use Rattle.std.specs.Prelude.{Err}
use Rattle.load.proofs.Exact.Faults.{check_numbers}

-- ---- the check's numbers are others than 10

check_number : (n : ℕ) → CheckNumber n → n ≢ 10
check_number n (inl h) e = omega arith
check_number n (inr (inl h)) e = omega (arith, h.0)
check_number n (inr (inr h)) e = omega arith

pub check_not_ten : (p : List ℕ) (w : Refusal) → check_of p ≡ Err w → refusal_number w ≢ 10
check_not_ten p w e = subst (λ (n : ℕ). n ≢ 10) (ap number_of e) (check_number (number_of (check_of p)) (check_numbers p))

-- ---- a call that has begun to run ends with 0, 14 or 15

pub done_runs : from_run 0 ≡ true
unfolding from_run
done_runs = either! _ (eq! refl)

pub no_room_runs : from_run 14 ≡ true
unfolding from_run
no_room_runs = right! _ (either! _ (eq! refl))

pub too_deep_runs : from_run 15 ≡ true
unfolding from_run
too_deep_runs = right! _ (right! _ (eq! refl))

-- and not with a refusal that is neither of these
pub not_run : (w : Refusal) → ((q : ℕ) → w ≢ NoRoom q) → ((q : ℕ) → w ≢ TooDeep q)
    → from_run (refusal_number w) ≡ false
unfolding from_run
not_run w d e =
    let q = refusal_place w in
    or× (eq× (λ z. omega (arith, refusal_counts w)))
    (or× (eq× (λ z. d q (refusals_apart w (NoRoom q) z refl))) (eq× (λ z. e q (refusals_apart w (TooDeep q) z refl))))

-- ---- 10 is that of one refusal

pub not_ten : (w : Refusal) → ((q : ℕ) → w ≢ ReadingsLength q) → refusal_number w ≢ 10
not_ten w d e = d (refusal_place w) (refusals_apart w (ReadingsLength (refusal_place w)) e refl)
