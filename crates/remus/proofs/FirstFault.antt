-- A turn is refused before its first step exactly for its first fault: `first_fault`, and with it `turn_numbers`.
use Rattle.std.specs.Prelude.{ℕ, ◌≡◌, refl, ◌↔◌, ◌≢◌, false, List, length, Ok, Err}
use Rattle.std.proofs.Common.{sym, ◌∙◌, ap, subst, inl, inr, ⊎_elim}
use Rattle.std.proofs.Common.{arith}
use Rattle.value.proofs.Tests.{cases, same?, goes, stops, says×}
use Rattle.load.specs.Check.{check_of, IsAccepted}
use Rattle.answer.specs.Answer.{refusal_number, refusal_place, number_of}
use Rattle.answer.specs.Answer.{Answer}
use Rattle.answer.specs.declared.Refusal.{Refusal}
use Rattle.answer.specs.declared.Refusal.TheVariants.{MemoryLength, UnsoundImage, NoRoom, TooDeep}
use Rattle.load.proofs.Exact.{exact}
use Rattle.load.proofs.Exact.Ladder.{accepted_size}
use Rattle.load.proofs.Exact.Faults.{first_fault as check_fault, fault_given, fault_number}
use Rattle.answer.proofs.Refusals.{Told, told}
use Rattle.image.specs.Sound.{SoundImage}
use Rattle.image.specs.Passes.{sound_of}
use Rattle.image.specs.Passes.{Judged}
use Rattle.image.specs.Fault.{FaultAt}
use Rattle.image.specs.Start.{words_legal}
use Rattle.image.specs.Starting.{Words}
use Rattle.image.proofs.Exact.{rules_soundness}
use Rattle.image.proofs.Exact.Place.{exact_place}
use Rattle.image.proofs.Starts.{words_legal_lem}
use Rattle.remus.specs.Turn.{Turn, asked_of, turn_refused, by_asked, by_sound, by_check, turn_of}
use Rattle.answer.specs.Answer.{Ruling}
use Rattle.remus.specs.Walk.{Input}
use Rattle.remus.specs.Claim.{Ends, completed, out_of_depth, no_room}
use Rattle.remus.specs.Fault.{Fault, program, words, image, brought, FirstFault, TurnNumber, TurnNumbers}
use Rattle.remus.proofs.Fits.{given_asking, asking, asking_number, fits}
use Rattle.remus.proofs.OneTurn.{turn_is}
use Rattle.remus.proofs.Demand.{demand_once}

module _ (p m rd sk : List ℕ) where
  abbrev t : Input
  t = record { readings = rd; sink_space = sk }

  -- ---- the turn's ladder, fault by fault

  abbrev Refuses : Refusal → Type 0
  Refuses v = turn_of p m rd sk ≡ turn_refused p m rd sk v

  at_program : (v : Refusal) → check_of p ≡ Err v → Refuses v
  unfolding turn_of by_check
  at_program v e = rw e refl

  at_words : IsAccepted p → words_legal (length m) ≡ false → Refuses (MemoryLength (length m))
  unfolding turn_of by_check
  at_words a e = rw (accepted_size p a) (sym (stops _ e refl))

  module _ (a : IsAccepted p) (l : Words m) where
    at_image : (q : ℕ) → sound_of p m ≡ Err q → Refuses (UnsoundImage q)
    unfolding turn_of by_check by_sound
    at_image q e = rw (accepted_size p a) (sym (goes _ _ ((words_legal_lem _).1 l) (rw e refl)))

    judged : (sound_of p m ≡ Ok tt) ↔ SoundImage p m
    judged = rules_soundness p ((exact p).0 a) m l.1

    placed : (q : ℕ) → (sound_of p m ≡ Err q) ↔ FaultAt p m q
    placed = exact_place p ((exact p).0 a).tables.header.few_reactors m l.1

    at_asked : SoundImage p m → (v : Refusal) → asked_of p m rd sk ≡ Err v → Refuses v
    unfolding by_asked
    at_asked s v e = turn_is p m t a l.1 s (judged.1 s) ∙ rw e refl

  answers : (v : Refusal) → Refuses v → (turn_of p m rd sk).answer ≡ Err v
  unfolding turn_refused
  answers v e = ap (λ (x : Turn). x.answer) e

  -- ---- both ways

  -- a refusal is given with the number and place of the fault
  given : {n q : ℕ} → Fault p m rd sk n q → Told Refuses n q
  given (program f) = let g = fault_given p f in (g.0, at_program g.0 g.1, g.2, g.3)
  given (words a n) = (MemoryLength (length m), at_words a ((says× (words_legal_lem _)).1 n), refl, refl)
  given (image {q} a l f) = (UnsoundImage q, at_image a l q ((placed a l q).1 f), refl, refl)
  given (brought a l s f) = let g = given_asking p m rd sk f in (g.0, at_asked a l s g.0 g.1, g.2, g.3)

  abbrev FaultOf : Refusal → Type 0
  FaultOf w = Fault p m rd sk (refusal_number w) (refusal_place w)

  back : (w : Refusal) → FaultOf w → (turn_of p m rd sk).answer ≡ Err w
  back w f = answers w (told Refuses w (given f))

  module _ (w : Refusal) (not_14 : refusal_number w ≢ 14) (not_15 : refusal_number w ≢ 15)
      (e : (turn_of p m rd sk).answer ≡ Err w) where
    -- the fault of v is the one
    same : (v : Refusal) → Refuses v → FaultOf v → FaultOf w
    same v q f = let a = answers v q in let z : v ≡ w = cc in subst FaultOf z f

    -- a turn that comes to its first step is refused by 14 or 15, if at all
    no_end : Ends p m t (turn_of p m rd sk) → FaultOf w
    no_end (completed s l d h c) = let z : ◌≡◌ {A = ℕ} 0 1 = cc in absurd (omega arith)
    no_end (out_of_depth q d) = let z : w ≡ TooDeep q = cc in absurd (not_15 (ap refusal_number z))
    no_end (no_room q d) = let z : w ≡ NoRoom q = cc in absurd (not_14 (ap refusal_number z))

    module _ (a : IsAccepted p) (l : Words m) where
      by_asked_lem : SoundImage p m → (x : Ruling) → asked_of p m rd sk ≡ x → FaultOf w
      by_asked_lem s (Ok tt) q =
          let c = demand_once p m t a l.1 s in no_end (c.ends (turn_of p m rd sk) ((fits p m t).1 q) c.result)
      by_asked_lem s (Err v) q = same v (at_asked a l s v q) (brought a l s ((asking p m rd sk v).0 q))

      by_image : (j : Judged) → sound_of p m ≡ j → FaultOf w
      by_image (Ok tt) q = by_asked_lem ((judged a l).0 q) (asked_of p m rd sk) refl
      by_image (Err k) q = same (UnsoundImage k) (at_image a l k q) (image a l ((placed a l k).0 q))

    by_check_lem : (c : Answer) → check_of p ≡ c → FaultOf w
    by_check_lem (Err v) q = same v (at_program v q) (program ((check_fault p v).0 q))
    by_check_lem (Ok size) q =
        let a : IsAccepted p = rw q refl in
        cases (words_legal (length m)) (λ x. by_image a ((words_legal_lem _).0 x) (sound_of p m) refl)
        (λ x. same (MemoryLength (length m)) (at_words a x) (words a ((says× (words_legal_lem _)).0 x)))

pub first_fault : FirstFault
first_fault p m rd sk w not_14 not_15 = (
  λ e. by_check_lem p m rd sk w not_14 not_15 e (check_of p) refl,
  back p m rd sk w,
)

-- ---- the numbers

fault_told : {p m rd sk : List ℕ} {n q : ℕ} → Fault p m rd sk n q → TurnNumber n
fault_told (program f) = inl (fault_number f)
fault_told (words a n) = inr (omega arith, omega arith)
fault_told (image a l f) = inr (omega arith, omega arith)
fault_told (brought a l s f) = let b = asking_number f in inr (omega arith, omega arith)

pub turn_numbers : TurnNumbers
turn_numbers p m rd sk = by (turn_of p m rd sk).answer refl
  where
    told : (w : Refusal) → (turn_of p m rd sk).answer ≡ Err w → TurnNumber (refusal_number w)
    told w e =
        ⊎_elim (λ q. inr (omega arith, omega arith))
        (λ x.
        ⊎_elim (λ q. inr (omega arith, omega arith)) (λ y. fault_told ((first_fault p m rd sk w x y).0 e))
        (same? (refusal_number w) 15))
        (same? (refusal_number w) 14)

    by : (a : Answer) → (turn_of p m rd sk).answer ≡ a → TurnNumber (number_of (turn_of p m rd sk).answer)
    by (Ok u) e = rw e (inl (inl (omega arith)))
    by (Err w) e = rw e (told w e)
