-- What a turn brings: 10 to 13 refuse it exactly for its first fault (`asking`), and not at all just where it is as it
-- should be (`fits`).
use Rattle.std.specs.Prelude.{ℕ, ◌+◌, ◌*◌, ◌<◌, ◌≡◌, refl, ◌↔◌, ◌≢◌, Bool, List, length, Ok, Err}
use Rattle.std.proofs.Common.{sym, subst, inl, inr, arith}
use Rattle.value.specs.Test.{◌<?◌, ◌=?◌}
use Rattle.value.proofs.Tests.{cases, clash, lt!, lt×, lt?, lt×?, le!, le×, le?, eq!, eq×, eq?, goes, stops, guards}
use Rattle.value.proofs.Tests.{Says, says_lt, says_le, says_eq, says×, says_guard}
use Rattle.value.proofs.Sweeps.{Swept, swept, sweeps?}
use Rattle.program.specs.Bytes.{globals, global_kind, main_of}
use Rattle.program.specs.Location.{sink_count}
use Rattle.program.specs.Kind.{legal}
use Rattle.program.proofs.OfKind.{legal_kind}
use Rattle.answer.specs.Answer.{refusal_number, refusal_place}
use Rattle.load.specs.Fault.{Between}
use Rattle.answer.specs.declared.Refusal.{Refusal}
use Rattle.answer.specs.declared.Refusal.TheVariants.{ReadingsLength, Reading, SinkSpace, Clock}
use Rattle.answer.proofs.Refusals.{Told, told}
use Rattle.remus.specs.Turn.{asked_of, bad_reading, reading_at}
use Rattle.answer.specs.Answer.{Ruling}
use Rattle.remus.specs.Fault.{LegalReading, LegalReadings, Asking, count, reading, space, clock}
use Rattle.remus.specs.Walk.{Input}
use Rattle.remus.specs.Claim.{Fit}

-- ---- the readings

module _ (p rd : List ℕ) where
  -- the test of reading k
  abbrev ok : ℕ → Bool
  ok k = legal p (global_kind p (k + 1)) (reading_at rd k)

  ok_says : (k : ℕ) → Says (ok k) (LegalReading p rd k)
  ok_says k = legal_kind p (global_kind p (k + 1)) (reading_at rd k)

  -- all are legal where the sweep over them comes to the end
  readings_legal : Says (bad_reading p rd =? globals p) (LegalReadings p rd)
  unfolding bad_reading
  readings_legal =
      let s = sweeps? ok 0 (globals p) (globals p) (omega arith) in
      (λ e k l. (ok_says k).0 (s.0 e k (omega arith) l), λ h. s.1 (λ k z l. (ok_says k).1 (h k l)))

  found : Swept ok 0 (globals p) (bad_reading p rd)
  unfolding bad_reading
  found = swept ok 0 (globals p)

  -- reading k is the first that is not legal
  abbrev FirstBad : ℕ → Type 0
  FirstBad k = (k < globals p) × ((j : ℕ) → j < k → LegalReading p rd j) × (LegalReading p rd k → ⊥)

  stops_bad : bad_reading p rd ≢ globals p → FirstBad (bad_reading p rd)
  stops_bad n =
      let less : bad_reading p rd < globals p = omega (arith, found.to, n) in (
        less,
        λ j l. (ok_says j).0 (found.passed j (omega arith) l),
        (says× (ok_says _)).0 (found.stopped (omega arith)),
      )

  bad_stops : (k : ℕ) → FirstBad k → bad_reading p rd ≡ k
  bad_stops k b =
      let less = b.0 in
      cases (bad_reading p rd <? k)
      (λ y.
      let z : bad_reading p rd < k = lt? y in
      clash ((ok_says _).1 (b.1 _ z)) (found.stopped (omega arith)))
      (λ y.
      cases (k <? bad_reading p rd)
      (λ x. absurd (b.2 ((ok_says k).0 (found.passed k (omega arith) (lt? x)))))
      (λ x. omega (arith, lt×? x, lt×? y)))

-- ---- 10 to 13

never : (v : Refusal) → ◌≡◌ {A = Ruling} (Err v) (Ok tt) → ⊥
never v e = let z : ◌≡◌ {A = ℕ} 0 1 = cc in omega arith

module _ (p m rd sk : List ℕ) where
  abbrev AskingFor : Refusal → Type 0
  AskingFor w = Asking p m rd sk (refusal_number w) (refusal_place w)

  -- the refusal w is the one found
  as_asking : (v w : Refusal) → ◌≡◌ {A = Ruling} (Err v) (Err w) → AskingFor v → AskingFor w
  as_asking v w e f = let same : v ≡ w = cc in subst AskingFor same f

  found_asking : (w : Refusal) → asked_of p m rd sk ≡ Err w → AskingFor w
  unfolding asked_of
  found_asking w e =
      let Is : Ruling → Type 0 = λ a. a ≡ Err w in
      elim ((says_guard Is says_eq _ _).0 e) [
        | inl a ↦ as_asking _ w a.1 (count a.0)
        | inr a ↦ elim ((says_guard Is (readings_legal p rd) _ _).0 a.1) [
          | inl b ↦
              let f = stops_bad p rd (λ q. b.0 ((readings_legal p rd).0 (eq! q))) in
              as_asking _ w b.1 (reading a.0 f.0 f.1 f.2)
          | inr b ↦ elim ((says_guard Is says_le _ _).0 b.1) [
            | inl c ↦ as_asking _ w c.1 (space a.0 b.0 (omega (arith, c.0)))
            | inr c ↦ elim ((says_guard Is says_lt _ _).0 c.1) [
              | inl d ↦ as_asking _ w d.1 (clock a.0 b.0 c.0 (omega (arith, d.0)))
              | inr d ↦ absurd (never w (sym d.1))
            ]
          ]
        ]
      ]

  -- a refusal is given with the number and place of the fault
  pub given_asking : {n q : ℕ} → Asking p m rd sk n q → Told (λ v. asked_of p m rd sk ≡ Err v) n q
  unfolding asked_of
  given_asking (count h) = (ReadingsLength (length rd), sym (stops _ (eq× h) refl), refl, refl)
  given_asking (reading {k} a l h n) =
      let e = bad_stops p rd k (l, h, n) in
      (Reading (bad_reading p rd), sym (goes _ _ (eq! a) (stops _ (eq× (λ z. omega arith)) refl)), refl, e)
  given_asking (space a h l) = (
    SinkSpace (2 * sink_count p (main_of p)),
    sym (goes _ _ (eq! a) (goes _ _ ((readings_legal p rd).1 h) (stops _ (le× l) refl))),
    refl,
    refl,
  )
  given_asking (clock a h c l) = (
    Clock,
    sym (goes _ _ (eq! a) (goes _ _ ((readings_legal p rd).1 h) (goes _ _ (le! c) (stops _ (lt× l) refl)))),
    refl,
    refl,
  )

  pub asking : (w : Refusal) → (asked_of p m rd sk ≡ Err w) ↔ AskingFor w
  asking w = (found_asking w, λ f. told (λ v. asked_of p m rd sk ≡ Err v) w (given_asking f))

pub asking_number : {p m rd sk : List ℕ} {n q : ℕ} → Asking p m rd sk n q → Between 10 13 n
asking_number (count h) = (omega arith, omega arith)
asking_number (reading a l h n) = (omega arith, omega arith)
asking_number (space a h l) = (omega arith, omega arith)
asking_number (clock a h c l) = (omega arith, omega arith)

module _ (p w : List ℕ) (t : Input) where
  pub fits : Fit p w t ↔ (asked_of p w t.readings t.sink_space ≡ Ok tt)
  unfolding asked_of
  fits =
      let P : Ruling → Type 0 = (λ a. a ≡ Ok tt) in (
        λ h.
            (guards P _ _ _ (never _)).1 (
              eq! h.count,
              (guards P _ _ _ (never _)).1 (
                (readings_legal p t.readings).1 h.legal,
                (guards P _ _ _ (never _)).1 (le! h.room, (guards P _ _ _ (never _)).1 (lt! h.clock, refl)),
              ),
            ),
        λ e.
            let a = (guards P _ _ _ (never _)).0 e in
            let b = (guards P _ _ _ (never _)).0 a.1 in
            let c = (guards P _ _ _ (never _)).0 b.1 in
            let d = (guards P _ _ _ (never _)).0 c.1 in
            let legal = (readings_legal p t.readings).0 b.0 in
            record { count = eq? a.0; legal = legal; room = le? c.0; clock = lt? d.0 },
      )
