-- A run's beginning: before D, past it, and once the deployment is wired.
-- Assumes nothing.
use Rattle.std.specs.Prelude.{ℕ, suc, ◌+◌, ◌-◌, ◌<◌, ◌≡◌, refl, ◌≢◌, List, Ok}
use Rattle.std.proofs.Common.{sym, ◌∙◌, ap, subst, arith}
use lib.Seq.{set-set}
use Rattle.value.proofs.Tests.{yes, no, eq!, eq×}
use Rattle.program.specs.Bytes.{reactors, commands_d, commands_r, commands_in}
use Rattle.image.specs.Memory.{reactor, wired, with_wired}
use Rattle.remus.specs.Exec.{opening, ready, eff}
use Rattle.remus.specs.Run.{Ran, and_then, commands, step_of, run_of}
use Rattle.remus.specs.Steady.{Fits, Through, Steady}
use Rattle.machine.specs.Clauses.{Workable, stepping, Knowing, Left, Declared, Opened}
use Rattle.answer.specs.Answer.{Ruling}
use Rattle.machine.proofs.WordsFit.{keeps_wired}
use Rattle.machine.proofs.Running.{wired_reactor, ready_there}

module _ (p rd : List ℕ) (f h o : ℕ) where
  -- the count by another name
  pub left_at : {x : Ran} {r n k i j : ℕ} {m : List ℕ} → n ≡ k → i ≡ j → Left p rd f h o x r n i m → Left p rd f h o x
      r k j m
  left_at {x} {r} {n} {k} {i} {j} {m} e q l =
      subst (λ (y : ℕ). Left p rd f h o x r k y m) q (subst (λ (y : ℕ). Left p rd f h o x r y i m) e l)

  module _ (m : List ℕ) (w : Workable m) (s : Steady p rd (suc f) h m o) where
    pub legal : reactor m o < reactors p
    unfolding Steady
    legal = s.0

    abbrev all : Ran
    all = run_of (suc f) p rd h m o

    from_opening : Left p rd f h o all (reactor m o) (commands_in p (reactor m o) - opening p m o) (opening p m o) m
    unfolding Steady run_of
    from_opening = record { run = refl; steady = s.1; workable = w }

    pub from_first : wired m o ≡ 0 → Left p rd f h o all (reactor m o) (commands_in p (reactor m o)) 0 m
    unfolding opening
    from_first z =
        let e : opening p m o ≡ 0 = sym (yes _ (eq! z) refl) in
        left_at (rw e (omega arith)) e from_opening

    pub from_d : wired m o ≢ 0
        → Left p rd f h o all (reactor m o) (commands_r p (reactor m o)) (commands_d p (reactor m o)) m
    unfolding opening commands_in
    from_d z =
        let e : opening p m o ≡ commands_d p (reactor m o) = sym (no 0 (eq× z) refl) in
        left_at (rw e (omega arith)) e from_opening

  -- the first R command finds the deployment wired, and so it may be wired before
  module _ (x : Ran) (r n : ℕ) (m : List ℕ) (l : Left p rd f h o x r (suc n) (commands_d p r) m) where
    abbrev d : ℕ
    d = commands_d p r

    abbrev m₁ : List ℕ
    m₁ = with_wired m o 1

    knows : Knowing p rd f h o r d m
    unfolding Through
    knows = l.steady.0

    again : with_wired m₁ o 1 ≡ m₁
    unfolding with_wired
    again = set-set m (o + 1) 1 1

    same : reactor m₁ o ≡ r
    same = wired_reactor m o ∙ knows.same

    ready₀ : ready p m o d ≡ m₁
    ready₀ = ready_there p m o r knows.same

    ready₁ : ready p m₁ o d ≡ m₁
    ready₁ = ready_there p m₁ o r same ∙ again

    effects : eff p rd h m₁ o d ≡ eff p rd h m o d
    unfolding eff
    effects = rw (ready₀, ready₁, same, knows.same)

    steps : stepping p rd f h o d m₁ ≡ stepping p rd f h o d m
    unfolding step_of
    steps = rw (ready₀, ready₁, effects)

    wires : Left p rd f h o x r (suc n) d m₁ × (with_wired m₁ o 1 ≡ m₁)
    unfolding commands Through
    wires =
        let fits : Fits p r (ready p m₁ o d) o d = rw (ready₁, ← ready₀) knows.fits in
        let good : Knowing p rd f h o r d m₁ =
        record { same = same; fits = fits; calls = λ m₂ k e. knows.calls m₂ k (sym effects ∙ e) } in (
          record {
            run = l.run ∙ ap (and_then (commands (stepping p rd f h o) n (d + 1))) (sym steps);
            steady = (good, λ m₂ e. l.steady.1 m₂ (sym steps ∙ e));
            workable = keeps_wired m o l.workable;
          },
          again,
        )

  -- as the code leaves it, q and m₂ the end and the words
  pub opened : (m₀ m : List ℕ) → 0 < commands_r p (reactor m₀ o) → (q : Ruling) (m₂ : List ℕ) → q ≡ Ok tt → m₂ ≡ with_wired
      m o 1
      → Declared p rd f h o m₀ (Ok tt) m → Opened p rd f h o m₀ q m₂
  opened m₀ m some q m₂ e k l =
      let n : commands_r p (reactor m₀ o) ≡ suc (commands_r p (reactor m₀ o) - 1) = omega arith in
      let g = wires _ _ (commands_r p (reactor m₀ o) - 1) m (left_at n refl l) in
      rw (e, k) (left_at (sym n) refl g.0, g.1)

  -- the same from the words m on
  pub starts : (m₀ m : List ℕ) → 0 < commands_r p (reactor m₀ o) → Opened p rd f h o m₀ (Ok tt) m
      → (reactor m o ≡ reactor m₀ o)
      × Left p rd f h o (commands (stepping p rd f h o) (commands_r p (reactor m o)) (commands_d p (reactor m o)) m)
      (reactor m o)
      (commands_r p (reactor m o)) (commands_d p (reactor m o)) m
  unfolding Through
  starts m₀ m some g =
      let n : commands_r p (reactor m₀ o) ≡ suc (commands_r p (reactor m₀ o) - 1) = omega arith in
      let same = (left_at n refl g.0).steady.0.same in
      (same, rw same (record { run = refl; steady = g.0.steady; workable = g.0.workable }))
