-- Where no reactor that is needed reaches itself, as many rounds as there are reactors settle the bounds,
-- `bound_equation`, and no other numbers solve it, `bound_unique`.
use Rattle.std.specs.Prelude.{ℕ, zero, suc, ◌+◌, ◌<◌, ◌≡◌, refl, Bool, true, false, List, get_or}
use Rattle.std.proofs.Common.{sym, ◌∙◌, ap, arith}
use Rattle.value.specs.Test.{pick, ◌=?◌}
use Rattle.value.proofs.Tests.{eq?}
use Rattle.program.specs.Bytes.{reactors, shape_of, commands_d, main_of}
use Rattle.program.specs.Command.{Made, deployment, point, held, nought, made_by, cmd_of}
use Rattle.program.specs.Location.{size_of}
use Rattle.figure.specs.Steps.{Step, by_mono, by_point, Needed, Straight}
use Rattle.figure.specs.Bound.{shape_sum, share, bound_by, round_of, bounds_after, bound_of}
use Rattle.figure.proofs.Closure.{tabled_at, sum_same, needed_on, needed_low, rank, rank_falls, rank_low}

pick_same : {a b : ℕ} (t : Bool) → (t ≡ true → a ≡ b) → pick t a 0 ≡ pick t b 0
unfolding pick
pick_same true f = f refl
pick_same false f = refl

module _ (p : List ℕ) where
  -- the bounds after k rounds
  abbrev B : ℕ → ℕ → ℕ
  B k r = get_or (bounds_after k p) r 0

  b_next : (k r : ℕ) → r < reactors p → B (suc k) r ≡ bound_by p (B k) r
  unfolding bounds_after round_of
  b_next k r h = tabled_at (bound_by p (B k)) 0 (reactors p) r 0 h ∙ ap (bound_by p (B k)) (omega arith)

  -- a bound goes by those that the reactor leads to alone
  module _ (a b : ℕ → ℕ) (r : ℕ) (same : (q : ℕ) → Step p r q → a q ≡ b q) where
    share_same : (j : ℕ) → j < commands_d p r → (m : Made) → made_by (cmd_of p r j) ≡ m → share p a m ≡ share p b m
    unfolding share shape_sum
    share_same j l (deployment x) e = same x (by_mono j l e)
    share_same j l (point s) e =
        sum_same _ _ (reactors p)
        (λ q h. pick_same (shape_of p q =? s) (λ f. same q (by_point j s l e h (eq? f))))
    share_same j l (held k) e = refl
    share_same j l nought e = refl

    bound_same : bound_by p a r ≡ bound_by p b r
    unfolding bound_by
    bound_same =
        ap (λ (n : ℕ). size_of p r + n) (sum_same _ _ (commands_d p r) (λ j l. share_same j l _ refl))

  module _ (low : (r q : ℕ) → r < reactors p → Step p r q → q < reactors p) (main : main_of p < reactors p)
      (straight : Straight p) where
    settled : (k r : ℕ) → Needed p r → rank p r < k → B k r ≡ B (suc k) r
    settled zero r n h = absurd (omega arith)
    settled (suc k) r n h =
        let l = needed_low p low main n in
        b_next k r l
        ∙ bound_same (B k) (B (suc k)) r
        (λ q s. settled k q (needed_on p n s) (omega (arith, rank_falls p low main straight r q n s)))
        ∙ sym (b_next (suc k) r l)

    pub bound_equation : (r : ℕ) → Needed p r → bound_of p r ≡ bound_by p (bound_of p) r
    unfolding bound_of
    bound_equation r n =
        settled (reactors p) r n (rank_low p low main straight r n)
        ∙ b_next (reactors p) r (needed_low p low main n)

    -- what solves the equation as well is the same along ways of any length
    agrees : (b : ℕ → ℕ) → ((r : ℕ) → Needed p r → b r ≡ bound_by p b r) → (k r : ℕ) → Needed p r → rank p r < k
        → b r ≡ bound_of p r
    agrees b solves zero r n h = absurd (omega arith)
    agrees b solves (suc k) r n h =
        solves r n
        ∙ bound_same b (bound_of p) r
        (λ q s. agrees b solves k q (needed_on p n s) (omega (arith, rank_falls p low main straight r q n s)))
        ∙ sym (bound_equation r n)

    pub bound_unique : (b : ℕ → ℕ) → ((r : ℕ) → Needed p r → b r ≡ bound_by p b r) → (r : ℕ) → Needed p r
        → b r ≡ bound_of p r
    bound_unique b solves r n = agrees b solves (reactors p) r n (rank_low p low main straight r n)
