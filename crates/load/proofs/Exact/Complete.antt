-- The test at a reactor's end: every standing may stay exactly where no React, AllocPoly, Keep or Sink is missing.
use Rattle.std.specs.Prelude.{ℕ, ◌≤◌, ◌<◌, ◌≡◌, refl, ◌⊎◌, ◌↔◌, true, false}
use Rattle.std.proofs.Common.{sym, ◌∙◌, ap, subst, inl, inr}
use Rattle.std.proofs.Math.Logic.Iff.{trans as iff_trans}
use Rattle.std.specs.Prelude.{List}
use Rattle.std.proofs.Common.{arith}
use lib.ListN.{get_or-eq_default}
use Rattle.value.specs.Test.{sweep, ◌<?◌}
use Rattle.value.proofs.Sweeps.{swept, sweeps}
use Rattle.value.proofs.Tests.{cases, Says, says_lt, says_eq, says_or, says×, lt?, lt×?, eq×?}
use Rattle.program.specs.Bytes.{sources_in, commands_in}
use Rattle.program.specs.Command.{Cmd, cmd_of, alloc_mono, make_poly, supply, react, sink, alloc_poly, cell, keep, none}
use Rattle.program.specs.Command.{gives, Class, a_value, a_cell, a_point, a_deployment, a_sink, nothing, class_of}
use Rattle.program.specs.Location.{most_locations, command_loc, cmd_at, shape_there}
use Rattle.load.specs.Scan.{standing_at, kind_at, settled, complete, free_cell, kept_cell, free_point, used_point}
use Rattle.load.specs.Scan.{unset_sink, set_sink, has_run}
use Rattle.load.specs.Rules.{Allocates, Keeps, Sets}
use Rattle.load.specs.declared.Scan.{Scan}
use Rattle.load.proofs.Exact.Seen.{tells_hi}
use Rattle.load.specs.Fault.{Lacks, react_missing, poly_missing, keep_missing, sink_missing}
use Rattle.load.proofs.Exact.Places.{class_at, loc_lt, cmd_there, by_place}
use Rattle.load.proofs.Exact.Fits.{Ended}
use Rattle.load.proofs.Exact.Stand.{Sized}
use Rattle.load.proofs.Exact.Holds.{Holds, Holding, standing_of, deployed_reacted}

settled_says : (st : ℕ)
    → Says (settled st) ((st < free_cell) ⊎ ((st ≡ kept_cell) ⊎ ((st ≡ used_point) ⊎ ((st ≡ set_sink) ⊎ (st ≡ has_run)))))
unfolding settled
settled_says st = says_or says_lt (says_or says_eq (says_or says_eq (says_or says_eq says_eq)))

-- from 2 on, where only v of the standings that may stay is possible
settled_at : (st v : ℕ) → settled v ≡ true → free_cell ≤ st →
    (st ≡ kept_cell → st ≡ v) → (st ≡ used_point → st ≡ v) → (st ≡ set_sink → st ≡ v) → (st ≡ has_run → st ≡ v) →
    (settled st ≡ true) ↔ (st ≡ v)
settled_at st v ok low kept used set done = (
  (λ e. elim ((settled_says st).0 e) [
    | inl h ↦ absurd (omega arith)
    | inr h ↦
        elim h [
          | inl k ↦ kept k
          | inr k ↦ elim k [ inl q ↦ used q | inr q ↦ elim q [ inl w ↦ set w | inr w ↦ done w ] ]
        ]
  ]),
  (λ e. ap settled e ∙ ok),
)

settled_low : (st : ℕ) → st < free_cell → settled st ≡ true
settled_low st h = (settled_says st).1 (inl h)

module _ (p : List ℕ) (r : ℕ) where
  -- at one location
  settled_exact : (l st kd : ℕ) (c : Class) → Holds p r (commands_in p r) l st kd c → (settled st ≡ true) ↔ Ended p r l c
  settled_exact l st kd a_value h = ((λ e. tt), (λ u. settled_low st (omega (arith, h.0))))
  settled_exact l st kd a_cell h =
      let w = standing_of p r (commands_in p r) l st kd a_cell h in
      let ok = (settled_says kept_cell).1 (inr (inl refl)) in
      iff_trans (settled_at st kept_cell ok (omega arith) (omega arith) (omega arith) (omega arith) (omega arith))
      (tells_hi p r (Keeps p r l) free_cell kept_cell (commands_in p r) st (omega arith) h.0)
  settled_exact l st kd a_point h =
      let w = standing_of p r (commands_in p r) l st kd a_point h in
      let ok = (settled_says used_point).1 (inr (inr (inl refl))) in
      iff_trans (settled_at st used_point ok (omega arith) (omega arith) (omega arith) (omega arith) (omega arith))
      (tells_hi p r (Allocates p r l) free_point used_point (commands_in p r) st (omega arith) h.0)
  settled_exact l st kd a_deployment h =
      let w : has_run ≤ st = standing_of p r (commands_in p r) l st kd a_deployment h in
      let ok = (settled_says has_run).1 (inr (inr (inr (inr refl)))) in
      iff_trans (settled_at st has_run ok (omega arith) (omega arith) (omega arith) (omega arith) (omega arith))
      (deployed_reacted p r (commands_in p r) l st (sources_in p (shape_there p r l)) h.0)
  settled_exact l st kd (a_sink x) h =
      let w = standing_of p r (commands_in p r) l st kd (a_sink x) h in
      let ok = (settled_says set_sink).1 (inr (inr (inr (inl refl)))) in
      iff_trans (settled_at st set_sink ok (omega arith) (omega arith) (omega arith) (omega arith) (omega arith))
      (tells_hi p r (Sets p r x) unset_sink set_sink (commands_in p r) st (omega arith) h.1)
  settled_exact l st kd nothing h = ((λ e. tt), (λ u. settled_low st (omega (arith, h.0))))

  -- past the tables nothing stands
  beyond : (s : Scan) → Sized s → (l : ℕ) → most_locations ≤ l → settled (standing_at s l) ≡ true
  unfolding standing_at
  beyond s z l h =
      let e : standing_at s l ≡ 0 = get_or-eq_default s.standing 0 (subst (λ m. m ≤ l) (sym z.long) h) in
      settled_low (standing_at s l) (omega arith)

  exact_at : (s : Scan) → Holding p r (commands_in p r) s → (l : ℕ) →
      Says (settled (standing_at s l)) (Ended p r l (class_at p r (commands_in p r) l))
  exact_at s g l = settled_exact l (standing_at s l) (kind_at s l) (class_at p r (commands_in p r) l) (g.holds l)

  pub complete_exact : (s : Scan) → Holding p r (commands_in p r) s →
      (complete s ≡ true) ↔ ((l : ℕ) → Ended p r l (class_at p r (commands_in p r) l))
  unfolding complete
  complete_exact s g =
      iff_trans says_eq (iff_trans (sweeps (λ l. settled (standing_at s l)) 0 most_locations most_locations refl) (
        (λ h l.
            (exact_at s g l).0
            (cases (l <? most_locations) (λ y. h l (omega arith) (lt? y)) (λ y. beyond s g.sized l (lt×? y)))),
        (λ h i l m. (exact_at s g i).1 (h i)),
      ))

  -- ---- what is missing, where it fails

  lacking_made : (i : ℕ) → i < commands_in p r → (c : Cmd) → cmd_at p r (command_loc p r i) ≡ c →
      (Ended p r (command_loc p r i) (class_of c) → ⊥) → Lacks p r
  unfolding class_of
  lacking_made i h (alloc_mono x) e n = react_missing (inl (x, e)) (λ j l q. n (j, l, q))
  lacking_made i h (make_poly x) e n = poly_missing (x, e) (λ j l q. n (j, l, q))
  lacking_made i h (cell x v) e n = keep_missing (x, v, e) (λ j l q. n (j, l, q))
  lacking_made i h (gives g) e n = absurd (n tt)
  lacking_made i h (supply x a b) e n = absurd (n tt)
  lacking_made i h (react b) e n = absurd (n tt)
  lacking_made i h (sink x a) e n = absurd (n tt)
  lacking_made i h (alloc_poly a b) e n = react_missing (inr (loc_lt p r h, (a, b, e))) (λ j l q. n (j, l, q))
  lacking_made i h (keep a b) e n = absurd (n tt)
  lacking_made i h none e n = absurd (n tt)

  lacking_at : (l : ℕ) → (Ended p r l (class_at p r (commands_in p r) l) → ⊥) → Lacks p r
  lacking_at =
      by_place p r (commands_in p r) (λ l c. (Ended p r l c → ⊥) → Lacks p r) (omega arith)
      (λ l h n. absurd (n tt))
      (λ i h. lacking_made i h (cmd_of p r i) (cmd_there p r i h))
      (λ i h l n. absurd (n tt))
      (λ x h n. sink_missing h (λ j l q. n (j, l, q)))
      (λ l h n. absurd (n tt))

  pub lacking : (s : Scan) → Holding p r (commands_in p r) s → complete s ≡ false → Lacks p r
  unfolding complete
  lacking s g e =
      let found = swept (λ l. settled (standing_at s l)) 0 most_locations in
      let l = sweep (λ l. settled (standing_at s l)) 0 most_locations in
      let end = eq×? e in
      let fails = found.stopped (let t = found.to in omega arith) in
      lacking_at l ((says× (exact_at s g l)).0 fails)
