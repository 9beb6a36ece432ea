-- Of an accepted program: steps stay among its reactors, the test for a circle holds just where there is one, and the
-- sweep over the reactors finds the lowest.
use Rattle.std.specs.Prelude.{ℕ, ◌≤◌, ◌<◌, ◌≡◌, ◌↔◌, Bool, false, not, List}
use Rattle.std.proofs.Common.{◌∙◌, ap, arith}
use Rattle.value.specs.Test.{◌=?◌}
use Rattle.value.proofs.Tests.{not_false, Says, says_eq, says_and, says_or, says×}
use Rattle.value.proofs.Sweeps.{Passes}
use Rattle.program.specs.Bytes.{reactors, commands_in, main_of}
use Rattle.program.specs.Command.{Cmd, alloc_mono, deployment, made_by, cmd_of}
use Rattle.load.specs.Fault.{Lowest}
use Rattle.load.specs.Rules.{Rules}
use Rattle.load.proofs.Exact.Bounds.{main_last}
use Rattle.load.proofs.Exact.ByteFaults as Sweep
use Rattle.load.proofs.Exact.StaticFromRules.{all_static}
use Rattle.image.proofs.Exact.SlotTests.{Makes, a_deployment, a_point, a_cell, neither, makes}
use Rattle.image.proofs.Exact.SlotTests.{made_mono, made_point, made_cell}
use Rattle.figure.specs.Steps.{Step, by_mono, by_point, Reaches, OnCircle, Straight, found, reached, circular}
use Rattle.figure.specs.Figure.{lowest_circular}
use Rattle.figure.proofs.Closure.{found_reaches, reaches_found, needed_low}

mono_of : {x : ℕ} {c : Cmd} → Makes c → made_by c ≡ deployment x → c ≡ alloc_mono x
mono_of {x} (a_deployment y e) f = let z : y ≡ x = cc (made_mono e) in e ∙ ap alloc_mono z
mono_of (a_point y e) f = let z : ◌≡◌ {A = ℕ} 0 1 = cc (made_point e) in absurd (omega arith)
mono_of (a_cell y v e) f = let z : ◌≡◌ {A = ℕ} 0 1 = cc (made_cell e) in absurd (omega arith)
mono_of (neither e) f = let z : ◌≡◌ {A = ℕ} 0 1 = cc in absurd (omega arith)

module _ (p : List ℕ) (rules : Rules p) where
  pub low : (r q : ℕ) → r < reactors p → Step p r q → q < reactors p
  unfolding commands_in
  low r q h (by_mono j l e) = ((all_static p rules r h).0.monos j q (omega arith) (mono_of (makes (cmd_of p r j)) e)).1
  low r q h (by_point j s l e k f) = k

  pub main : main_of p < reactors p
  main = main_last rules.tables.header

  reach_says : (r q : ℕ) → r < reactors p → q < reactors p → Says (found (reached p) r q) (Reaches p r q)
  reach_says r q h k = (found_reaches p r q h k, reaches_found p low h)

  pub circle_says : (r : ℕ) → r < reactors p → Says (circular p (reached p) r) (OnCircle p r)
  unfolding circular
  circle_says r h = says_and (says_or says_eq (reach_says (main_of p) r main h)) (reach_says r r h h)

  -- ---- the sweep

  abbrev ok : ℕ → Bool
  ok r = not (circular p (reached p) r)

  abbrev place : ℕ
  place = lowest_circular p (reached p)

  bounds : (r : ℕ) → OnCircle p r → (0 ≤ r) × (r < reactors p)
  bounds r c = (omega arith, needed_low p low main c.0)

  fails : (r : ℕ) → 0 ≤ r → r < reactors p → Passes ok 0 r → (ok r ≡ false) ↔ OnCircle p r
  fails r z h a = let s = circle_says r h in ((λ e. s.0 (not_false _ e)), λ c. ap not (s.1 c))

  pub straight_says : Says (place =? reactors p) (Straight p)
  unfolding lowest_circular
  straight_says = Sweep.none_exact ok (OnCircle p) 0 (reactors p) (reactors p) (omega arith) bounds fails

  pub lowest_found : (Straight p → ⊥) → Lowest (OnCircle p) place
  unfolding lowest_circular
  lowest_found n =
      Sweep.lowest_found ok (OnCircle p) 0 (reactors p) (reactors p) (omega arith) bounds fails
      ((says× straight_says).1 n)

  pub lowest_is : (r : ℕ) → Lowest (OnCircle p) r → place ≡ r
  unfolding lowest_circular
  lowest_is = Sweep.lowest_is ok (OnCircle p) 0 (reactors p) (reactors p) (omega arith) bounds fails
