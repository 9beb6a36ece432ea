-- The values that a completed turn leaves solve the equations of its commands: `solution`, and so `solved`. Equations
-- says them, Next, Commands and Steps have them kept by each command, Turns at each state. Assumes nothing.
pub mod Equations
pub mod Next
pub mod Commands
pub mod Steps
pub mod Turns
use Rattle.std.specs.Prelude.{ℕ, ◌<◌, ◌≡◌, refl, List, []}
use Rattle.std.proofs.Common.{sym, ◌∙◌, ap, subst, inl, inr}
use Rattle.value.specs.Value.{deployment_mark, value}
use Rattle.value.specs.declared.Value.{Value}
use Rattle.program.specs.Bytes.{commands_in}
use Rattle.program.specs.Command.{Cmd, supply, consume, gives}
use Rattle.program.specs.Location.{sink_loc}
use Rattle.load.proofs.Exact.{exact}
use Rattle.image.specs.Memory.{main_at, reactor, mark, content, value_at}
use Rattle.image.specs.Sound.{MonoSlot}
use Rattle.image.proofs.Memory.Tiles.{in_reactor}
use Rattle.image.proofs.Memory.Changes.{value_of, value_mark, value_content}
use Rattle.remus.specs.Walk.{Note, run, Frame}
use Rattle.remus.specs.Point.{◌∈◌}
use Rattle.remus.specs.Solved.{Solution, Solved}
use Rattle.remus.proofs.Walk.Core as Core
use Rattle.remus.proofs.Walk.MidTurn.{own, cmd, Done}
use Rattle.remus.proofs.Walk.Pile.{state, none_open, Entered, Behind, Inv}
use Rattle.remus.proofs.Solved.Equations.{Absent, Equation}
use Rattle.remus.proofs.Solved.Turns.{StateEquations, equations_hold}

-- p the program, rd the readings, w the words before the turn; m those as main leaves, with the notes ns
module _ (p rd : List ℕ) {w m : List ℕ} {ns : List Note} (v : Inv p w (state m [] ns))
    (qs : StateEquations p rd w (state m [] ns)) where
  abbrev B₀ : ℕ → ℕ → Type 0
  B₀ = Behind p m [] ns

  abbrev Ran : ℕ → Type 0
  Ran d = run d ∈ ns

  has_run_lem : (d : ℕ) → Entered [] ns d → Ran d
  has_run_lem d (inl b) = absurd (none_open b.1)
  has_run_lem d (inr b) = b

  module _ (o j : ℕ) (r : Ran o) (h : j < commands_in p (reactor m o)) where
    equation : {c : Cmd} → cmd p m o j ≡ c → Equation p m ns B₀ rd w o (own p m o j) c
    equation e = rw e at (qs o j (inr (r, h)))

    done : {c : Cmd} → cmd p m o j ≡ c → Done p m ns (Entered [] ns) o (own p m o j) c
    done e = rw e at (v.mid.done o j (inr (r, h)))

  -- c is the deployment at operand b of o
  module _ (o b c : ℕ) (at : value_at p m o b ≡ value deployment_mark c) where
    same : {d : ℕ} → value_at p m o b ≡ value deployment_mark d → d ≡ c
    same e = ap (λ (x : Value). x.content) (sym e ∙ at)

    not_absent : Absent p m ns B₀ o b → ⊥
    not_absent a = a.2 (ap (λ (x : Value). x.mark) (sym a.1.is ∙ at))

    supplied : (x a l : ℕ) → Equation p m ns B₀ rd w o l (supply x a b) → value_at p m c x ≡ value_at p m o a
    supplied x a l (inl q) = let z = same q.2.is in rw z at q.4.is ∙ sym q.3.is
    supplied x a l (inr q) = absurd (not_absent q)

    consumed : (x l : ℕ) → Equation p m ns B₀ rd w o l (gives (consume x b))
        → value_at p m o l ≡ value_at p m c (sink_loc p (reactor m c) x)
    consumed x l (inl q) = let z = same q.2.is in q.4.is ∙ sym (rw z at q.3.is)
    consumed x l (inr q) = absurd (not_absent q)

  pub solution : Solution p rd w m Ran
  solution =
      record {
        main = has_run_lem main_at v.piled.main_in;
        main_is = v.mid.first;
        low = λ o r. in_reactor p v.mid.good.tiles (v.piled.ran o r).0;
        constants = λ o j x a r h e. (equation o j r h e).is;
        globals = λ o j x r h e. (equation o j r h e).is;
        primitives = λ o j x a b c r h e.
            let q = equation o j r h e in
            (q.1, q.2, rw q.3.is q.6.is, λ l. sym (q.4 l).is, λ l. sym (q.5 l).is);
        fetches = λ o j b r h e. let q = equation o j r h e in q.2.is ∙ sym q.1.is;
        sinks = λ o j x a r h e. let q = equation o j r h e in q.2.is ∙ sym q.1.is;
        monos = λ o j x r h e.
            let l = own p m o j in
            let d : MonoSlot p m o l x = done o j r h e in
            (content p m o l, value_of p m o l deployment_mark _ d.marked refl, d.its);
        polys = λ o j a b r h e.
            let q = equation o j r h e in
            let k = q.1.is in (
              λ z. (q.2 (rw k at z)).is,
              λ z. let y = q.3 (rw k at z) in (y.0, y.1.is, y.3 ∙ sym (value_content p m o a k)),
            );
        supplies = λ o j x a b c r h e at. supplied o b c at x a (own p m o j) (equation o j r h e);
        reacts = λ o j b c r h e at.
            let d : mark p m o b ≡ deployment_mark → Entered [] ns (content p m o b) = done o j r h e in
            let k = value_content p m o b at in
            has_run_lem c (rw k at (d (value_mark p m o b at)));
        consumes = λ o j x b c r h e at. consumed o b c at x (own p m o j) (equation o j r h e);
      }

pub solved : Solved
solved p w t s a few image l =
    let rules = (exact p).0 a in
    let qs = subst (λ (fs : List Frame). StateEquations p t.readings w (state s.words fs s.notes))
    l.empty (equations_hold p rules w few image t l.during) in
    solution p t.readings (Core.left p rules w few image t l) qs
