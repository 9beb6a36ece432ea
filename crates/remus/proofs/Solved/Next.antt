-- At the topmost's next command: what it reads is held (`value_held` .. `sink_held`), its own slot is not final
-- (`own_spared`), and after a change that writes no final slot there are the equations again, if its own is among them
-- (`equations_next`).
use Rattle.std.specs.Prelude.{ℕ, ◌+◌, ◌<◌, ◌≡◌, refl, ◌⊎◌, ◌≢◌, true, List, ◌∷◌}
use Rattle.std.proofs.Common.{sym, ◌∙◌, ap, inl, inr}
use Rattle.std.proofs.lemmas.Bool.{false≢true}
use Rattle.std.proofs.Common.{arith}
use Rattle.value.specs.Value.{deployment_mark}
use Rattle.value.specs.declared.Value.{Value}
use Rattle.program.specs.Bytes.{commands_in}
use Rattle.program.specs.Command.{Cmd, takes_words, gives_value, make_poly}
use Rattle.program.specs.Location.{sink_count, sink_loc}
use Rattle.program.proofs.Slots.{slot_source, slot_sink, slot_command, takes_value}
use Rattle.load.proofs.Exact.Static.{ValueBefore, source, made, DeploymentBefore, mono, poly, CellBefore, cell_slot}
use Rattle.image.specs.Memory.{reactor, mark, content, value_at}
use Rattle.image.specs.Sound.{Deployed}
use Rattle.image.proofs.Memory.Changes.{Change, This-slot, value_of}
use Rattle.remus.specs.Walk.{Note, run, Frame}
use Rattle.remus.specs.Point.{◌∈◌}
use Rattle.remus.proofs.Walk.Facts.{Facts}
use Rattle.remus.proofs.Walk.MidTurn.{own, cmd}
use Rattle.remus.proofs.Walk.Pile.{frame, state, first as top, Behind, Inv}
use Rattle.remus.proofs.Walk.Top.{top_frame, not_behind, behind_less, next_behind, just_behind}
use Rattle.remus.proofs.Walk.Operands.{operand_slot, value_noted, ran_noted}
use Rattle.remus.proofs.Walk.Locations.{own_one, own_no_source, own_no_sink, not_mono, not_poly, not_cell}
use Rattle.remus.proofs.Solved.Equations.{deployment, Final, by_command, by_source, by_sink, Held, Absent}
use Rattle.remus.proofs.Solved.Equations.{Equation, Equations, held_on, equation_on}

pub gives_no_point : (c : Cmd) → gives_value c ≡ true → (x : ℕ) → c ≢ make_poly x
unfolding gives_value
gives_no_point c g x e = false≢true (ap gives_value (sym e) ∙ g)

module _ (p : List ℕ) (u : Facts p) {w m : List ℕ} {ns : List Note} {o i : ℕ} {fs : List Frame}
    (v : Inv p w (state m (frame o i ∷ fs) ns)) (h : i < commands_in p (reactor m o)) where
  abbrev B₀ : ℕ → ℕ → Type 0
  B₀ = Behind p m (frame o i ∷ fs) ns

  t₀ : Deployed p m o
  t₀ = (top_frame p v).deployed

  -- ---- what it reads

  pub value_held : (a : ℕ) → ValueBefore p (reactor m o) i a → Held p m ns B₀ o a (value_at p m o a)
  value_held a (source l) =
      record {
        deployed = t₀;
        has_slot = slot_source p (reactor m o) a l;
        final = by_source l (value_noted p u v h a (source l));
        is = refl;
      }
  value_held a (made j l e g) =
      record {
        deployed = t₀;
        has_slot = rw e (slot_command p (reactor m o) j (omega arith) (takes_value (cmd p m o j) g));
        final = by_command j (behind_less p v j l) (sym e) (gives_no_point (cmd p m o j) g);
        is = refl;
      }

  operand_final : (k b : ℕ) → DeploymentBefore p (reactor m o) i k b → Final p m ns B₀ o b
  operand_final k b (mono j x l e q z) =
      by_command j (behind_less p v j l) (sym e) (λ y n. not_mono x y (sym q ∙ n))
  operand_final k b (poly j a d l e q z) =
      by_command j (behind_less p v j l) (sym e) (λ y n. not_poly a d y (sym q ∙ n))

  operand_held : (k b : ℕ) → DeploymentBefore p (reactor m o) i k b → Held p m ns B₀ o b (value_at p m o b)
  operand_held k b d =
      record {
        deployed = t₀;
        has_slot = operand_slot p (reactor m o) i k b (omega arith) d;
        final = operand_final k b d;
        is = refl;
      }

  pub as_deployment : (k b : ℕ) → DeploymentBefore p (reactor m o) i k b → mark p m o b ≡ deployment_mark
      → Held p m ns B₀ o b (deployment (content p m o b))
  as_deployment k b d mk =
      let f = operand_held k b d in
      record {
        deployed = f.deployed;
        has_slot = f.has_slot;
        final = f.final;
        is = value_of p m o b deployment_mark (content p m o b) mk refl;
      }

  pub no_deployment : (k b : ℕ) → DeploymentBefore p (reactor m o) i k b → mark p m o b ≢ deployment_mark
      → Absent p m ns B₀ o b
  unfolding value_at
  no_deployment k b d n = (value_at p m o b, operand_held k b d, n)

  pub cell_held : (k b : ℕ) → CellBefore p (reactor m o) i k b → Held p m ns B₀ o b (value_at p m o b)
  cell_held k b c =
      record {
        deployed = t₀;
        has_slot = cell_slot p (reactor m o) c;
        final = by_command c.index (behind_less p v c.index c.before) (sym c.place)
            (λ y n. not_cell k c.bits y (sym c.is ∙ n));
        is = refl;
      }

  -- the sink of a deployment that has run
  pub sink_held : (d x : ℕ) → run d ∈ ns → x < sink_count p (reactor m d)
      → Held p m ns B₀ d (sink_loc p (reactor m d) x) (value_at p m d (sink_loc p (reactor m d) x))
  sink_held d x r l =
      record {
        deployed = (v.piled.ran d r).0;
        has_slot = slot_sink p (reactor m d) x l;
        final = by_sink x refl (ran_noted p u v h d x r l);
        is = refl;
      }

  -- ---- its own slot

  pub own_spared : (d l : ℕ) → Final p m ns B₀ d l → This-slot p o (own p m o i) d l → ⊥
  own_spared d l (by_command j b e n) z =
      let e₁ = z.0 in
      let k : own p m o j ≡ own p m o i = rw e₁ at e ∙ z.1 in
      not_behind p v (rw (e₁, own_one p (reactor m o) j i k) at b)
  own_spared d l (by_source k n) z =
      let e₁ = z.0 in own_no_source p (reactor m o) i l (sym z.1) (rw e₁ at k)
  own_spared d l (by_sink x e n) z =
      let e₁ = z.0 in own_no_sink p (reactor m o) i x h (sym z.1 ∙ sym (rw e₁ at e))

  -- ---- after a change that writes no final slot

  module _ {W : ℕ → ℕ → Type 0} {N L : ℕ → Type 0} {m' : List ℕ} {ns' : List Note} (c : Change p W N L m m')
      (spared : (d l : ℕ) → Final p m ns B₀ d l → W d l → ⊥) (notes : (n : Note) → n ∈ ns → n ∈ ns')
      (runs : (d : ℕ) → run d ∈ ns' → run d ∈ ns) where
    abbrev B₁ : ℕ → ℕ → Type 0
    B₁ = Behind p m' (frame o (i + 1) ∷ fs) ns'

    further : (a j : ℕ) → B₀ a j → B₁ a j
    further = next_behind p c v.piled notes runs

    pub still : {d l : ℕ} {x : Value} → Held p m ns B₀ d l x → Held p m' ns' B₁ d l x
    still = held_on p c spared notes further

    -- what stands in its own slot then
    pub own_held : (x : Value) → takes_words (cmd p m o i) ≡ true → ((y : ℕ) → cmd p m o i ≢ make_poly y)
        → value_at p m' o (own p m o i) ≡ x → Held p m' ns' B₁ o (own p m o i) x
    own_held x takes n is =
        let r = c.reactors o t₀ in
        record {
          deployed = c.kept o t₀;
          has_slot = rw r (slot_command p (reactor m o) i h takes);
          final = by_command i (inl (i + 1, top refl refl, omega arith)) (rw r refl) (rw r n);
          is = is;
        }

    pub equations_next : (rd : List ℕ) → Equations p m ns B₀ rd w
        → Equation p m' ns' B₁ rd w o (own p m o i) (cmd p m o i) → Equations p m' ns' B₁ rd w
    equations_next rd qs q a j b = by (just_behind p c v.piled notes runs a j b)
      where
        by : B₀ a j ⊎ This-slot p o i a j → Equation p m' ns' B₁ rd w a (own p m' a j) (cmd p m' a j)
        by (inl z) =
            let t = (v.mid.scope a j z).0 in
            rw (c.reactors a t)
            (equation_on p c spared notes further rd w a (own p m a j) t (cmd p m a j) (qs a j z))
        by (inr z) = let e₁ = z.0 in let e₂ = z.1 in rw (e₁, e₂, c.reactors o t₀) q
