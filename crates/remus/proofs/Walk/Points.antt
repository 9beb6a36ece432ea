-- At every point the next command can be carried out (`can_here`) and reads well (`reads_here`).
use Rattle.std.specs.Prelude.{ℕ, ◌≤◌, ◌<◌, ◌≡◌, refl, ◌⊎◌, true, List, ◌∷◌}
use Rattle.std.proofs.Common.{sym, ◌∙◌, inl, inr, arith}
use Rattle.value.specs.Value.{deployment_mark}
use Rattle.value.specs.Primitive.{operands}
use Rattle.value.proofs.Tests.{eq?}
use Rattle.program.specs.Bytes.{commands_in}
use Rattle.program.specs.Command.{Cmd, alloc_mono, make_poly, constant, global, supply, react, consume, sink, alloc_poly}
use Rattle.program.specs.Command.{primitive, cell, fetch, keep, none, gives}
use Rattle.program.specs.Location.{source_count, sink_count, cmd_at}
use Rattle.program.specs.Kind.{kind_of, OfKind}
use Rattle.load.proofs.Exact.Static.{ValueBefore, DeploymentBefore, mono, poly, CellBefore, cell_command}
use Rattle.load.proofs.Exact.Places.{cmd_there}
use Rattle.image.specs.Memory.{reactor, mark, content, value_at}
use Rattle.image.specs.Sound.{Deployed, MonoSlot}
use Rattle.image.proofs.Memory.Tiles.{in_fits, in_reactor}
use Rattle.remus.specs.Exec.{there}
use Rattle.remus.specs.Walk.{Note, location, Frame}
use Rattle.remus.specs.Point.{◌∈◌, Within, Operand, left_blank, of_mono, of_point, Cell, Can, Reads, supplied}
use Rattle.remus.specs.Point.{sunk, operator, taken, set_aside, operand_1, operand_2, operand_3, ReadsWell}
use Rattle.remus.proofs.Walk.Facts.{Facts}
use Rattle.remus.proofs.Walk.MidTurn.{own, cmd, Chosen, Done}
use Rattle.remus.proofs.Walk.Pile.{frame, state, Entered, Inv}
use Rattle.remus.proofs.Walk.Top.{top_frame, behind_less}
use Rattle.remus.proofs.Walk.Operands.{shape_at_point, static_here, value_noted, value_kind, target_here}
use Rattle.remus.proofs.Walk.Operands.{point_here, cell_here, keep_fresh, supply_fresh, react_fresh, sink_fresh}
use Rattle.remus.proofs.Walk.Operands.{react_given, consume_run, ran_noted, ran_kind, some_command}
use Rattle.remus.proofs.Walk.Walking.{Legal}

module _ (p : List ℕ) (u : Facts p) {w m : List ℕ} {ns : List Note} {o i : ℕ} {fs : List Frame}
    (v : Inv p w (state m (frame o i ∷ fs) ns)) (h : i < commands_in p (reactor m o)) where
  t₀ : Deployed p m o
  t₀ = (top_frame p v).deployed

  marked : (b : ℕ) → there p m o b ≡ true → mark p m o b ≡ deployment_mark
  unfolding there
  marked b e = eq? e

  command_at_lem : (j : ℕ) {c : Cmd} → j < i → cmd p m o j ≡ c → cmd_at p (reactor m o) (own p m o j) ≡ c
  command_at_lem j l e = cmd_there p (reactor m o) j (omega arith) ∙ e

  pub within : {d : ℕ} → Deployed p m d → Within p m d
  within t =
      record { deployed = t; legal = in_reactor p v.mid.good.tiles t; inside = in_fits p v.mid.good.tiles t }

  operand : (k b : ℕ) → DeploymentBefore p (reactor m o) i k b → Operand p m ns o b
  operand k b (mono j x l e q z) =
      let d : MonoSlot p m o (own p m o j) x = rw q at (v.mid.done o j (behind_less p v j l)) in
      rw e (of_mono x (command_at_lem j l q) d.marked (within d.child) d.its)
  operand k b (poly j a y l e q z) = rw e (by (v.mid.polys o j a y t₀ (omega arith) q))
    where
      by : Chosen p m o (own p m o j) y → Operand p m ns o (own p m o j)
      by (inl f) =
          let d : Done p m ns (Entered (frame o i ∷ fs) ns) o (own p m o j) (alloc_poly a y) =
          rw q at (v.mid.done o j (behind_less p v j l)) in
          left_blank a y (command_at_lem j l q) d f
      by (inr f) =
          let t = target_here p u v h k (own p m o j) (poly j a y l refl q z) f.0 in
          of_point a y (command_at_lem j l q) f.0 (within t.deployed) (t.shape ∙ sym z)

  cell_operand : (k b : ℕ) → CellBefore p (reactor m o) i k b → Cell p m ns o b
  cell_operand k b c = (k, c.bits, cell_command p (reactor m o) c (omega arith), cell_here p u v h k b c)

  pub can_here : (c : Cmd) → cmd p m o i ≡ c → Can p m ns o c
  unfolding source_count sink_count
  can_here (alloc_mono x) e = tt
  can_here (make_poly x) e = tt
  can_here (cell x a) e = tt
  can_here (gives (constant x a)) e = tt
  can_here (gives (global x)) e = tt
  can_here (gives (consume x b)) e =
      let f = (static_here p u v h).consumes i x b h e in (
        operand f.0 b f.1,
        λ z.
            let t = target_here p u v h f.0 b f.1 (marked b z) in
            (rw t.shape f.2, consume_run p u v h b f.0 f.3 (marked b z) t),
      )
  can_here (gives (primitive x a b c)) e = ((static_here p u v h).primitives i x a b c h e).0
  can_here (gives (fetch b)) e = cell_operand _ b ((static_here p u v h).fetches i b h e).0
  can_here (supply x a b) e =
      let f = ((static_here p u v h).supplies i x a b h e).1 in (
        operand f.0 b f.1,
        λ z.
            let t = target_here p u v h f.0 b f.1 (marked b z) in
            let port : x < source_count p (reactor m (content p m o b)) = rw t.shape f.2 in
            (port, supply_fresh p u v h x a b f.0 e t port),
      )
  can_here (react b) e =
      let f = (static_here p u v h).reacts i b h e in (
        operand f.0 b f.1,
        λ z.
            let t = target_here p u v h f.0 b f.1 (marked b z) in
            (react_given p u v h b f.0 f.2 (marked b z) t, λ r. react_fresh p u v h b f.0 e t (inr r)),
      )
  can_here (sink x a) e = sink_fresh p u v h x a e
  can_here (alloc_poly a b) e =
      let f = ((static_here p u v h).polys i a b h e).1 in
      rw (shape_at_point p (reactor m o) i f.0 b (omega arith) f.1) (point_here p u v h f.0 b f.1)
  can_here (keep a b) e =
      let f = (static_here p u v h).keeps i a b h e in
      (cell_operand _ b f.1, keep_fresh p u v h a b _ e f.1)
  can_here none e = some_command p u v h e

  -- ---- what the next command reads

  abbrev Read : ℕ → ℕ → Type 0
  Read d l = (location d l ∈ ns) × OfKind p (kind_of p (reactor m d) l) (value_at p m d l)

  value : (a : ℕ) → ValueBefore p (reactor m o) i a → Read o a
  value a b = (value_noted p u v h a b, value_kind p u v h a b)

  taken_value : (n k a : ℕ) → n ≤ k → (k < n) ⊎ ValueBefore p (reactor m o) i a → Read o a
  taken_value n k a l (inl z) = absurd (omega arith)
  taken_value n k a l (inr z) = value a z

  read : {c : Cmd} {d l : ℕ} → cmd p m o i ≡ c → Reads p m ns o c d l → Read d l
  unfolding sink_count
  read e (supplied {x} {a} {b}) = value a ((static_here p u v h).supplies i x a b h e).0
  read e (sunk {x} {a}) = value a ((static_here p u v h).sinks_of_lem i x a h e).0
  read e (operator {a} {b}) = value a ((static_here p u v h).polys i a b h e).0
  read e (taken {x} {b} z) =
      let f = (static_here p u v h).consumes i x b h e in
      let t = target_here p u v h f.0 b f.1 (marked b z) in
      let r = consume_run p u v h b f.0 f.3 (marked b z) t in
      let l : x < sink_count p (reactor m (content p m o b)) = rw t.shape f.2 in
      (ran_noted p u v h (content p m o b) x r l, ran_kind p u v h (content p m o b) x r l)
  read e (set_aside {a} {b}) = value a ((static_here p u v h).keeps i a b h e).0
  read e (operand_1 {x} {a} {b} {c} l) = value a ((static_here p u v h).primitives i x a b c h e).1
  read e (operand_2 {x} {a} {b} {c} l) =
      taken_value 2 (operands x) b l ((static_here p u v h).primitives i x a b c h e).2
  read e (operand_3 {x} {a} {b} {c} l) =
      taken_value 3 (operands x) c l ((static_here p u v h).primitives i x a b c h e).3

  pub reads_here : (rd : List ℕ) → Legal p rd → (c : Cmd) → cmd p m o i ≡ c → ReadsWell p m ns o rd c
  reads_here rd legal c e =
      record {
        noted = λ d l r. (read e r).0;
        kinds = λ d l r. (read e r).1;
        outside = λ x q. let g = ((static_here p u v h).globals i x h (e ∙ q)).1 in (g, legal m x g);
        fetched = λ b q.
            let f = (static_here p u v h).fetches i b h (e ∙ q) in
            (cell_here p u v h (kind_of p (reactor m o) b) b f.0).holds;
        inside = λ d l r. let n = v.mid.noted d l (read e r).0 in (within n.deployed, n.has_slot);
      }
