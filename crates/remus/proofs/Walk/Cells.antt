-- Keep comes to what it should (`keep_outcome`): its value waits in its own slot, and its cell is noted. A value as it
-- waits is never blank (`pending_full`), and taken back it is the value again (`kept-pending`).
use Rattle.std.specs.Prelude.{ℕ, zero, suc, ◌+◌, ◌≤◌, ◌<◌, ◌≡◌, refl, false, List, ◌∷◌}
use Rattle.std.proofs.Common.{sym, ◌∙◌, subst, inl, inr}
use Rattle.std.specs.Prelude.{◌++◌, length}
use Rattle.std.proofs.Common.{arith}
use Rattle.value.specs.Test.{pick, ◌=?◌}
use Rattle.value.specs.Value.{mark_of, kept_mark, value, blank, is_blank}
use Rattle.value.specs.declared.Value.{Value}
use Rattle.value.proofs.Tests.{cases, eq×, yes, no}
use Rattle.program.specs.Bytes.{commands_d, commands_in}
use Rattle.program.specs.Command.{sequence_of, alloc_poly, keep}
use Rattle.program.specs.Location.{cmd_at}
use Rattle.program.specs.Kind.{kind_of, OfKind}
use Rattle.program.proofs.Slots.{slot_d, slot_command, takes_keep}
use Rattle.load.proofs.Exact.Static.{ValueBefore, CellBefore, cell_command, cell_slot}
use Rattle.load.proofs.Exact.Places.{cmd_there}
use Rattle.image.specs.Memory.{reactor, wired, value_at, store}
use Rattle.image.specs.Sound.{Deployed}
use Rattle.image.proofs.Memory.Changes.{Change, Stored, stored, stored_value, This-slot, Nothing, unwritten}
use Rattle.remus.specs.Cells.{pending, kept}
use Rattle.remus.specs.Exec.{exec}
use Rattle.remus.specs.Walk.{Note, location, run, Frame, notes_of}
use Rattle.remus.specs.Point.{◌∈◌, later}
use Rattle.remus.proofs.Walk.Facts.{Facts}
use Rattle.remus.proofs.Walk.MidTurn.{Valued, own, cmd, Pends}
use Rattle.remus.proofs.Walk.Pile.{frame, state, first as top, Behind, behind_lower, Inv}
use Rattle.remus.proofs.Walk.Top.{onward, top_frame, not_behind, next_behind, just_behind, next_entered}
use Rattle.remus.proofs.Walk.Top.{same_entered}
use Rattle.remus.proofs.Walk.Operands.{static_here, value_kind}
use Rattle.remus.proofs.Walk.StepsKeep.{advance}
use Rattle.remus.proofs.Walk.Stores.{note_out, run_past, past_d}
use Rattle.remus.proofs.Walk.Writes.{own_writes}
use Rattle.remus.proofs.Walk.Outcome.{Outcome, no_words, allocation_deploys}
use Rattle.remus.proofs.Walk.Locations.{own_one, own_no_source, own_no_sink}

-- ---- a value as it waits

-- the mark of a kind is 1, 2 or 3
pub value_marks : (k : ℕ) → (1 ≤ mark_of k) × (mark_of k ≤ 3)
unfolding mark_of
value_marks zero = (omega arith, omega arith)
value_marks (suc zero) = (omega arith, omega arith)
value_marks (suc (suc k)) = (omega arith, omega arith)

pub pending_full : (v : Value) → is_blank (pending v) ≡ false
unfolding pending
pending_full v =
    cases (is_blank v) (λ e. subst (λ (x : Value). is_blank x ≡ false) (yes v e refl) full)
    (λ e. subst (λ (x : Value). is_blank x ≡ false) (no (value kept_mark 0) e refl) e)
  where
    full : is_blank (value kept_mark 0) ≡ false
    full = unfold is_blank in eq× (omega arith)

blank_again : kept (pending blank) ≡ blank
unfolding pending kept is_blank pick ◌=?◌
blank_again = refl

-- taken back, a value is as it was
pub kept-pending : (p : List ℕ) (k : ℕ) (v : Value) → OfKind p k v → kept (pending v) ≡ v
kept-pending p k v (inl e) = rw e blank_again
kept-pending p k v (inr h) = subst (λ (x : Value). kept x ≡ v) as_it_is same
  where
    low : 1 ≤ v.mark
    low = let e = h.0 in omega (arith, value_marks k)

    high : v.mark ≤ 3
    high = let e = h.0 in omega (arith, value_marks k)

    full : is_blank v ≡ false
    full = unfold is_blank in eq× (omega (arith, low))

    as_it_is : v ≡ pending v
    as_it_is = unfold pending in no (value kept_mark 0) full refl

    other : (v.mark =? kept_mark) ≡ false
    other = eq× (omega (arith, high))

    same : kept v ≡ v
    same = unfold kept in sym (no blank other refl)

-- ---- the command

module _ (p : List ℕ) (u : Facts p) {w m : List ℕ} {ns : List Note} {o i : ℕ} {fs : List Frame}
    (v : Inv p w (state m (frame o i ∷ fs) ns)) (h : i < commands_in p (reactor m o))
    (then : commands_d p (reactor m o) ≤ i → wired m o ≡ 1) (a b : ℕ) (e : cmd p m o i ≡ keep a b) where
  t₀ : Deployed p m o
  t₀ = (top_frame p v).deployed

  past : commands_d p (reactor m o) ≤ i
  unfolding sequence_of
  past = past_d p u v h then e refl

  abbrev kd : ℕ
  kd = kind_of p (reactor m o) b

  f : ValueBefore p (reactor m o) i a × CellBefore p (reactor m o) i kd b × (kind_of p (reactor m o) a ≡ kd)
  f = (static_here p u v h).keeps i a b h e

  c : CellBefore p (reactor m o) i kd b
  c = f.1

  abbrev x : Value
  x = pending (value_at p m o a)

  abbrev here : ℕ
  here = own p m o i

  abbrev m' : List ℕ
  m' = store p m o here x

  s : Stored p m o here x m'
  s = stored p m o here x v.mid.good t₀ (slot_command p (reactor m o) i h (takes_keep e))

  ch : Change p (This-slot p o here) (Nothing p) (Nothing p) m m'
  ch = s.change

  abbrev notes : List Note
  notes = location o b ∷ ns

  stands : value_at p m' o here ≡ x
  stands = stored_value p s

  pends : Pends p m' o here b
  pends =
      let k : OfKind p kd (value_at p m o a) = rw f.2 at (value_kind p u v h a f.0) in
      record {
        full = rw stands (pending_full (value_at p m o a));
        kind = rw (ch.reactors o t₀, stands, kept-pending p kd (value_at p m o a) k) k;
      }

  now : Behind p m' (frame o (i + 1) ∷ fs) notes o i
  now = inl (i + 1, top refl refl, omega arith)

  -- the one command whose slot is written
  this_one : (d j : ℕ) → This-slot p o here d (own p m d j) → (d ≡ o) × (j ≡ i)
  this_one d j z = let q = z.0 in (q, own_one p (reactor m o) j i (rw q at z.1))

  kept_on : Inv p w (state m' (frame o (i + 1) ∷ fs) notes)
  kept_on =
      advance p u {o₀ = o} {j₀ = i} v h then
      (record {
        change = ch;
        more_notes = λ n z. later z;
        new_note = λ d l z. note_out z;
        inside = λ d l z.
            let e₁ = z.0 in
            let e₂ = z.1 in
            (inr (λ n. unvalued (rw (e₁, e₂) at n)), rw e₁ t₀, rw (e₁, e₂) (cell_slot p (reactor m o) c));
        supplies = λ d y z k.
            let e₁ = z.0 in
            let e₂ = z.1 in
            absurd (own_no_source p (reactor m o) c.index y (sym (e₂ ∙ c.place)) (rw e₁ at k));
        sinks_in = λ d y z.
            let e₁ = z.0 in
            let e₂ : _ ≡ b = rw e₁ at z.1 in
            absurd (own_no_sink p (reactor m o) c.index y (omega (arith, c.before)) (sym (e₂ ∙ c.place)));
        keeps_in = λ d l y k z q. let e₁ = z.0 in let e₂ = z.1 in rw (e₁, e₂) (i, a, now, e);
        more_behind = next_behind p ch v.piled more runs;
        new_behind = just_behind p ch v.piled more runs;
        lower = behind_lower p m' (frame o (i + 1) ∷ fs) notes;
        scope = λ d j z. let e₁ = z.0 in let e₂ = z.1 in rw (e₁, e₂) (t₀, h);
        done = λ d j z. let e₁ = z.0 in let e₂ = z.1 in rw (e₁, e₂, e) pends;
        more_entered = next_entered p ch v.piled more runs;
        new_entered = λ d z. inl (same_entered p ch v.piled more runs d z);
        opens = λ d z. absurd z;
        spared = λ d j k n z. let y = this_one d j z in not_behind p v (rw (y.0, y.1) at k);
        fits = λ d l t k z n.
            let e₁ = z.0 in
            let e₂ = z.1 in
            let n₂ : Valued (cmd p m o i) = rw (e₁, e₂, cmd_there p (reactor m o) i h) at n in
            absurd (rw e at n₂);
        in_d = λ d j t k.
            inl (unwritten p ch d (own p m d j) t (slot_d p (reactor m d) j k)
            (λ z.
            let y = this_one d j z in
            let y₀ = y.0 in
            let k₂ : j < commands_d p (reactor m o) = rw y₀ at k in
            omega (arith, past, y.1)));
        polys = λ d j k y t l n z.
            let g = this_one d j z in
            let g₀ = g.0 in
            let g₁ = g.1 in
            let n₂ : cmd p m o i ≡ alloc_poly k y = rw (g₀, g₁) at n in
            let n₃ : keep a b ≡ alloc_poly k y = sym e ∙ n₂ in
            let k₂ : ◌≡◌ {A = ℕ} 0 1 = cc in
            absurd (omega arith);
        keeps = λ d j k y l z. let g = this_one d j z in let g₀ = g.0 in let g₁ = g.1 in rw (g₀, g₁) now;
        new = λ d z. absurd z;
        wires = λ d z. absurd z;
      })
      runs
    where
      unvalued : Valued (cmd_at p (reactor m o) b) → ⊥
      unvalued n = rw (cell_command p (reactor m o) c (omega arith)) at n

      more : (n : Note) → n ∈ ns → n ∈ notes
      more n z = later z

      runs : (d : ℕ) → run d ∈ notes → run d ∈ ns
      runs d z = run_past z

  pub keep_outcome : (rd : List ℕ) →
      Outcome p w m o i fs (keep a b) (notes_of p m o i (keep a b) ++ ns)
      (exec p rd (suc (length fs)) m o i (keep a b))
  unfolding notes_of exec
  keep_outcome rd =
      record {
        inv = kept_on;
        forth = onward p s.change;
        grown = no_words s.same (λ q k. allocation_deploys k);
        wrote = own_writes p s.change (λ d z. absurd z);
        gave = stands;
      }
