-- What a completed turn leaves (`finish`): each word of memory, in a cell what its Keep kept, if its deployment has
-- run, and else what it had (`cells`); and the same deployments.
use Rattle.std.specs.Prelude.{ℕ, ◌+◌, ◌≤◌, ◌≡◌, refl, ◌⊎◌, ◌≢◌, List, [], length}
use Rattle.std.proofs.Common.{sym, ◌∙◌, ap, subst, inl, inr}
use Rattle.value.specs.declared.Value.{Value}
use Rattle.value.proofs.Tests.{no}
use Rattle.program.specs.Command.{cell, keep}
use Rattle.program.specs.Location.{cmd_at}
use Rattle.program.proofs.Slots.{slot_early}
use Rattle.load.specs.Rules.{Rules}
use Rattle.load.proofs.Exact.StaticFromRules.{all_static}
use Rattle.image.specs.Memory.{used, reactor, wired, value_at}
use Rattle.image.specs.Sound.{Deployed, InD, SoundImage}
use Rattle.image.proofs.Whole.{Whole}
use Rattle.image.proofs.Memory.Changes.{same_value, unwritten}
use Rattle.image.proofs.Memory.Alike.{Alike, command_in_d, deployed_to, deployed_back}
use Rattle.remus.specs.Cells.{kept}
use Rattle.remus.specs.Clear.{closed, finished}
use Rattle.remus.specs.Walk.{State, run, Input}
use Rattle.remus.specs.Point.{◌∈◌, set_aside}
use Rattle.remus.specs.Claim.{CellIn, Begins, Becomes, stays, Leaves, AfterTurn}
use Rattle.remus.specs.Claim as Claim
use Rattle.remus.proofs.Once.{one_end, empty_ended}
use Rattle.remus.proofs.Finished.{d_same, closed_alike, closed-length, closed-turns, closed_rest, slot_blank}
use Rattle.remus.proofs.CellsFilled.{kept_in, held_then, passed, KeepOf, its_keep, cell_then, blank_then}
use Rattle.remus.proofs.CellsFilled.{kept_alike, kept_whole, finished_sound}
use Rattle.remus.proofs.History.{Finish}
use Rattle.remus.proofs.Walk.Facts.{Facts}
use Rattle.remus.proofs.Walk.MidTurn.{Keepable}
use Rattle.remus.proofs.Walk.Pile.{state, Inv}
use Rattle.remus.proofs.Walk.Top.{Onward}
use Rattle.remus.proofs.Walk.Cells.{kept-pending}
use Rattle.remus.proofs.Walk.Past.{begins_one, CellOf, its_cell, Past, recalled}
use Rattle.remus.proofs.Walk.End.{ran?, owner_run, all_wired, waits}
use Rattle.remus.proofs.Walk.Core as Core

module _ (p : List ℕ) (rules : Rules p) (w : List ℕ) (few : length w ≤ 16384) (image : SoundImage p w) (t : Input) where
  -- main leaves in one state
  one_leaving : {s s₂ : State} → Leaves p w t s → Leaves p w t s₂ → s₂ ≡ s
  one_leaving {s} {s₂} a b =
      one_end p t.readings b.during.comes a.during.comes
      (empty_ended p t.readings s₂ b.empty) (empty_ended p t.readings s a.empty)

  module _ (s : State) (l : Leaves p w t s) where
    known : Facts p
    known = Core.known p rules w few image t

    inv : Inv p w (state s.words [] s.notes)
    inv = Core.left p rules w few image t l

    remembered : Past p w t s
    remembered = Core.past p rules w few image t l.during

    -- the words as main leaves, and with what was kept in the cells
    abbrev m : List ℕ
    m = s.words

    abbrev m₂ : List ℕ
    m₂ = kept_in p m

    whole : Whole p m
    whole = Core.whole p rules w few image t s l

    ready : Keepable p m
    ready = Core.keepable_end p rules w few image t s l

    whole₂ : Whole p m₂
    whole₂ = kept_whole p (all_static p rules) m whole ready

    alike : Alike p m m₂
    alike = kept_alike p (all_static p rules) m whole ready

    alike₂ : Alike p m₂ (closed p m₂)
    alike₂ = closed_alike p m₂ whole₂

    -- ---- deployments

    to : Onward p m (finished p m)
    unfolding finished
    to =
        record {
          kept = λ d i. deployed_to alike₂ d (deployed_to alike d i);
          reactors = λ d i. alike₂.reactors d (deployed_to alike d i) ∙ alike.reactors d i;
        }

    back : Onward p (finished p m) m
    unfolding finished
    back =
        record {
          kept = λ d i. deployed_back alike d (deployed_back alike₂ d i);
          reactors = λ d i.
              let j = deployed_back alike₂ d i in
              sym (alike₂.reactors d j ∙ alike.reactors d (deployed_back alike d j));
        }

    ends_wired : (d : ℕ) → Deployed p (finished p m) d → wired (finished p m) d ≡ 1
    unfolding finished
    ends_wired d i = let j = deployed_back alike₂ d i in alike₂.wireds d j ∙ whole₂.grown.all_wired d j

    -- ---- a cell

    -- what cell b holds then
    cell_after : (d b : ℕ) {v : Value} → CellOf p m d b v → (k : KeepOf p m d b)
        → value_at p (finished p m) d b ≡ held_then p m d k.index b
    unfolding finished
    cell_after d b f k =
        let i = f.is.deployed in
        let r = reactor m d in
        let in_d = subst (InD p m₂ r) (sym f.place) (command_in_d p m₂ r f.index f.is.low) in
        same_value p d b (d_same p m₂ whole₂ d b (deployed_to alike d i) (rw (alike.reactors d i) in_d))
        ∙ cell_then p (all_static p rules) m whole ready k.is

    cells : (d b : ℕ) (v x : Value) → CellIn p m d b v → Begins p w d b v x
        → Becomes p w t d b x (value_at p (finished p m) d b)
    cells d b v x c g = by (ran? d s.notes)
      where
        f : CellOf p m d b v
        f = its_cell known whole.tiles c

        k : KeepOf p m d b
        k =
            subst (KeepOf p m d) (sym f.place)
            (its_keep p (all_static p rules) m whole ready d f.index f.kind f.bits f.is)

        -- what it had
        had : x ≡ value_at p m d b
        had = begins_one g (recalled p w t remembered f (inr (all_wired p known inv d c.deployed)))

        by : (run d ∈ s.notes) ⊎ (run d ∈ s.notes → ⊥) → Becomes p w t d b x (value_at p (finished p m) d b)
        by (inr n) =
            let j = k.index in
            let e = inv.mid.idle d j k.operand b k.is (λ z. n (owner_run p known inv d j z)) in
            let y : value_at p (finished p m) d b ≡ x =
            cell_after d b f k ∙ blank_then p (all_static p rules) m whole ready d j b e ∙ sym had in
            subst (Becomes p w t d b x) (sym y)
            (stays (λ r. n (subst (λ (z : State). run d ∈ z.notes) (one_leaving l r.leaves) r.ran)))
        by (inl r) =
            let full = (waits p known inv d k.index k.operand b k.is r).full in
            let z = remembered.keeps d k.index k.operand b (inr (r, k.is.inside)) k.is.is in
            let a = value_at p z.words d k.operand in
            let reads = Core.values p rules w few image t z.state z.words d (keep k.operand b) z.point in
            let y : value_at p (finished p m) d b ≡ a =
            cell_after d b f k ∙ sym (no (value_at p m d b) full refl) ∙ ap kept (sym z.is)
            ∙ kept-pending p _ a (reads.kinds d k.operand set_aside) in
            Claim.kept (record {
              runs = record { state = s; leaves = l; ran = r };
              state = z.state;
              words = z.words;
              operand = k.operand;
              point = z.point;
              is = sym y;
            })

    -- ---- every word

    -- a D slot that is no cell's
    d_slots : (d k : ℕ) → Deployed p m d → InD p m (reactor m d) k → ((x b : ℕ) → cmd_at p (reactor m d) k ≢ cell x b)
        → value_at p (finished p m) d k ≡ value_at p m d k
    unfolding finished
    d_slots d k i h n =
        let e = alike.reactors d i in
        let in_d : InD p m₂ (reactor m₂ d) k = record { low = rw e h.low; high = rw e h.high } in
        same_value p d k (d_same p m₂ whole₂ d k (deployed_to alike d i) in_d)
        ∙ same_value p d k
        (unwritten p (passed p (all_static p rules) m whole ready).change d k i
        (slot_early p (reactor m d) k h.high) (λ c. n c.0 c.1 c.2))

    after_turn : AfterTurn p w t m (finished p m)
    unfolding finished
    after_turn =
        let u = passed p (all_static p rules) m whole ready in
        record {
          same_length = closed-length p m₂ whole₂ ∙ u.change.len
              ∙ Core.same_length p rules w few image t s l.during;
          same_used = alike₂.useds ∙ alike.useds;
          counted = closed-turns p m₂ whole₂
              ∙ ap (λ (n : ℕ). n + 1) (u.change.clock ∙ Core.same_clock p rules w few image t s l.during);
          tiled = whole.tiles;
          headers = λ d i.
              let j = deployed_to alike d i in (
                alike₂.reactors d j ∙ alike.reactors d i,
                alike₂.wireds d j ∙ alike.wireds d i,
                alike₂.nexts d j ∙ alike.nexts d i,
              );
          d_slots = d_slots;
          cells = cells;
          other_slots = λ d k i h n.
              let e = alike.reactors d i in
              slot_blank p m₂ whole₂ d k (deployed_to alike d i) (rw e h)
              (λ q. n (record { low = rw e at q.low; high = rw e at q.high }));
          rest = λ i h.
              let h₂ : used m₂ ≤ i = rw alike.useds h in
              closed_rest p m₂ whole₂ i h₂ ∙ whole₂.rest i h₂;
        }

    pub finish : Finish p w t s
    finish =
        record {
          after = after_turn;
          sound_image = finished_sound p (all_static p rules) m whole ready;
          to = to;
          back = back;
          ran = λ d r. to.kept d (inv.piled.ran d r).0;
          all_wired = ends_wired;
        }
