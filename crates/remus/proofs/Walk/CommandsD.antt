-- The D commands: MakePoly, AllocMono and Cell come to what they should.
use Rattle.std.specs.Prelude.{ℕ, suc, ◌+◌, ◌-◌, ◌≤◌, ◌<◌, ◌≡◌, refl, ◌⊎◌, ◌≢◌, Bool, true}
use Rattle.std.proofs.Common.{sym, ◌∙◌, ap, inl, inr}
use Rattle.std.specs.Prelude.{false, List, ◌∷◌, ◌++◌, length}
use Rattle.std.proofs.Common.{arith}
use Rattle.value.specs.Test.{◌<?◌, ◌≤?◌}
use Rattle.value.specs.Value.{deployment_mark, point_mark, truth_kind, mark_of, value, blank}
use Rattle.value.proofs.Tests.{lt?, lt×?, le?, le×?, same?}
use Rattle.program.specs.Bytes.{reactors, commands_d, commands_in}
use Rattle.program.specs.Command.{takes_words, alloc_mono, make_poly, alloc_poly, cell}
use Rattle.program.specs.Location.{size_of, HasSlot}
use Rattle.program.specs.Kind.{kind_of, Content}
use Rattle.program.proofs.Slots.{slot_d, slot_command, takes_mono, takes_point, takes_cell}
use Rattle.load.proofs.Exact.Places.{cmd_there}
use Rattle.image.specs.Memory.{most_depth, used, reactor, wired, mark, content, value_at, store, deploy}
use Rattle.image.specs.Sound.{Deployed, empty, MonoSlot, Names, by_mono, by_point, Owner}
use Rattle.image.proofs.Memory.Each.{in_below}
use Rattle.image.proofs.Memory.Changes.{Same, Change, Nothing, This-slot, Stored, stored, unwritten, stored_value}
use Rattle.image.proofs.Memory.Slots.{SlotRight, no_chain, blank_names}
use Rattle.remus.specs.Exec.{allocated, exec}
use Rattle.remus.specs.Walk.{Note, Frame, notes_of}
use Rattle.remus.specs.Point.{mono}
use Rattle.remus.proofs.Walk.Facts.{Facts}
use Rattle.remus.proofs.Walk.MidTurn.{Valued, Deploys, own, cmd}
use Rattle.remus.proofs.Walk.Grown.{Grown, grown}
use Rattle.remus.proofs.Walk.Pile.{frame, state, first as top, Entered, Behind, behind_lower, Piled, Inv}
use Rattle.remus.proofs.Walk.Pile.{height_bound}
use Rattle.remus.proofs.Walk.Top.{Onward, onward, right_done, lower_heights, top_frame, not_behind, next_behind}
use Rattle.remus.proofs.Walk.Top.{just_behind, next_entered, same_entered}
use Rattle.remus.proofs.Walk.StepsKeep.{advance}
use Rattle.remus.proofs.Walk.Operands.{static_here}
use Rattle.remus.proofs.Walk.Outcome.{no_words, words, deep, full, Outcome, allocation_deploys}
use Rattle.remus.proofs.Walk.Locations.{not_mono, not_cell, own_one}
use Rattle.remus.proofs.Walk.Step.{Renewed, New}
use Rattle.remus.proofs.Walk.Writes.{Writes, own_writes}

module _ (p : List ℕ) (u : Facts p) {w m : List ℕ} {ns : List Note} {o i : ℕ} {fs : List Frame}
    (v : Inv p w (state m (frame o i ∷ fs) ns)) (h : i < commands_in p (reactor m o))
    (then : commands_d p (reactor m o) ≤ i → wired m o ≡ 1) where
  t₀ : Deployed p m o
  t₀ = (top_frame p v).deployed

  abbrev here : ℕ
  here = own p m o i

  pub slot_here : takes_words (cmd p m o i) ≡ true → HasSlot p (reactor m o) (own p m o i)
  slot_here takes = slot_command p (reactor m o) i h takes

  -- D command i makes its own slot
  makes : {m' : List ℕ} {N : ℕ → Type 0} →
      i < commands_d p (reactor m o) → Change p (This-slot p o here) N (Nothing p) m m' →
      (Valued (cmd p m o i) → ⊥) → ((a b : ℕ) → cmd p m o i ≢ alloc_poly a b) → SlotRight p m' o here (cmd p m o i) →
      ((d : ℕ) → Deployed p m' d → Names p m' o i d → Names p m o i d ⊎ N d) →
      ((d : ℕ) → N d → New p m m' (Behind p m' (frame o (i + 1) ∷ fs) ns) d) →
      Inv p w (state m' (frame o (i + 1) ∷ fs) ns)
  makes {m'} {N} low ch plain no_poly right back new =
      advance p u v h then
      (record {
        change = ch;
        more_notes = λ n z. z;
        new_note = λ d l z. inl z;
        inside = λ d l z. absurd z;
        supplies = λ d x z. absurd z;
        sinks_in = λ d x z. absurd z;
        keeps_in = λ d b x v z. absurd z;
        more_behind = next_behind p ch q (λ n z. z) (λ d z. z);
        new_behind = just_behind p ch q (λ n z. z) (λ d z. z);
        lower = behind_lower p m' (frame o (i + 1) ∷ fs) ns;
        scope = λ d j z. let e₁ = z.0 in let e₂ = z.1 in rw (e₁, e₂) (t₀, h);
        done = λ d j z.
            let e₁ = z.0 in
            let e₂ = z.1 in
            rw (e₁, e₂) (right_done p m' ns (Entered (frame o (i + 1) ∷ fs) ns) o here (cmd p m o i) right);
        more_entered = next_entered p ch q (λ n z. z) (λ d z. z);
        new_entered = λ d z. inl (same_entered p ch q (λ n z. z) (λ d z. z) d z);
        opens = λ d z. absurd z;
        spared = λ d j b n z.
            let e₁ = z.0 in
            let k = own_one p (reactor m o) j i (rw e₁ at z.1) in
            not_behind p v (rw (e₁, k) at b);
        fits = λ d l t k z n.
            let e₁ = z.0 in
            let e₂ = z.1 in
            absurd (plain (rw (e₁, e₂, cmd_there p (reactor m o) i h) at n));
        in_d = λ d j t k. d_slot d j t k (same? d o) (same? j i);
        polys = λ d j a e t k c z.
            let e₁ = z.0 in
            let y = own_one p (reactor m o) j i (rw e₁ at z.1) in
            absurd (no_poly a e (rw (e₁, y) at c));
        keeps = λ d j a b k z.
            let e₁ = z.0 in
            let y = own_one p (reactor m o) j i (rw e₁ at z.1) in
            rw (e₁, y) (inl (i + 1, top refl refl, omega arith));
        new = new;
        wires = λ d z. absurd z;
      })
      (λ d z. z)
    where
      q : Piled p m (frame o i ∷ fs) ns
      q = v.piled

      renewed : Renewed p m m' N (Behind p m' (frame o (i + 1) ∷ fs) ns) o i
      renewed =
          record {
            right = right;
            back = back;
            forth = λ d n z.
                absurd (n (blank_names p (v.mid.fresh o i t₀ ((top_frame p v).raw low) low (not_behind p v)) z));
            behind = inl (i + 1, top refl refl, omega arith);
          }

      d_slot : (d j : ℕ) → Deployed p m d → j < commands_d p (reactor m d) → (d ≡ o) ⊎ (d ≢ o) → (j ≡ i) ⊎ (j ≢ i) →
          Same p m m' d (own p m d j)
          ⊎ (Renewed p m m' N (Behind p m' (frame o (i + 1) ∷ fs) ns) d j × (d ≡ o) × (j ≡ i))
      d_slot d j t k (inl e) (inl f) = inr (rw (e, f) renewed, e, f)
      d_slot d j t k (inr n) f = inl (unwritten p ch d (own p m d j) t (slot_d p (reactor m d) j k) (λ z. n z.0))
      d_slot d j t k (inl e) (inr n) = inl (unwritten p ch d (own p m d j) t (slot_d p (reactor m d) j k)
          (λ z. let y = z.1 in n (own_one p (reactor m o) j i (rw e at y))))

  pub point_outcome : (x : ℕ) (rd : List ℕ) → cmd p m o i ≡ make_poly x → Outcome p w m o i fs (make_poly x)
      (notes_of p m o i (make_poly x) ++ ns) (exec p rd (suc (length fs)) m o i (make_poly x))
  unfolding notes_of exec
  point_outcome x rd e =
      record {
        inv = makes ((static_here p u v h).points i x h e).0 s.change (rw e (λ z. z))
            (λ a b z. let y : ◌≡◌ {A = ℕ} 0 1 = cc in omega arith)
            (rw e (record { marked = s.mark_here; chain = rw s.content_here empty }))
            (λ d t z. absurd (nothing z)) (λ d z. absurd z);
        forth = onward p s.change;
        grown = no_words s.same (λ q a. allocation_deploys a);
        wrote = own_writes p s.change (λ d z. absurd z);
        gave = tt;
      }
    where
      s : Stored p m o (own p m o i) (value point_mark 0) (store p m o (own p m o i) (value point_mark 0))
      s = stored p m o (own p m o i) (value point_mark 0) v.mid.good t₀ (slot_here (takes_point e))

      nothing : {d : ℕ} → Names p (store p m o (own p m o i) (value point_mark 0)) o i d → ⊥
      nothing (by_mono y q ct) =
          let q' : cmd p m o i ≡ alloc_mono y = rw (s.change.reactors o t₀) at q in
          not_mono y x (sym q' ∙ e)
      nothing (by_point y q oc) = no_chain p (rw (s.change.reactors o t₀) s.content_here) oc

  pub cell_outcome : (x a : ℕ) (rd : List ℕ) → cmd p m o i ≡ cell x a →
      Outcome p w m o i fs (cell x a) (notes_of p m o i (cell x a) ++ ns) (exec p rd (suc (length fs)) m o i (cell x a))
  unfolding notes_of exec
  cell_outcome x a rd e =
      record {
        inv = makes f.0 s.change (rw e (λ z. z)) (λ b c z. let y : ◌≡◌ {A = ℕ} 0 1 = cc in omega arith)
            (rw e (record { holds = rw filled (inr (refl, f.3)) }))
            (λ d t z. absurd (nothing z)) (λ d z. absurd z);
        forth = onward p s.change;
        grown = no_words s.same (λ q b. allocation_deploys b);
        wrote = own_writes p s.change (λ d z. absurd z);
        gave = filled;
      }
    where
      f : (i < commands_d p (reactor m o)) × (kind_of p (reactor m o) (own p m o i) ≡ x) × (x ≤ truth_kind) × Content p x a
      f = (static_here p u v h).cells i x a h e

      m' : List ℕ
      m' = store p m o (own p m o i) (value (mark_of x) a)

      s : Stored p m o (own p m o i) (value (mark_of x) a) m'
      s = stored p m o (own p m o i) (value (mark_of x) a) v.mid.good t₀ (slot_here (takes_cell e))

      filled : value_at p m' o (own p m o i) ≡ value (mark_of x) a
      filled = stored_value p s

      nothing : {d : ℕ} → Names p m' o i d → ⊥
      nothing (by_mono y q ct) =
          let q' : cmd p m o i ≡ alloc_mono y = rw (s.change.reactors o t₀) at q in
          let z : ◌≡◌ {A = ℕ} 0 1 = cc in
          omega arith
      nothing (by_point y q oc) =
          let q' : cmd p m o i ≡ make_poly y = rw (s.change.reactors o t₀) at q in
          not_cell x a y (sym e ∙ q')

  -- ---- a new deployment at the end of the words

  -- the height of the pile, where there is one more level
  pub shallow : (most_depth <? suc (length fs) + 1) ≡ false →
      (suc (length fs) + 1 ≢ 65) × (length fs + 1 + 1 ≤ most_depth)
  shallow e = let l : suc (length fs) + 1 ≤ most_depth = lt×? e in (omega arith, omega arith)

  pub out_of_depth : (most_depth <? suc (length fs) + 1) ≡ true → suc (length fs) + 1 ≡ 65
  out_of_depth e =
      let l : most_depth < suc (length fs) + 1 = lt? e in
      let k : suc (length fs) ≤ most_depth = height_bound p v in
      omega arith

  pub below : o < used m
  below = in_below p t₀

  pub has_room : (q : ℕ) → (size_of p q ≤? length m - used m) ≡ true → used m + size_of p q ≤ length m
  has_room q e = let l : size_of p q ≤ length m - used m = le? e in let k = v.mid.good.fits in omega arith

  -- what a new one is that command i makes, and D command j of o names
  pub new_own : {m' : List ℕ} {ns' : List Note} (j : ℕ) → Deploys (cmd p m o i) → reactor m' o ≡ reactor m o →
      wired m' (used m) ≡ 0 → ((l : ℕ) → HasSlot p (reactor m' (used m)) l → value_at p m' (used m) l ≡ blank) →
      Owner p m' o j (used m) → length fs + 1 + 1 ≤ most_depth → mark p m' o here ≡ deployment_mark →
      content p m' o here ≡ used m → New p m m' (Behind p m' (frame o (i + 1) ∷ fs) ns') (used m)
  new_own j makes same raw blanks owned enough marked names =
      record {
        absent = λ t. omega (arith, in_below p t);
        raw = raw;
        empty = blanks;
        parent = (o, j, length fs + 1, owned, (lower_heights p v.piled.heights).0, enough);
        cause = record {
          owner = o;
          command = i;
          operand = here;
          behind = inl (i + 1, top refl refl, omega arith);
          marked = marked;
          names = names;
          is = (rw same refl, rw same makes);
        };
      }

  module _ (x : ℕ) (e : cmd p m o i ≡ alloc_mono x) (room : used m + size_of p x ≤ length m)
      (enough : length fs + 1 + 1 ≤ most_depth) where
    abbrev m' : List ℕ
    m' = store p (deploy p m x 0) o here (value deployment_mark (used m))

    z : (i < commands_d p (reactor m o)) × (x < reactors p) × (x < reactor m o)
    z = (static_here p u v h).monos i x h e

    g : Grown p m x 0 o here (value deployment_mark (used m)) m'
    g = grown p m x 0 o here (value deployment_mark (used m)) v.mid.good z.1 room t₀ (slot_here (takes_mono e))

    r' : reactor m' o ≡ reactor m o
    r' = g.change.reactors o t₀

    right : MonoSlot p m' o here x
    right =
        let c = g.content_here in
        record {
          marked = g.mark_here;
          child = rw c g.new;
          its = rw c g.reactor_new;
          alone = rw c g.next_new;
          above = rw c below;
        }

    named : {d : ℕ} → Names p m' o i d → d ≡ used m
    named (by_mono y q ct) = sym ct ∙ rw r' g.content_here
    named (by_point y q oc) = let q' : cmd p m o i ≡ make_poly y = rw r' at q in absurd (not_mono x y (sym e ∙ q'))

    new : (d : ℕ) → d ≡ used m → New p m m' (Behind p m' (frame o (i + 1) ∷ fs) ns) d
    new d n =
        rw n
        (new_own i (rw e tt) r' g.wired_new g.blank_new
        (record {
          deployed = g.change.kept o t₀;
          low = rw r' z.0;
          names = by_mono x (rw r' e) (rw r' g.content_here);
        })
        enough g.mark_here g.content_here)

    mono_made : Inv p w (state m' (frame o (i + 1) ∷ fs) ns) × Onward p m m' × (used m' ≡ used m + size_of p x)
        × Writes p m m' o i
    mono_made = (
      makes {N = λ d. d ≡ used m} z.0 g.change (rw e (λ z. z))
          (λ a b z. let y : ◌≡◌ {A = ℕ} 0 1 = cc in omega arith) (rw e right)
          (λ d t n. inr (named n)) new,
      onward p g.change,
      g.larger,
      own_writes p g.change (λ d n. ap (wired m') n ∙ g.wired_new),
    )

  pub mono_outcome : (x : ℕ) (rd : List ℕ) → cmd p m o i ≡ alloc_mono x →
      (a b : Bool) → (most_depth <? suc (length fs) + 1) ≡ a → (size_of p x ≤? length m - used m) ≡ b →
      Outcome p w m o i fs (alloc_mono x) ns (allocated p rd (suc (length fs)) m o i a b x)
  unfolding allocated
  mono_outcome x rd e true b f g = deep x mono (out_of_depth f)
  mono_outcome x rd e false false f g = full x mono (shallow f).0 (le×? g)
  mono_outcome x rd e false true f g =
      let k = mono_made x e (has_room x g) (shallow f).1 in
      record { inv = k.0; forth = k.1; grown = words x mono k.2 (shallow f).0 (le? g); wrote = k.3; gave = tt }
