-- A step keeps what holds in the middle of a turn: `mid_turn_kept` takes from `Step` what each part of it needs.
use Rattle.std.specs.Prelude.{ℕ, ◌+◌, ◌≤◌, ◌<◌, ◌≡◌, refl, ◌⊎◌, ◌≢◌, true, List}
use Rattle.std.proofs.Common.{sym, ◌∙◌, inl, inr, arith}
use Rattle.value.specs.Value.{blank}
use Rattle.program.specs.Bytes.{reactors, commands_d, commands_in}
use Rattle.program.specs.Command.{Cmd, takes_words, cmd_of, alloc_mono, make_poly, supply, react}
use Rattle.program.specs.Command.{sink, alloc_poly, cell, keep, none, gives}
use Rattle.program.specs.Location.{source_count, command_loc, sink_loc, HasSlot, cmd_at}
use Rattle.program.specs.Kind.{kind_of, OfKind}
use Rattle.program.proofs.Slots.{slot_d, slot_command, takes_mono, takes_poly, takes_cell, takes_keep}
use Rattle.load.proofs.Exact.Static.{DeploymentBefore, mono, poly, Static, Single}
use Rattle.image.specs.Memory.{most_depth, main_at, reactor, wired, content, value_at}
use Rattle.image.specs.Sound.{Deployed, OnChain, head, tail, Names, by_mono, by_point, Owner, Depth, child}
use Rattle.image.proofs.Memory.Tiles.{in_ge, in_reactor}
use Rattle.image.proofs.Memory.Changes.{Same, Change, unwritten, same_value, stays}
use Rattle.image.proofs.Memory.Slots.{SlotRight, MadeOrBlank, blank_names, made_names, mono_kept, cell_kept, right_kept}
use Rattle.image.proofs.Memory.Slots.{names_back, names_forth, depth_forth, made_begun}
use Rattle.remus.specs.Walk.{Note, location}
use Rattle.remus.specs.Point.{◌∈◌}
use Rattle.remus.proofs.Walk.ChangeParts.{old_or_new}
use Rattle.remus.proofs.Walk.MidTurn.{Valued, Deploys, own, cmd, Chosen, Noted, Pends, KeepAt, Done, Cause}
use Rattle.remus.proofs.Walk.MidTurn.{Supplying, Reacting, Making, MidTurn}
use Rattle.remus.proofs.Walk.Locations.{not_mono, not_poly, not_cell, not_keep}
use Rattle.remus.proofs.Walk.Step.{Renewed, Step}

module _ (p : List ℕ) where
  not_point : (c : Cmd) → Deploys c → (x : ℕ) → c ≢ make_poly x
  not_point c h x e = rw e at h

  deploys_takes : (c : Cmd) → Deploys c → takes_words c ≡ true
  unfolding takes_words
  deploys_takes (cell _ v) h = elim h [ ]
  deploys_takes (keep a b) h = elim h [ ]
  deploys_takes (alloc_mono x) h = refl
  deploys_takes (make_poly x) h = refl
  deploys_takes (gives y) h = refl
  deploys_takes (supply x a b) h = absurd h
  deploys_takes (react b) h = absurd h
  deploys_takes (sink x a) h = absurd h
  deploys_takes (alloc_poly a b) h = refl
  deploys_takes none h = refl

  module _
      (st : (r : ℕ) → r < reactors p → Static p r × Single p r)
      {m m' : List ℕ} {ns ns' : List Note} {B B' : ℕ → ℕ → Type 0} {E E' : ℕ → Type 0}
      {W T F : ℕ → ℕ → Type 0} {N L G : ℕ → Type 0} {o₀ j₀ : ℕ}
      (s : MidTurn p m ns B E) (c : Step p m m' ns ns' B B' E E' W T F N L G o₀ j₀)
    where
      ch : Change p W N L m m'
      ch = c.change

      static : (o : ℕ) → Deployed p m o → Static p (reactor m o)
      static o t = (st (reactor m o) (in_reactor p s.good.tiles t)).0

      -- the slot of a command that is behind stays, but a branch point's
      slot_kept : (o j : ℕ) → B o j → takes_words (cmd p m o j) ≡ true → ((x : ℕ) → cmd p m o j ≢ make_poly x)
          → Same p m m' o (own p m o j)
      slot_kept o j b takes n =
          let q = s.scope o j b in
          unwritten p ch o (own p m o j) q.0 (slot_command p (reactor m o) j q.1 takes) (c.spared o j b n)

      operand_kept_lem : (o j h b : ℕ) → B o j → DeploymentBefore p (reactor m o) j h b → Same p m m' o b
      operand_kept_lem o j h b k (mono i x l e q z) =
          rw e (slot_kept o i (s.lower o j i k l) (takes_mono q) (λ y. rw q (not_mono x y)))
      operand_kept_lem o j h b k (poly i a d l e q z) =
          rw e (slot_kept o i (s.lower o j i k l) (takes_poly q) (λ y. rw q (not_poly a d y)))

      supply_kept : (x o j b : ℕ) → B o j → Supplying p x (reactor m o) j b → Same p m m' o b
      supply_kept x o j b k q =
          let w = s.scope o j k in
          let f = (static o w.0).supplies j x q.0 b w.1 q.1 in
          operand_kept_lem o j f.1.0 b k f.1.1

      react_kept : (o j b : ℕ) → B o j → Reacting p (reactor m o) j b → Same p m m' o b
      react_kept o j b k q =
          let w = s.scope o j k in let f = (static o w.0).reacts j b w.1 q in operand_kept_lem o j f.0 b k f.1

      making_kept : (o j b : ℕ) → B o j → Making p (reactor m o) j b → Same p m m' o b
      making_kept o j b k q =
          let e = q.0 in
          let c = cmd p m o j in
          rw e (slot_kept o j k (deploys_takes c q.1) (not_point c q.1))

      cause_kept : (Q : ℕ → ℕ → ℕ → Type 0) → ((o j b : ℕ) → B o j → Q (reactor m o) j b → Same p m m' o b) → {d : ℕ}
          → Cause p m B Q d → Cause p m' B' Q d
      cause_kept Q f k =
          let z = f k.owner k.command k.operand k.behind k.is in
          record {
            owner = k.owner;
            command = k.command;
            operand = k.operand;
            behind = c.more_behind k.owner k.command k.behind;
            marked = z.marks ∙ k.marked;
            names = z.contents ∙ k.names;
            is = rw (ch.reactors k.owner (s.scope k.owner k.command k.behind).0) k.is;
          }

      right_now : (o j : ℕ) → Deployed p m o → j < commands_d p (reactor m o)
          → SlotRight p m o (own p m o j) (cmd p m o j) → SlotRight p m' o (own p m o j) (cmd p m o j)
      right_now o j t h k = by (c.in_d o j t h)
        where
          by : Same p m m' o (own p m o j) ⊎ (Renewed p m m' N B' o j × (o ≡ o₀) × (j ≡ j₀))
              → SlotRight p m' o (own p m o j) (cmd p m o j)
          by (inl z) = right_kept p (stays p ch) o (own p m o j) (cmd p m o j) z k
          by (inr z) = z.0.right

      pends_kept : (o l b : ℕ) → Deployed p m o → Same p m m' o l → Pends p m o l b → Pends p m' o l b
      pends_kept o l b t z d =
          let e = same_value p o l z in
          record { full = rw e d.full; kind = rw (ch.reactors o t, e) d.kind }

      done_kept : (o j : ℕ) → B o j → (x : Cmd) → cmd p m o j ≡ x → Done p m ns E o (own p m o j) x
          → Done p m' ns' E' o (own p m o j) x
      done_kept o j k (alloc_mono x) e d =
          mono_kept p (stays p ch) (slot_kept o j k (takes_mono e) (λ y. rw e (not_mono x y))) d
      done_kept o j k (make_poly x) e d =
          let w = s.scope o j k in
          let r : SlotRight p m' o (own p m o j) (cmd p m o j) =
          right_now o j w.0 ((static o w.0).points j x w.1 e).0 (rw e d) in
          rw e at r
      done_kept o j k (cell x v) e d =
          cell_kept p (stays p ch) (slot_kept o j k (takes_cell e) (λ y. rw e (not_cell x v y))) d
      done_kept o j k (gives g) e d = c.more_notes _ d
      done_kept o j k (supply x a b) e d = λ q.
          let z = supply_kept x o j b k (a, e) in
          rw z.contents (c.more_notes _ (d (rw z.marks at q)))
      done_kept o j k (react b) e d = λ q.
          let z = react_kept o j b k e in
          rw z.contents (c.more_entered _ (d (rw z.marks at q)))
      done_kept o j k (sink x a) e d = rw (ch.reactors o (s.scope o j k).0) (c.more_notes _ d)
      done_kept o j k (alloc_poly a b) e d = c.more_notes _ d
      done_kept o j k (keep a b) e d =
          let same = slot_kept o j k (takes_keep e) (λ y. rw e (not_keep a b y)) in
          pends_kept o (own p m o j) b (s.scope o j k).0 same d
      done_kept o j k none e d = tt

      -- owners, back and forth
      owner_back : (o j d : ℕ) → Deployed p m' d → Owner p m' o j d → Owner p m o j d ⊎ (N d × (o ≡ o₀) × (j ≡ j₀))
      owner_back o j d t' w = by (ch.back o w.deployed)
        where
          by : Deployed p m o ⊎ N o → Owner p m o j d ⊎ (N d × (o ≡ o₀) × (j ≡ j₀))
          by (inr n) =
              let z = blank_names p ((c.new o n).empty (own p m' o j) (slot_d p (reactor m' o) j w.low))
              w.names in
              absurd (let q = in_ge p t' in omega arith)
          by (inl t) = side (c.in_d o j t low)
            where
              low : j < commands_d p (reactor m o)
              low = rw (ch.reactors o t) at w.low

              named : Names p m o j d ⊎ N d → (o ≡ o₀) × (j ≡ j₀) → Owner p m o j d ⊎ (N d × (o ≡ o₀) × (j ≡ j₀))
              named (inl n) z = inl (record { deployed = t; low = low; names = n })
              named (inr n) z = inr (n, z.0, z.1)

              side : Same p m m' o (own p m o j) ⊎ (Renewed p m m' N B' o j × (o ≡ o₀) × (j ≡ j₀))
                  → Owner p m o j d ⊎ (N d × (o ≡ o₀) × (j ≡ j₀))
              side (inl z) = inl (record {
                deployed = t;
                low = low;
                names = names_back p (stays p ch) j t z (made_begun p m o j (s.made o j t low)) w.names;
              })
              side (inr z) = named (z.0.back d t' w.names) (z.1, z.2)

      pub owner_forth : (o j d : ℕ) → d ≢ 0 → Owner p m o j d → Owner p m' o j d
      owner_forth o j d n w =
          record { deployed = ch.kept o t; low = rw (ch.reactors o t) w.low; names = by (c.in_d o j t w.low) }
        where
          t : Deployed p m o
          t = w.deployed

          by : Same p m m' o (own p m o j) ⊎ (Renewed p m m' N B' o j × (o ≡ o₀) × (j ≡ j₀)) → Names p m' o j d
          by (inl z) = names_forth p (stays p ch) j t z (made_begun p m o j (s.made o j t w.low)) w.names
          by (inr z) = z.0.forth d n w.names

      one_owner' : (o j o' j' d : ℕ) → Deployed p m' d → Owner p m' o j d → Owner p m' o' j' d → (o ≡ o') × (j ≡ j')
      one_owner' o j o' j' d t' v w = by (owner_back o j d t' v) (owner_back o' j' d t' w)
        where
          old : {a b : ℕ} → Owner p m a b d → Deployed p m d
          old {a} {b} z =
              (made_names p (s.made a b z.deployed z.low) (let q = in_ge p t' in omega arith) z.names).0

          by : Owner p m o j d ⊎ (N d × (o ≡ o₀) × (j ≡ j₀))
              → Owner p m o' j' d ⊎ (N d × (o' ≡ o₀) × (j' ≡ j₀)) → (o ≡ o') × (j ≡ j')
          by (inl x) (inl y) = s.one_owner o j o' j' d (old x) x y
          by (inl x) (inr y) = absurd ((c.new d y.0).absent (old x))
          by (inr x) (inl y) = absurd ((c.new d x.0).absent (old y))
          by (inr x) (inr y) = (x.1 ∙ sym y.1, x.2 ∙ sym y.2)

      two' : (d : ℕ) → Deployed p m' d → (wired m' d ≡ 0) ⊎ (wired m' d ≡ 1)
      two' d t' = by (ch.back d t')
        where
          by : Deployed p m d ⊎ N d → (wired m' d ≡ 0) ⊎ (wired m' d ≡ 1)
          by (inr n) = inl (c.new d n).raw
          by (inl t) = side (ch.wireds d t)
            where
              side : (wired m' d ≡ wired m d) ⊎ L d → (wired m' d ≡ 0) ⊎ (wired m' d ≡ 1)
              side (inl e) = rw e (s.two d t)
              side (inr l) = inr (c.wires d l).0

      made' : (o j : ℕ) → Deployed p m' o → j < commands_d p (reactor m' o) → MadeOrBlank p m' o j
      made' o j t' =
          old_or_new p ch (λ r. j < commands_d p r
          → SlotRight p m' o (command_loc p r j) (cmd_of p r j) ⊎ (value_at p m' o (command_loc p r j) ≡ blank)) o t'
          (λ t h. side (c.in_d o j t h) (s.made o j t h))
          (λ n h. inr ((c.new o n).empty (own p m' o j) (slot_d p (reactor m' o) j h)))
        where
          side : Same p m m' o (own p m o j) ⊎ (Renewed p m m' N B' o j × (o ≡ o₀) × (j ≡ j₀)) → MadeOrBlank p m o j →
              SlotRight p m' o (own p m o j) (cmd p m o j) ⊎ (value_at p m' o (own p m o j) ≡ blank)
          side (inr z) k = inl z.0.right
          side (inl z) (inl k) = inl (right_kept p (stays p ch) o (own p m o j) (cmd p m o j) z k)
          side (inl z) (inr k) = inr (same_value p o (own p m o j) z ∙ k)

      slots' : (o j : ℕ) → Deployed p m' o → wired m' o ≡ 1 → j < commands_d p (reactor m' o)
          → SlotRight p m' o (own p m' o j) (cmd p m' o j)
      slots' o j t' v =
          old_or_new p ch (λ r. j < commands_d p r → SlotRight p m' o (command_loc p r j) (cmd_of p r j)) o t'
          (λ t h. right_now o j t h (side t h (ch.wireds o t)))
          (λ n h. absurd (let z = (c.new o n).raw in omega arith))
        where
          side : Deployed p m o → j < commands_d p (reactor m o) → (wired m' o ≡ wired m o) ⊎ L o
              → SlotRight p m o (own p m o j) (cmd p m o j)
          side t h (inl z) = s.slots o j t (rw z at v) h
          side t h (inr l) = (c.wires o l).1 j h

      fresh' : (o j : ℕ) → Deployed p m' o → wired m' o ≡ 0 → j < commands_d p (reactor m' o) → (B' o j → ⊥)
          → value_at p m' o (own p m' o j) ≡ blank
      fresh' o j t' v h n =
          old_or_new p ch (λ r. j < commands_d p r → value_at p m' o (command_loc p r j) ≡ blank) o t'
          (λ t l. side t l (c.in_d o j t l) (wire (ch.wireds o t)))
          (λ k l. (c.new o k).empty (own p m' o j) (slot_d p (reactor m' o) j l))
          h
        where
          wire : (wired m' o ≡ wired m o) ⊎ L o → wired m o ≡ 0
          wire (inl z) = rw z at v
          wire (inr l) = absurd (let z = (c.wires o l).0 in omega arith)

          side : Deployed p m o → j < commands_d p (reactor m o)
              → Same p m m' o (own p m o j) ⊎ (Renewed p m m' N B' o j × (o ≡ o₀) × (j ≡ j₀))
              → wired m o ≡ 0 → value_at p m' o (own p m o j) ≡ blank
          side t l (inl z) u = same_value p o (own p m o j) z ∙ s.fresh o j t u l (λ k. n (c.more_behind o j k))
          side t l (inr z) u = absurd (n z.0.behind)

      polys' : (o j a e : ℕ) → Deployed p m' o → j < commands_in p (reactor m' o) → cmd p m' o j ≡ alloc_poly a e
          → Chosen p m' o (own p m' o j) e
      polys' o j a e t' =
          old_or_new p ch
          (λ r. j < commands_in p r → cmd_of p r j ≡ alloc_poly a e → Chosen p m' o (command_loc p r j) e) o t' old
          (λ n h q. inl ((c.new o n).empty (own p m' o j) (slot_command p (reactor m' o) j h (takes_poly q))))
        where
          old : Deployed p m o → j < commands_in p (reactor m o) → cmd p m o j ≡ alloc_poly a e
              → Chosen p m' o (own p m o j) e
          old t h q = side (ch.slots o (own p m o j) t (slot_command p (reactor m o) j h (takes_poly q)))
            where
              r : reactor m' o ≡ reactor m o
              r = ch.reactors o t

              -- the branch point is D command i
              onward : (i x d : ℕ) → i < commands_d p (reactor m o) → e ≡ own p m o i → cmd p m o i ≡ make_poly x →
                  OnChain p m (content p m o e) d → d ≢ 0 → OnChain p m' (content p m' o e) d
              onward i x d l f z oc n = out (owner_forth o i d n
                  (record { deployed = t; low = l; names = by_point x z (rw (← f) oc) })).names
                where
                  out : Names p m' o i d → OnChain p m' (content p m' o e) d
                  out (by_mono y u v) =
                      let u' : cmd p m o i ≡ alloc_mono y = rw r at u in
                      absurd (not_mono y x (sym u' ∙ z))
                  out (by_point y u v) = rw f (rw r at v)

              above : (d : ℕ) → OnChain p m (content p m o e) d → d ≢ 0
              above d i = away i
                where
                  away : {b : ℕ} → OnChain p m b d → d ≢ 0
                  away (head n) = n
                  away (tail n z) = away z

              kept : Same p m m' o (own p m o j) → Chosen p m o (own p m o j) e → Chosen p m' o (own p m o j) e
              kept z (inl b) = inl (same_value p o (own p m o j) z ∙ b)
              kept z (inr k) =
                  let f = ((static o t).polys j a e h q).1 in
                  let g = f.1 in
                  inr (
                    z.marks ∙ k.0,
                    rw z.contents (onward g.0 f.0 (content p m o (own p m o j)) g.2 g.3 g.4
                        k.1 (above _ k.1)),
                  )

              side : Same p m m' o (own p m o j) ⊎ W o (own p m o j) → Chosen p m' o (own p m o j) e
              side (inl z) = kept z (s.polys o j a e t h q)
              side (inr z) = c.polys o j a e t h q z

      depth' : (d : ℕ) → Deployed p m' d → (k : ℕ) × Depth p m' d k × (k ≤ most_depth)
      depth' d t' = by (ch.back d t')
        where
          by : Deployed p m d ⊎ N d → (k : ℕ) × Depth p m' d k × (k ≤ most_depth)
          by (inr n) =
              let z = (c.new d n).parent in (
                z.2 + 1,
                child z.1 z.3
                    (depth_forth p owner_forth (let q = in_ge p z.3.deployed in omega arith) z.4),
                z.5,
              )
          by (inl t) =
              let q = s.depth d t in
              (q.0, depth_forth p owner_forth (let z = in_ge p t in omega arith) q.1, q.2)

      scope' : (o j : ℕ) → B' o j → Deployed p m o × (j < commands_in p (reactor m o))
      scope' o j b = by (c.new_behind o j b)
        where
          by : B o j ⊎ F o j → Deployed p m o × (j < commands_in p (reactor m o))
          by (inl k) = s.scope o j k
          by (inr k) = c.scope o j k

      done' : (o j : ℕ) → B' o j → Done p m' ns' E' o (own p m' o j) (cmd p m' o j)
      done' o j b = rw (ch.reactors o (scope' o j b).0) (by (c.new_behind o j b))
        where
          by : B o j ⊎ F o j → Done p m' ns' E' o (own p m o j) (cmd p m o j)
          by (inl k) = done_kept o j k (cmd p m o j) refl (s.done o j k)
          by (inr k) = c.done o j k

      -- a slot that is noted, and its deployment
      where_noted : (d l : ℕ) → (location d l ∈ ns) ⊎ T d l → Deployed p m d × HasSlot p (reactor m d) l
      where_noted d l (inl i) = let n = s.noted d l i in (n.deployed, n.has_slot)
      where_noted d l (inr t) = let n = c.inside d l t in (n.1, n.2)

      noted' : (d l : ℕ) → location d l ∈ ns' → Noted p m' d l
      noted' d l i =
          let w = where_noted d l (c.new_note d l i) in
          let e = ch.reactors d w.0 in
          record { deployed = ch.kept d w.0; has_slot = rw e w.1; kind = rw e (by w (c.new_note d l i)) }
        where
          by : Deployed p m d × HasSlot p (reactor m d) l → (location d l ∈ ns) ⊎ T d l →
              Valued (cmd_at p (reactor m d) l) → OfKind p (kind_of p (reactor m d) l) (value_at p m' d l)
          by w (inr t) = fresh (c.inside d l t).0
            where
              fresh : W d l ⊎ (Valued (cmd_at p (reactor m d) l) → ⊥) → Valued (cmd_at p (reactor m d) l)
                  → OfKind p (kind_of p (reactor m d) l) (value_at p m' d l)
              fresh (inl z) q = c.fits d l w.0 w.1 z q
              fresh (inr n) q = absurd (n q)
          by w (inl k) = side (ch.slots d l w.0 w.1)
            where
              side : Same p m m' d l ⊎ W d l → Valued (cmd_at p (reactor m d) l)
                  → OfKind p (kind_of p (reactor m d) l) (value_at p m' d l)
              side (inl z) = rw (same_value p d l z) (s.noted d l k).kind
              side (inr z) = c.fits d l w.0 w.1 z

      entered' : (d : ℕ) → E' d → Deployed p m d
      entered' d e = by (c.new_entered d e)
        where
          by : E d ⊎ G d → Deployed p m d
          by (inl k) = s.entered d k
          by (inr k) = (c.opens d k).deployed

      given' : (d x : ℕ) → E' d → x < source_count p (reactor m d) → location d x ∈ ns'
      given' d x e h = by (c.new_entered d e)
        where
          by : E d ⊎ G d → location d x ∈ ns'
          by (inl k) = c.more_notes _ (s.given d x k h)
          by (inr k) = (c.opens d k).given x h

      supplied' : (d x : ℕ) → location d x ∈ ns' → x < source_count p (reactor m' d) → Cause p m' B' (Supplying p x) d
      supplied' d x i h = by (c.new_note d x i) (rw (ch.reactors d (where_noted d x (c.new_note d x i)).0) at h)
        where
          by : (location d x ∈ ns) ⊎ T d x → x < source_count p (reactor m d) → Cause p m' B' (Supplying p x) d
          by (inl k) l = cause_kept (Supplying p x) (supply_kept x) (s.supplied d x k l)
          by (inr k) l = c.supplies d x k l

      opened' : (d : ℕ) → E' d → (d ≡ main_at) ⊎ Cause p m' B' (Reacting p) d
      opened' d e = by (c.new_entered d e)
        where
          old : (d ≡ main_at) ⊎ Cause p m B (Reacting p) d → (d ≡ main_at) ⊎ Cause p m' B' (Reacting p) d
          old (inl z) = inl z
          old (inr z) = inr (cause_kept (Reacting p) react_kept z)

          by : E d ⊎ G d → (d ≡ main_at) ⊎ Cause p m' B' (Reacting p) d
          by (inl k) = old (s.opened d k)
          by (inr k) = inr (c.opens d k).cause

      sunk' : (d x : ℕ) → location d (sink_loc p (reactor m' d) x) ∈ ns'
          → (j : ℕ) × (a : ℕ) × B' d j × (cmd p m' d j ≡ sink x a)
      sunk' d x i = rw e (by (c.new_note d (sink_loc p (reactor m d) x) (rw e at i)))
        where
          e : reactor m' d ≡ reactor m d
          e = ch.reactors d
              (where_noted d (sink_loc p (reactor m' d) x) (c.new_note d (sink_loc p (reactor m' d) x) i)).0

          by : (location d (sink_loc p (reactor m d) x) ∈ ns) ⊎ T d (sink_loc p (reactor m d) x)
              → (j : ℕ) × (a : ℕ) × B' d j × (cmd p m d j ≡ sink x a)
          by (inl k) = let q = s.sunk d x k in (q.0, q.1, c.more_behind d q.0 q.2, q.3)
          by (inr k) = c.sinks_in d x k

      noted_cell' : (d b x v : ℕ) → location d b ∈ ns' → cmd_at p (reactor m' d) b ≡ cell x v
          → (j : ℕ) × (a : ℕ) × B' d j × (cmd p m' d j ≡ keep a b)
      noted_cell' d b x v i q = rw e (by (c.new_note d b i))
        where
          e : reactor m' d ≡ reactor m d
          e = ch.reactors d (where_noted d b (c.new_note d b i)).0

          by : (location d b ∈ ns) ⊎ T d b → (j : ℕ) × (a : ℕ) × B' d j × (cmd p m d j ≡ keep a b)
          by (inl k) = let y = s.noted_cell d b x v k (rw e at q) in (y.0, y.1, c.more_behind d y.0 y.2, y.3)
          by (inr k) = c.keeps_in d b x v k (rw e at q)

      idle' : (o j a b : ℕ) → KeepAt p m' o j a b → (B' o j → ⊥) → value_at p m' o (own p m' o j) ≡ blank
      idle' o j a b k n =
          old_or_new p ch
          (λ r. j < commands_in p r → cmd_of p r j ≡ keep a b → value_at p m' o (command_loc p r j) ≡ blank) o k.deployed
          (λ t l e.
          side (record { deployed = t; inside = l; is = e })
          (ch.slots o (own p m o j) t (slot_command p (reactor m o) j l (takes_keep e))))
          (λ z l e. (c.new o z).empty (own p m' o j) (slot_command p (reactor m' o) j l (takes_keep e)))
          k.inside k.is
        where
          side : KeepAt p m o j a b → Same p m m' o (own p m o j) ⊎ W o (own p m o j)
              → value_at p m' o (own p m o j) ≡ blank
          side i (inl z) = same_value p o (own p m o j) z ∙ s.idle o j a b i (λ y. n (c.more_behind o j y))
          side i (inr z) = absurd (n (c.keeps o j a b i z))

      born' : (d : ℕ) → Deployed p m' d → wired m' d ≡ 0 → (d ≡ main_at) ⊎ Cause p m' B' (Making p) d
      born' d t' v = by (ch.back d t')
        where
          old : (d ≡ main_at) ⊎ Cause p m B (Making p) d → (d ≡ main_at) ⊎ Cause p m' B' (Making p) d
          old (inl z) = inl z
          old (inr z) = inr (cause_kept (Making p) making_kept z)

          by : Deployed p m d ⊎ N d → (d ≡ main_at) ⊎ Cause p m' B' (Making p) d
          by (inr n) = inr (c.new d n).cause
          by (inl t) = side (ch.wireds d t)
            where
              side : (wired m' d ≡ wired m d) ⊎ L d → (d ≡ main_at) ⊎ Cause p m' B' (Making p) d
              side (inl z) = old (s.born d t (rw z at v))
              side (inr l) = absurd (let z = (c.wires d l).0 in omega arith)

      pub mid_turn_kept : MidTurn p m' ns' B' E'
      mid_turn_kept =
          record {
            good = ch.good;
            main = ch.kept main_at s.main;
            first = ch.reactors main_at s.main ∙ s.first;
            last = ch.nexts main_at s.main ∙ s.last;
            two = two';
            made = made';
            slots = slots';
            fresh = fresh';
            polys = polys';
            one_owner = one_owner';
            depth = depth';
            scope = λ o j b. let q = scope' o j b in (ch.kept o q.0, rw (ch.reactors o q.0) q.1);
            lower = c.lower;
            done = done';
            noted = noted';
            entered = λ d e. ch.kept d (entered' d e);
            given = λ d x e h. given' d x e (rw (ch.reactors d (entered' d e)) at h);
            supplied = supplied';
            opened = opened';
            sunk = sunk';
            noted_cell = noted_cell';
            idle = idle';
            born = born';
          }
