-- Each kind of step keeps the invariant, given what it does: a wiring (`ready_kept`), the topmost's next command
-- (`advance`), an opening (`call_kept`), a leaving (`leave_kept`).
use Rattle.std.specs.Prelude.{ℕ, suc, ◌+◌, ◌≤◌, ◌<◌, ◌≡◌, refl, ◌⊎◌, ◌≢◌, List, ◌∷◌}
use Rattle.std.proofs.Common.{sym, ◌∙◌, subst, inl, inr}
use Rattle.std.proofs.Math.Logic.{⊎_map}
use Rattle.std.specs.Prelude.{length}
use Rattle.std.proofs.Common.{arith}
use Rattle.value.specs.Test.{◌=?◌}
use Rattle.value.specs.Value.{deployment_mark}
use Rattle.value.proofs.Tests.{cases, eq!, eq×, eq?, eq×?, yes, no, same?}
use Rattle.program.specs.Bytes.{commands_d, commands_in}
use Rattle.program.specs.Command.{react}
use Rattle.program.specs.Location.{source_count, HasSlot}
use Rattle.image.specs.Memory.{main_at, used, reactor, wired, mark, content, with_wired}
use Rattle.image.specs.Sound.{Deployed, Owner, Depth, child}
use Rattle.image.proofs.Memory.Tiles.{in_reactor}
use Rattle.image.proofs.Memory.Each.{in_below}
use Rattle.image.proofs.Memory.Changes.{Same, same_self, Wired, Change, This-slot, No-slot, Nothing, unwritten, unwired}
use Rattle.image.proofs.Memory.Changes.{unchanged, wiring}
use Rattle.image.proofs.Memory.Slots.{SlotRight, depth_forth}
use Rattle.remus.specs.Exec.{opening, ready}
use Rattle.remus.specs.Walk.{Note, location, run, Frame}
use Rattle.remus.specs.Point.{◌∈◌, first, later}
use Rattle.remus.proofs.Walk.ChangeParts.{or_none}
use Rattle.remus.proofs.Walk.Facts.{Facts}
use Rattle.remus.proofs.Walk.MidTurn.{own, cmd, Done}
use Rattle.remus.proofs.Walk.MidTurnKept.{owner_forth, mid_turn_kept}
use Rattle.remus.proofs.Walk.Pile.{frame, state, Open, first as top, later as under, Falling, grounded, on, falls}
use Rattle.remus.proofs.Walk.Pile.{Entered, Behind, Between, behind_lower, stack, heights_forth, FrameOk, Piled}
use Rattle.remus.proofs.Walk.Pile.{Inv, not_zero}
use Rattle.remus.proofs.Walk.Top.{Onward, onward_self, onward, done_right, right_done, behind_on, behind_off}
use Rattle.remus.proofs.Walk.Top.{lower_falls, lower_heights, top_frame, top_only, opens_on, opens_off, run_out}
use Rattle.remus.proofs.Walk.Top.{next_entered, leave_forth, leave_back, call_forth, call_back}
use Rattle.remus.proofs.Walk.Step.{Opens, calm}

pub location_out : {d l o : ℕ} {ns : List Note} → location d l ∈ (run o ∷ ns) → location d l ∈ ns
location_out (later z) = z

higher : {u h : ℕ} {fs : List Frame} → u ≤ h → Falling u fs → Falling h fs
higher l grounded = grounded
higher {h = h} l (on {f = f} k z) = on {u = h} {f = f} (omega arith) z

-- how d is wired in the words m₁ before command i of o: as in m, or just now, the command being the first of R
abbrev pub NowWired : List ℕ → List ℕ → List ℕ → ℕ → ℕ → ℕ → Type 0
NowWired p m m₁ o i d = (wired m₁ d ≡ wired m d) ⊎ ((d ≡ o) × (i ≡ commands_d p (reactor m o)) × (wired m₁ d ≡ 1))

module _ (p : List ℕ) where
  pub opening_raw : (m : List ℕ) (d : ℕ) → wired m d ≡ 0 → opening p m d ≡ 0
  unfolding opening
  opening_raw m d e = sym (yes _ (eq! e) refl)

  pub opening-wired : (m : List ℕ) (d : ℕ) → wired m d ≡ 1 → opening p m d ≡ commands_d p (reactor m d)
  unfolding opening
  opening-wired m d e = sym (no _ (eq× (omega arith)) refl)

  -- a deployment as it is opened
  pub opening_frame : (m : List ℕ) (d : ℕ) → commands_d p (reactor m d) < commands_in p (reactor m d) → Deployed p m d →
      (wired m d ≡ 0) ⊎ (wired m d ≡ 1) → FrameOk p m d (opening p m d)
  opening_frame m d n t (inl e) =
      let f = opening_raw m d e in
      record { deployed = t; bound = omega arith; raw = λ l. e; wired_past = λ l. absurd (omega arith) }
  opening_frame m d n t (inr e) =
      let f = opening-wired m d e in
      record { deployed = t; bound = omega arith; raw = λ l. absurd (omega arith); wired_past = λ l. e }

  frame_on : {W : ℕ → ℕ → Type 0} {N L : ℕ → Type 0} {m m' : List ℕ} → Change p W N L m m' → (a k : ℕ) →
      FrameOk p m a k → wired m' a ≡ wired m a → FrameOk p m' a k
  frame_on c a k f e =
      let r = c.reactors a f.deployed in
      record {
        deployed = c.kept a f.deployed;
        bound = rw r f.bound;
        raw = λ l. e ∙ f.raw (rw r at l);
        wired_past = λ l. e ∙ f.wired_past (rw r at l);
      }

  module _ (u : Facts p) where
    -- ---- the topmost's next command

    module _ {w m m' : List ℕ} {ns ns' : List Note} {o i : ℕ} {fs : List Frame}
        {W T : ℕ → ℕ → Type 0} {N : ℕ → Type 0} {o₀ j₀ : ℕ} (v : Inv p w (state m (frame o i ∷ fs) ns))
        (h : i < commands_in p (reactor m o)) (then : commands_d p (reactor m o) ≤ i → wired m o ≡ 1) (c : Between p m m'
        (frame o i ∷ fs) (frame o (i + 1) ∷ fs) ns ns' W T (This-slot p o i) N (Nothing p) (Nothing p) o₀ j₀)
        (runs : (d : ℕ) → run d ∈ ns' → run d ∈ ns) where
      pub advance : Inv p w (state m' (frame o (i + 1) ∷ fs) ns')
      advance =
          record {
            mid = mid_turn_kept p u.static v.mid c;
            piled = record {
              falling = on (in_below p (ch.kept o t)) (lower_falls p q.falling);
              heights =
                  let k = lower_heights p q.heights in
                  stack (not_zero p t) (depth_forth p forth (not_zero p t) k.0) (heights_forth p forth k.1);
              frames = λ a k z. by a k (opens_off p a k z);
              apart = λ a k z r. alone a k (opens_off p a k z) (runs a r);
              ran = λ d r. let k = q.ran d (runs d r) in (ch.kept d k.0, still d k.0 ∙ k.1);
              main_in = next_entered p ch q c.more_notes runs main_at q.main_in;
            };
            len = ch.len ∙ v.len;
            clock = ch.clock ∙ v.clock;
          }
        where
          ch : Change p W N (Nothing p) m m'
          ch = c.change

          q : Piled p m (frame o i ∷ fs) ns
          q = v.piled

          t : Deployed p m o
          t = (top_frame p v).deployed

          forth : (a j d : ℕ) → d ≢ 0 → Owner p m a j d → Owner p m' a j d
          forth = owner_forth p u.static v.mid c

          still : (d : ℕ) → Deployed p m d → wired m' d ≡ wired m d
          still d k = unwired p ch d k (λ z. z)

          own_frame : FrameOk p m' o (i + 1)
          own_frame =
              let r = ch.reactors o t in
              record {
                deployed = ch.kept o t;
                bound = rw r (omega arith);
                raw = λ l.
                    let l₂ : i + 1 < commands_d p (reactor m o) = rw r at l in
                    still o t ∙ (top_frame p v).raw (omega arith);
                wired_past = λ l.
                    let l₂ : commands_d p (reactor m o) < i + 1 = rw r at l in
                    still o t ∙ then (omega arith);
              }

          by : (a k : ℕ) → ((o ≡ a) × (i + 1 ≡ k)) ⊎ Open a k (frame o i ∷ fs) → FrameOk p m' a k
          by a k (inl z) = let e₁ = z.0 in let e₂ = z.1 in rw (← e₁, ← e₂) own_frame
          by a k (inr z) = let f = q.frames a k z in frame_on ch a k f (still a f.deployed)

          alone : (a k : ℕ) → ((o ≡ a) × (i + 1 ≡ k)) ⊎ Open a k (frame o i ∷ fs) → run a ∈ ns → ⊥
          alone a k (inl z) = q.apart a i (top z.0 refl)
          alone a k (inr z) = q.apart a k z

    -- ---- a leaving

    module _ {w m : List ℕ} {ns : List Note} {o i : ℕ} {fs : List Frame}
        (v : Inv p w (state m (frame o i ∷ fs) ns)) where
      q₀ : Piled p m (frame o i ∷ fs) ns
      q₀ = v.piled

      t₀ : Deployed p m o
      t₀ = (top_frame p v).deployed

      pub leave_kept : i ≡ commands_in p (reactor m o) → Inv p w (state m fs (run o ∷ ns))
      leave_kept e =
          record {
            mid = mid_turn_kept p u.static v.mid
                (calm p {F = No-slot p} {G = Nothing p} (unchanged p v.mid.good) (λ n z. later z)
                (λ d l z. location_out z) (leave_forth p v e) (λ a j b. inl (leave_back p v e a j b))
                (behind_lower p m fs (run o ∷ ns))
                (λ a j z. absurd z) (λ a j z. absurd z) enter (λ d z. inl (entered d z))
                (λ d z. absurd z) (λ d z. absurd z));
            piled = record {
              falling = higher (let z = in_below p t₀ in omega arith) (lower_falls p q₀.falling);
              heights = (lower_heights p q₀.heights).1;
              frames = λ a k z. q₀.frames a k (under z);
              apart = λ a k z r. alone a k z (run_out r);
              ran = λ d r. gone d (run_out r);
              main_in = enter main_at q₀.main_in;
            };
            len = v.len;
            clock = v.clock;
          }
        where
          enters : {d k : ℕ} → Open d k (frame o i ∷ fs) → Entered fs (run o ∷ ns) d
          enters (top z y) = inr (rw (← z) first)
          enters {k = k} (under z) = inl (k, z)

          enter : (d : ℕ) → Entered (frame o i ∷ fs) ns d → Entered fs (run o ∷ ns) d
          enter d (inl b) = enters b.1
          enter d (inr b) = inr (later b)

          entered : (d : ℕ) → Entered fs (run o ∷ ns) d → Entered (frame o i ∷ fs) ns d
          entered d (inl b) = inl (b.0, under b.1)
          entered d (inr b) = by (run_out b)
            where
              by : (d ≡ o) ⊎ (run d ∈ ns) → Entered (frame o i ∷ fs) ns d
              by (inl z) = inl (i, top (sym z) refl)
              by (inr z) = inr z

          alone : (a k : ℕ) → Open a k fs → (a ≡ o) ⊎ (run a ∈ ns) → ⊥
          alone a k z (inl y) = let l = falls (lower_falls p q₀.falling) z in omega arith
          alone a k z (inr y) = q₀.apart a k (under z) y

          gone : (d : ℕ) → (d ≡ o) ⊎ (run d ∈ ns) → Deployed p m d × (wired m d ≡ 1)
          gone d (inl z) = rw z (
            t₀,
            (top_frame p v).wired_past
                (let y = u.running_some (reactor m o) (in_reactor p v.mid.good.tiles t₀) in omega arith),
          )
          gone d (inr z) = q₀.ran d z

      -- ---- an opening

      module _ (h : i < commands_in p (reactor m o)) (then : commands_d p (reactor m o) ≤ i → wired m o ≡ 1) where
        pub call_kept : (b j d : ℕ) → cmd p m o i ≡ react b → mark p m o b ≡ deployment_mark → content p m o b ≡ d
            → Deployed p m d → Owner p m o j d → o < d → ((x : ℕ) → x < source_count p (reactor m d) → location d x ∈ ns)
            → (run d ∈ ns → ⊥) → Inv p w (state m (frame d (opening p m d) ∷ frame o (i + 1) ∷ fs) ns)
        call_kept b j d e mk ct t k above given unrun =
            record {
              mid = mid_turn_kept p u.static v.mid
                  (calm p {F = λ a y. This-slot p o i a y ⊎ ((a ≡ d) × (y < opening p m d))} {G = λ a. a ≡ d}
                  (unchanged p v.mid.good) (λ n z. z) (λ a l z. z) (call_forth p v d (opening p m d))
                  (call_back p v d (opening p m d)) (behind_lower p m pile ns) scope done enter entered opens
                  (λ a z. absurd z));
              piled = record {
                falling = on (in_below p t) (on above (lower_falls p q₀.falling));
                heights =
                    let y = lower_heights p q₀.heights in
                    stack (not_zero p t) (deeper y.0) (stack (not_zero p t₀) y.0 y.1);
                frames = λ a n z. frames z;
                apart = λ a n z. alone z;
                ran = q₀.ran;
                main_in = enter main_at q₀.main_in;
              };
              len = v.len;
              clock = v.clock;
            }
          where
            pile : List Frame
            pile = frame d (opening p m d) ∷ frame o (i + 1) ∷ fs

            deeper : Depth p m o (length fs + 1) → Depth p m d (suc (length fs) + 1)
            deeper y =
                let z : length fs + 1 + 1 ≡ suc (length fs) + 1 = omega arith in
                subst (λ (n : ℕ). Depth p m d n) z (child j k y)

            -- D, where it is skipped, is right
            skipped : (y : ℕ) → y < opening p m d → (wired m d ≡ 0) ⊎ (wired m d ≡ 1) →
                (y < commands_d p (reactor m d)) × SlotRight p m d (own p m d y) (cmd p m d y)
            skipped y l (inl z) = absurd (let f = opening_raw m d z in omega arith)
            skipped y l (inr z) =
                let f = opening-wired m d z in
                let l₂ : y < commands_d p (reactor m d) = omega arith in
                (l₂, v.mid.slots d y t z l₂)

            scope : (a y : ℕ) → This-slot p o i a y ⊎ ((a ≡ d) × (y < opening p m d)) →
                Deployed p m a × (y < commands_in p (reactor m a))
            scope a y (inl z) = let e₁ = z.0 in let e₂ = z.1 in rw (e₁, e₂) (t₀, h)
            scope a y (inr z) =
                let e₁ = z.0 in
                let l = (skipped y z.1 (v.mid.two d t)).0 in
                let n = u.running_some (reactor m d) (in_reactor p v.mid.good.tiles t) in
                rw e₁ (t, omega arith)

            done : (a y : ℕ) → This-slot p o i a y ⊎ ((a ≡ d) × (y < opening p m d)) →
                Done p m ns (Entered pile ns) a (own p m a y) (cmd p m a y)
            done a y (inl z) =
                let e₁ = z.0 in
                let e₂ = z.1 in
                rw (e₁, e₂, e) (λ s. inl (opening p m d, top (sym ct) refl))
            done a y (inr z) =
                let e₁ = z.0 in
                rw e₁ (right_done p m ns (Entered pile ns) d (own p m d y) (cmd p m d y)
                (skipped y z.1 (v.mid.two d t)).1)

            enter : (a : ℕ) → Entered (frame o i ∷ fs) ns a → Entered pile ns a
            enter a (inl z) = let l = opens_on p a z.0 z.1 in inl (l.0, under l.1)
            enter a (inr z) = inr z

            entered : (a : ℕ) → Entered pile ns a → Entered (frame o i ∷ fs) ns a ⊎ (a ≡ d)
            entered a (inr z) = inl (inr z)
            entered a (inl z) = by z.1
              where
                by : {n : ℕ} → Open a n pile → Entered (frame o i ∷ fs) ns a ⊎ (a ≡ d)
                by (top f s) = inr (sym f)
                by {n} (under (top f s)) = inl (inl (i, top f refl))
                by {n} (under (under f)) = inl (inl (n, under f))

            opens : (a : ℕ) → a ≡ d → Opens p m m ns (Behind p m pile ns) a
            opens a z =
                rw z (record {
                  deployed = t;
                  given = given;
                  cause = record {
                    owner = o;
                    command = i;
                    operand = b;
                    behind = inl (i + 1, under (top refl refl), omega arith);
                    marked = mk;
                    names = ct;
                    is = e;
                  };
                })

            frames : {a n : ℕ} → Open a n pile → FrameOk p m a n
            frames (top z s) = rw (← z, ← s) (opening_frame m d
                (u.running_some (reactor m d) (in_reactor p v.mid.good.tiles t)) t (v.mid.two d t))
            frames (under (top z s)) =
                rw (← z, ← s) (record {
                  deployed = t₀;
                  bound = omega arith;
                  raw = λ l. (top_frame p v).raw (omega arith);
                  wired_past = λ l. then (omega arith);
                })
            frames {a} {n} (under (under z)) = q₀.frames a n (under z)

            alone : {a n : ℕ} → Open a n pile → run a ∈ ns → ⊥
            alone (top z s) r = unrun (rw z r)
            alone {a} (under (top z s)) r = q₀.apart a i (top z refl) r
            alone {a} {n} (under (under z)) r = q₀.apart a n (under z) r

      -- ---- a wiring

      -- the words before the next command
      pub record Ready (m₁ : List ℕ) : Type 0 where
        pub inv : Inv p w (state m₁ (frame o i ∷ fs) ns)
        pub same : reactor m₁ o ≡ reactor m o
        pub size : used m₁ ≡ used m
        pub on_from : Onward p m m₁
        pub wired_then : commands_d p (reactor m₁ o) ≤ i → wired m₁ o ≡ 1
        pub slots : (d l : ℕ) → Deployed p m d → HasSlot p (reactor m d) l → Same p m m₁ d l
        pub wireds : (d : ℕ) → Deployed p m d → NowWired p m m₁ o i d
        pub back : (d : ℕ) → Deployed p m₁ d → Deployed p m d

      pub ready_kept : i < commands_in p (reactor m o) → Ready (ready p m o i)
      unfolding ready
      ready_kept h =
          cases (i =? commands_d p (reactor m o))
          (λ e. subst Ready (yes m e refl) (wired_now (eq? e)))
          (λ e. subst Ready (no (with_wired m o 1) e refl) (as_is (eq×? e)))
        where
          as_is : i ≢ commands_d p (reactor m o) → Ready m
          as_is n =
              record {
                inv = v;
                same = refl;
                size = refl;
                on_from = onward_self;
                wired_then = λ l. (top_frame p v).wired_past (omega arith);
                slots = λ d l t h. same_self p;
                wireds = λ d t. inl refl;
                back = λ d t. t;
              }

          wired_now : i ≡ commands_d p (reactor m o) → Ready (with_wired m o 1)
          wired_now e =
              record {
                inv = record {
                  mid = mid_turn_kept p u.static v.mid step;
                  piled = record {
                    falling = on (in_below p (ch.kept o t₀)) (lower_falls p q₀.falling);
                    heights = heights_forth p forth q₀.heights;
                    frames = λ a k z. frames a k z (same? a o);
                    apart = q₀.apart;
                    ran = λ d r. let y = q₀.ran d r in (ch.kept d y.0, ran d y.0 y.1 (same? d o));
                    main_in = q₀.main_in;
                  };
                  len = ch.len ∙ v.len;
                  clock = ch.clock ∙ v.clock;
                };
                same = ch.reactors o t₀;
                size = wd.same;
                on_from = onward p ch;
                wired_then = λ l. wd.wired_here;
                slots = λ d l t h. unwritten p ch d l t h (λ z. z);
                wireds = λ d t. ⊎_map (λ z. z) (λ z. (z, e, rw z wd.wired_here)) (ch.wireds d t);
                back = λ d t. or_none (ch.back d t);
              }
            where
              m₁ : List ℕ
              m₁ = with_wired m o 1

              wd : Wired p m o (with_wired m o 1)
              wd = wiring p m o v.mid.good t₀

              ch : Change p (No-slot p) (Nothing p) (λ d. d ≡ o) m (with_wired m o 1)
              ch = wd.change

              wires : (a : ℕ) → a ≡ o → (wired m₁ a ≡ 1)
                  × ((j : ℕ) → j < commands_d p (reactor m a) → SlotRight p m a (own p m a j) (cmd p m a j))
              wires a z =
                  rw z (
                    wd.wired_here,
                    λ j l.
                        done_right p m ns (Entered (frame o i ∷ fs) ns) o (own p m o j) (cmd p m o j)
                        ((u.static (reactor m o) (in_reactor p v.mid.good.tiles t₀)).0.in_d j l)
                        (v.mid.done o j (inl (i, top refl refl, omega arith))),
                  )

              step : Between p m m₁ (frame o i ∷ fs) (frame o i ∷ fs) ns ns (No-slot p) (No-slot p) (No-slot p)
                  (Nothing p) (λ d. d ≡ o) (Nothing p) 0 0
              step =
                  calm p {F = No-slot p} {G = Nothing p} ch (λ n z. z) (λ a l z. z) (behind_on p ch q₀)
                  (λ a j b. inl (behind_off p ch q₀ a j b))
                  (behind_lower p m₁ (frame o i ∷ fs) ns) (λ a j z. absurd z) (λ a j z. absurd z)
                  (λ d z. z) (λ d z. inl z) (λ d z. absurd z) wires

              forth : (a j d : ℕ) → d ≢ 0 → Owner p m a j d → Owner p m₁ a j d
              forth = owner_forth p u.static v.mid step

              frames : (a k : ℕ) → Open a k (frame o i ∷ fs) → (a ≡ o) ⊎ (a ≢ o) → FrameOk p m₁ a k
              frames a k z (inr n) = let f = q₀.frames a k z in frame_on ch a k f (unwired p ch a f.deployed n)
              frames a k z (inl y) =
                  let f = q₀.frames a k z in
                  let r = ch.reactors a f.deployed in
                  let k₂ = top_only p v k (rw y at z) in
                  record {
                    deployed = ch.kept a f.deployed;
                    bound = rw r f.bound;
                    raw = λ l. absurd (let l₂ : k < commands_d p (reactor m o) = rw (r, y) at l in omega arith);
                    wired_past = λ l. rw y wd.wired_here;
                  }

              ran : (d : ℕ) → Deployed p m d → wired m d ≡ 1 → (d ≡ o) ⊎ (d ≢ o) → wired m₁ d ≡ 1
              ran d t y (inl z) = rw z wd.wired_here
              ran d t y (inr z) = unwired p ch d t z ∙ y
