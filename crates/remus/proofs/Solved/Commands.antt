-- The commands that store one value keep the equations, and add their own: those that give a value (`give_on`), Supply
-- (`supply_on`), Sink (`sink_on`), and those in whose own slot no equation is (`own_on`).
use Rattle.std.specs.Prelude.{ℕ, zero, suc, ◌+◌, ◌≤◌, ◌<◌, ◌≡◌, refl, ◌⊎◌, Bool, true, false}
use Rattle.std.proofs.Common.{sym, ◌∙◌, ap, inl, inr}
use Rattle.std.specs.Prelude.{List, ◌∷◌, ◌++◌, length}
use Rattle.std.proofs.Common.{arith}
use Rattle.value.specs.Value.{deployment_mark, value, mark_of}
use Rattle.value.specs.Primitive.{operands}
use Rattle.value.specs.declared.Value.{Value}
use Rattle.value.proofs.Tests.{eq?, eq×?}
use Rattle.program.specs.Bytes.{shape_of, sources_in, commands_in}
use Rattle.program.specs.Command.{Give, Cmd, takes_words, gives_value, constant, global, supply, consume, sink, primitive}
use Rattle.program.specs.Command.{fetch, gives}
use Rattle.program.specs.Location.{source_count, sink_count, sink_loc, HasSlot}
use Rattle.program.specs.Kind.{kind_of}
use Rattle.program.proofs.Slots.{slot_source, slot_sink, slot_command}
use Rattle.load.proofs.Exact.Static.{ValueBefore, DeploymentBefore}
use Rattle.image.specs.Memory.{turns, reactor, mark, content, value_at, store}
use Rattle.image.specs.Sound.{Deployed}
use Rattle.image.proofs.Memory.Changes.{Change, This-slot, Stored, stored, stored_value, unchanged}
use Rattle.remus.specs.Exec.{Eff, move, call, fail, global_value, there, supplied, consumed, given, opening}
use Rattle.remus.specs.Walk.{Note, location, run, Frame, supplied_note}
use Rattle.remus.specs.Point.{◌∈◌, first, later}
use Rattle.remus.proofs.Walk.Facts.{Facts}
use Rattle.remus.proofs.Walk.MidTurn.{own, cmd}
use Rattle.remus.proofs.Walk.Pile.{frame, state, Behind, Inv}
use Rattle.remus.proofs.Walk.Top.{top_frame}
use Rattle.remus.proofs.Walk.Operands.{Target, static_here, target_here, supply_fresh, sink_fresh, consume_run}
use Rattle.remus.proofs.Walk.Stores.{run_past}
use Rattle.remus.proofs.Walk.Locations.{own_no_source, own_no_sink, sink_no_source}
use Rattle.remus.proofs.Solved.Equations.{Final, by_command, by_source, by_sink, Held, Equation, Equations}
use Rattle.remus.proofs.Solved.Next.{gives_no_point, value_held, as_deployment, no_deployment, cell_held}
use Rattle.remus.proofs.Solved.Next.{sink_held, own_spared, still, own_held, equations_next}

-- the time and the readings stay
same_global : (rd m w : List ℕ) → turns m ≡ turns w → (x : ℕ) → global_value rd m x ≡ global_value rd w x
unfolding global_value
same_global rd m w e zero = rw e
same_global rd m w e (suc k) = refl

-- p the program, rd the readings, w the words before the turn; command i of o has been carried out
module _ (p rd w : List ℕ) (o i : ℕ) (fs : List Frame) where
  abbrev pub Then : List ℕ → List Note → Type 0
  Then m' ns' = Equations p m' ns' (Behind p m' (frame o (i + 1) ∷ fs) ns') rd w

  -- the same by the command's effect, which may open a deployment
  abbrev pub After : List Note → Eff → Type 0
  After ns' (move m') = Then m' ns'
  After ns' (call m' d) =
      Equations p m' ns' (Behind p m' (frame d (opening p m' d) ∷ frame o (i + 1) ∷ fs) ns') rd w
  After ns' (fail y) = Unit {0}

  -- what command c says then, l its own location
  abbrev pub Says : List ℕ → List Note → ℕ → Cmd → Type 0
  Says m' ns' l c = Equation p m' ns' (Behind p m' (frame o (i + 1) ∷ fs) ns') rd w o l c

module _ (p : List ℕ) (u : Facts p) (rd : List ℕ) {w m : List ℕ} {ns : List Note} {o i : ℕ} {fs : List Frame}
    (v : Inv p w (state m (frame o i ∷ fs) ns)) (h : i < commands_in p (reactor m o))
    (qs : Equations p m ns (Behind p m (frame o i ∷ fs) ns) rd w) where
  abbrev B₀ : ℕ → ℕ → Type 0
  B₀ = Behind p m (frame o i ∷ fs) ns

  abbrev here : ℕ
  here = own p m o i

  t₀ : Deployed p m o
  t₀ = (top_frame p v).deployed

  -- ---- a command that writes its own slot, by a change c, with new notes

  pub own_on : {N L : ℕ → Type 0} {m' : List ℕ} {ns' : List Note} → Change p (This-slot p o here) N L m m'
      → ((n : Note) → n ∈ ns → n ∈ ns') → ((d : ℕ) → run d ∈ ns' → run d ∈ ns) → {k : Cmd} → cmd p m o i ≡ k
      → Says p rd w o i fs m' ns' here k → Then p rd w o i fs m' ns'
  own_on c notes runs e q = equations_next p u v h c (own_spared p u v h) notes runs rd qs (rw e q)

  -- ---- a command that gives a value

  module _ (x : Value) {y : Give} (e : cmd p m o i ≡ gives y) where
    abbrev after : List ℕ
    after = store p m o here x

    abbrev B₁ : ℕ → ℕ → Type 0
    B₁ = Behind p after (frame o (i + 1) ∷ fs) (location o here ∷ ns)

    takes : takes_words (cmd p m o i) ≡ true
    unfolding takes_words
    takes = ap takes_words e

    written : Stored p m o here x after
    written = stored p m o here x v.mid.good t₀ (slot_command p (reactor m o) i h takes)

    kept : {d l : ℕ} {z : Value} → Held p m ns B₀ d l z → Held p after (location o here ∷ ns) B₁ d l z
    kept = still p u v h written.change (own_spared p u v h) (λ n z. later z) (λ d z. run_past z)

    held : Held p after (location o here ∷ ns) B₁ o here x
    unfolding gives_value
    held =
        own_held p u v h written.change (own_spared p u v h) (λ n z. later z) (λ d z. run_past z) x takes
        (gives_no_point (cmd p m o i) (ap gives_value e)) (stored_value p written)

  -- y gives x
  abbrev Given : Give → Value → Type 0
  Given y x = Says p rd w o i fs (store p m o here x) (location o here ∷ ns) here (gives y)

  abbrev height : ℕ
  height = suc (length fs)

  consume_says : (x b : ℕ) (t : Bool) → there p m o b ≡ t → cmd p m o i ≡ gives (consume x b)
      → Given (consume x b) (consumed p rd height m o i t x b)
  unfolding consumed there sink_count
  consume_says x b false q e =
      let f = (static_here p u v h).consumes i x b h e in
      let a = no_deployment p u v h f.0 b f.1 (eq×? q) in
      inr (a.0, kept _ e a.1, a.2)
  consume_says x b true q e =
      let d = content p m o b in
      let y = value_at p m d (sink_loc p (reactor m d) x) in
      let f = (static_here p u v h).consumes i x b h e in
      let t = target_here p u v h f.0 b f.1 (eq? q) in
      let l : x < sink_count p (reactor m d) = rw t.shape f.2 in
      let s = sink_held p u v h d x (consume_run p u v h b f.0 f.3 (eq? q) t) l in
      inl (
        d,
        y,
        kept y e (as_deployment p u v h f.0 b f.1 (eq? q)),
        rw ((written y e).change.reactors d t.deployed) (kept y e s),
        held y e,
      )

  given_says : (y : Give) → cmd p m o i ≡ gives y → Given y (given p rd height m o i y)
  unfolding given
  given_says (constant x a) e = held (value (mark_of x) a) e
  given_says (global x) e = rw (← (same_global rd m w v.clock x)) (held (global_value rd m x) e)
  given_says (consume x b) e = consume_says x b (there p m o b) refl e
  given_says (primitive x a b c) e =
      let f = (static_here p u v h).primitives i x a b c h e in (
        value_at p m o a,
        value_at p m o b,
        value_at p m o c,
        kept _ e (value_held p u v h a f.1),
        λ l. kept _ e (taken b 2 l f.2),
        λ l. kept _ e (taken c 3 l f.3),
        held _ e,
      )
    where
      taken : (z n : ℕ) → n ≤ operands x → (operands x < n) ⊎ ValueBefore p (reactor m o) i z
          → Held p m ns B₀ o z (value_at p m o z)
      taken z n l (inl q) = absurd (omega arith)
      taken z n l (inr q) = value_held p u v h z q
  given_says (fetch b) e =
      let f = (static_here p u v h).fetches i b h e in
      (value_at p m o b, kept _ e (cell_held p u v h (kind_of p (reactor m o) b) b f.0), held _ e)

  pub give_on : (y : Give) → cmd p m o i ≡ gives y
      → Then p rd w o i fs (store p m o here (given p rd height m o i y)) (location o here ∷ ns)
  give_on y e =
      let x = given p rd height m o i y in
      own_on (written x e).change (λ n z. later z) (λ d z. run_past z) e (given_says y e)

  -- ---- Supply and Sink: a value in slot l of a, which is not final

  module _ (a l : ℕ) (x : Value) (t : Deployed p m a) (has_slot : HasSlot p (reactor m a) l)
      (spared : (d j : ℕ) → Final p m ns B₀ d j → This-slot p a l d j → ⊥) where
    abbrev put : List ℕ
    put = store p m a l x

    abbrev B₂ : ℕ → ℕ → Type 0
    B₂ = Behind p put (frame o (i + 1) ∷ fs) (location a l ∷ ns)

    there_stored : Stored p m a l x put
    there_stored = stored p m a l x v.mid.good t has_slot

    put_kept : {d j : ℕ} {y : Value} → Held p m ns B₀ d j y → Held p put (location a l ∷ ns) B₂ d j y
    put_kept = still p u v h there_stored.change spared (λ n z. later z) (λ d z. run_past z)

    put_held : Final p put (location a l ∷ ns) B₂ a l → Held p put (location a l ∷ ns) B₂ a l x
    put_held f =
        record {
          deployed = there_stored.change.kept a t;
          has_slot = rw (there_stored.change.reactors a t) has_slot;
          final = f;
          is = stored_value p there_stored;
        }

    put_on : {k : Cmd} → cmd p m o i ≡ k → Says p rd w o i fs put (location a l ∷ ns) here k
        → Then p rd w o i fs put (location a l ∷ ns)
    put_on e q =
        equations_next p u v h there_stored.change spared (λ n z. later z) (λ d z. run_past z) rd qs (rw e q)

  -- a command that does nothing
  pub skip_on : {k : Cmd} → cmd p m o i ≡ k → Says p rd w o i fs m ns here k → Then p rd w o i fs m ns
  skip_on e q =
      equations_next p u v h (unchanged p v.mid.good) (λ d l f z. z) (λ n z. z) (λ d z. z) rd qs (rw e q)

  pub supply_on : (x a b : ℕ) (t : Bool) → there p m o b ≡ t → cmd p m o i ≡ supply x a b → After p rd w o i fs
      (supplied_note p t (content p m o b) x ++ ns) (supplied p rd height m o i t x a b)
  unfolding supplied supplied_note there
  supply_on x a b false q e =
      let f = ((static_here p u v h).supplies i x a b h e).1 in
      let k = no_deployment p u v h f.0 b f.1 (eq×? q) in
      skip_on e
      (inr (k.0, still p u v h (unchanged p v.mid.good) (λ d l f z. z) (λ n z. z) (λ d z. z) k.1, k.2))
  supply_on x a b true q e =
      put_on d x y t.deployed has_slot spared e
      (inl (
        d,
        y,
        put_kept d x y t.deployed has_slot spared (as_deployment p u v h f.1.0 b f.1.1 mk),
        put_kept d x y t.deployed has_slot spared (value_held p u v h a f.0),
        put_held d x y t.deployed has_slot spared (by_source
            (rw ((there_stored d x y t.deployed has_slot spared).change.reactors d t.deployed) port) first),
      ))
    where
      d : ℕ
      d = content p m o b

      y : Value
      y = value_at p m o a

      mk : mark p m o b ≡ deployment_mark
      mk = eq? q

      f : ValueBefore p (reactor m o) i a × ((k : ℕ) × DeploymentBefore p (reactor m o) i k b × (x < sources_in p k)
          × ((c : ℕ) → shape_of p c ≡ k → kind_of p c x ≡ kind_of p (reactor m o) a))
      f = (static_here p u v h).supplies i x a b h e

      t : Target p m o f.1.0 b
      t = target_here p u v h f.1.0 b f.1.1 mk

      port : x < source_count p (reactor m (content p m o b))
      port = unfold source_count in rw t.shape f.1.2

      has_slot : HasSlot p (reactor m (content p m o b)) x
      has_slot = slot_source p (reactor m (content p m o b)) x port

      spared : (c j : ℕ) → Final p m ns B₀ c j → This-slot p (content p m o b) x c j → ⊥
      spared c j (by_command k z n _) q =
          let e₁ = q.0 in own_no_source p (reactor m d) k x (rw e₁ at n ∙ q.1) port
      spared c j (by_source k n) q =
          let e₁ = q.0 in let e₂ = q.1 in supply_fresh p u v h x a b f.1.0 e t port (rw (e₁, e₂) at n)
      spared c j (by_sink k z n) q =
          let e₁ = q.0 in sink_no_source p (reactor m d) k x (rw e₁ at z ∙ q.1) port

  pub sink_on : (x a : ℕ) → cmd p m o i ≡ sink x a
      → Then p rd w o i fs (store p m o (sink_loc p (reactor m o) x) (value_at p m o a))
      (location o (sink_loc p (reactor m o) x) ∷ ns)
  sink_on x a e =
      let l = sink_loc p (reactor m o) x in
      let y = value_at p m o a in
      let r = (there_stored o l y t₀ has_slot spared).change.reactors o t₀ in
      put_on o l y t₀ has_slot spared e (
        y,
        put_kept o l y t₀ has_slot spared (value_held p u v h a f.0),
        rw r (put_held o l y t₀ has_slot spared (by_sink x (rw r refl) first)),
      )
    where
      f : ValueBefore p (reactor m o) i a × (x < sink_count p (reactor m o))
          × (kind_of p (reactor m o) (sink_loc p (reactor m o) x) ≡ kind_of p (reactor m o) a)
      f = (static_here p u v h).sinks_of_lem i x a h e

      has_slot : HasSlot p (reactor m o) (sink_loc p (reactor m o) x)
      has_slot = slot_sink p (reactor m o) x f.1

      spared : (c j : ℕ) → Final p m ns B₀ c j → This-slot p o (sink_loc p (reactor m o) x) c j → ⊥
      spared c j (by_command k z n _) q =
          let e₁ = q.0 in
          own_no_sink p (reactor m o) k x (rw e₁ at (v.mid.scope c k z).1) (rw e₁ at n ∙ q.1)
      spared c j (by_source k n) q =
          let e₁ = q.0 in sink_no_source p (reactor m o) x j (sym q.1) (rw e₁ at k)
      spared c j (by_sink k z n) q =
          let e₁ = q.0 in let e₂ = q.1 in sink_fresh p u v h x a e (rw (e₁, e₂) at n)
