-- As main leaves: its sinks are all noted, every deployment is wired, what was kept waits in the Keeps' slots
-- (`keepable`), and the image is whole.
use Rattle.std.specs.Prelude.{ℕ, ◌<◌, ◌≡◌, refl, ◌⊎◌, ◌≢◌, List, [], ◌∷◌}
use Rattle.std.proofs.Common.{inl, inr}
use Rattle.value.specs.Value.{blank}
use Rattle.value.proofs.Tests.{same?}
use Rattle.program.specs.Bytes.{main_of, shape_of, commands_d, commands_in}
use Rattle.program.specs.Command.{Cmd, cmd_of, alloc_mono, make_poly, supply, react, sink, alloc_poly, cell, keep, none}
use Rattle.program.specs.Command.{gives}
use Rattle.program.specs.Location.{sink_count, command_loc, sink_loc, shape_there}
use Rattle.load.proofs.Exact.Static.{DeploymentBefore, mono, poly}
use Rattle.image.specs.Memory.{main_at, reactor, wired, content, value_at}
use Rattle.image.specs.Sound.{Deployed, MonoSlot, PointSlot, CellSlot, NamedOnce, Depth, top, child}
use Rattle.image.proofs.Whole.{Whole}
use Rattle.image.proofs.Memory.Tiles.{in_reactor}
use Rattle.image.proofs.Memory.Slots.{SlotRight}
use Rattle.remus.specs.Walk.{Note, location, run}
use Rattle.remus.specs.Point.{◌∈◌, first, later}
use Rattle.remus.proofs.Walk.Facts.{Facts}
use Rattle.remus.proofs.Walk.MidTurn.{Deploys, own, cmd, Pends, KeepAt, Keepable, Done, Cause, Making}
use Rattle.remus.proofs.Walk.Pile.{state, none_open, Entered, Behind, Inv}
use Rattle.remus.proofs.Walk.Top.{run_out}
use Rattle.remus.proofs.Walk.Stores.{run_past}

-- whether d has run
pub ran? : (d : ℕ) (ns : List Note) → (run d ∈ ns) ⊎ (run d ∈ ns → ⊥)
ran? d [] = inr (elim [ ])
ran? d (location e l ∷ ns) = by (ran? d ns)
  where
    by : (run d ∈ ns) ⊎ (run d ∈ ns → ⊥) → (run d ∈ (location e l ∷ ns)) ⊎ (run d ∈ (location e l ∷ ns) → ⊥)
    by (inl r) = inl (later r)
    by (inr n) = inr (λ r. n (run_past r))
ran? d (run e ∷ ns) = by (same? d e) (ran? d ns)
  where
    by : (d ≡ e) ⊎ (d ≢ e) → (run d ∈ ns) ⊎ (run d ∈ ns → ⊥) → (run d ∈ (run e ∷ ns)) ⊎ (run d ∈ (run e ∷ ns) → ⊥)
    by (inl q) r = inl (rw q first)
    by (inr q) (inl r) = inl (later r)
    by (inr q) (inr n) = inr (λ r. out (run_out r))
      where
        out : (d ≡ e) ⊎ (run d ∈ ns) → ⊥
        out (inl z) = q z
        out (inr z) = n z

module _ (p : List ℕ) (u : Facts p) {w m : List ℕ} {ns : List Note} (v : Inv p w (state m [] ns)) where
  -- with no pile, what was entered has run
  has_run_lem : (d : ℕ) → Entered [] ns d → run d ∈ ns
  has_run_lem d (inl b) = absurd (none_open b.1)
  has_run_lem d (inr b) = b

  pub owner_run : (o j : ℕ) → Behind p m [] ns o j → run o ∈ ns
  owner_run o j (inl b) = absurd (none_open b.1)
  owner_run o j (inr b) = b.0

  main_run_lem : run main_at ∈ ns
  main_run_lem = has_run_lem main_at v.piled.main_in

  pub sinks_noted : (x : ℕ) → x < sink_count p (main_of p) → location main_at (sink_loc p (main_of p) x) ∈ ns
  sinks_noted x h =
      let q = (u.static (main_of p) u.main_low).1.all_sinks x h in
      let e = v.mid.first in
      let f = v.mid.done main_at q.0 (inr (main_run_lem, rw e q.2)) in
      let d : Done p m ns (Entered [] ns) main_at (own p m main_at q.0) (sink x q.1) = rw (e, q.3) at f in
      rw e at d

  -- a location that holds a deployment, at the end of its reactor's commands
  deploys_before : (r j : ℕ) (c : Cmd) → j < commands_in p r → cmd_of p r j ≡ c → Deploys c →
      (s : ℕ) × DeploymentBefore p r (commands_in p r) s (command_loc p r j)
  deploys_before r j (alloc_mono x) h e d = (shape_of p x, mono j x h refl e refl)
  deploys_before r j (make_poly x) h e d = absurd d
  deploys_before r j (cell x v) h e d = absurd d
  deploys_before r j (gives g) h e d = absurd d
  deploys_before r j (supply x a b) h e d = absurd d
  deploys_before r j (react b) h e d = absurd d
  deploys_before r j (sink x a) h e d = absurd d
  deploys_before r j (alloc_poly a b) h e d = (shape_there p r b, poly j a b h refl e refl)
  deploys_before r j (keep a b) h e d = absurd d
  deploys_before r j none h e d = absurd d

  -- what a command that has run made has run itself
  caused : (d : ℕ) → Cause p m (Behind p m [] ns) (Making p) d → run d ∈ ns
  caused d c =
      let o = c.owner in
      let r = reactor m o in
      let q = v.mid.scope o c.command c.behind in
      let b = deploys_before r c.command (cmd_of p r c.command) q.1 refl c.is.1 in
      let z = (u.static r (in_reactor p v.mid.good.tiles q.0)).1.all_react
      (command_loc p r c.command) b.0 b.1 in
      let l = v.mid.done o z.0 (inr (owner_run o c.command c.behind, z.1)) in
      let f : Done p m ns (Entered [] ns) o (own p m o z.0) (react (command_loc p r c.command)) = rw z.2 at l in
      let e = c.is.0 in
      let g = f (rw e at c.marked) in
      let k : content p m o (command_loc p r c.command) ≡ d = rw e at c.names in
      has_run_lem d (rw k at g)

  pub all_wired : (d : ℕ) → Deployed p m d → wired m d ≡ 1
  all_wired d t = by (v.mid.two d t)
    where
      born : (d ≡ main_at) ⊎ Cause p m (Behind p m [] ns) (Making p) d → run d ∈ ns
      born (inl e) = rw e main_run_lem
      born (inr c) = caused d c

      by : (wired m d ≡ 0) ⊎ (wired m d ≡ 1) → wired m d ≡ 1
      by (inr e) = e
      by (inl e) = (v.piled.ran d (born (v.mid.born d t e))).1

  slot : (o j : ℕ) → Deployed p m o → j < commands_d p (reactor m o) → SlotRight p m o (own p m o j) (cmd p m o j)
  slot o j t h = v.mid.slots o j t (all_wired o t) h

  named : (d : ℕ) → Deployed p m d → d ≢ main_at → NamedOnce p m d
  named d t n = by t n (v.mid.depth d t).1
    where
      by : {e k : ℕ} → Deployed p m e → e ≢ main_at → Depth p m e k → NamedOnce p m e
      by t f top = absurd (f refl)
      by {e} t f (child {o = o} j a h) =
          record { owner = o; command = j; named = a; only = λ o' j' b. v.mid.one_owner o' j' o j e t b a }

  -- what a Keep of a deployment that has run kept waits in its slot
  pub waits : (o j a b : ℕ) → KeepAt p m o j a b → run o ∈ ns → Pends p m o (own p m o j) b
  waits o j a b k r =
      let d = v.mid.done o j (inr (r, k.inside)) in
      let e : Done p m ns (Entered [] ns) o (own p m o j) (keep a b) = rw k.is at d in
      e

  pub keepable : Keepable p m
  keepable o j a b k = by (ran? o ns)
    where
      by : (run o ∈ ns) ⊎ (run o ∈ ns → ⊥) → (value_at p m o (own p m o j) ≡ blank) ⊎ Pends p m o (own p m o j) b
      by (inl r) = inr (waits o j a b k r)
      by (inr n) = inl (v.mid.idle o j a b k (λ z. n (owner_run o j z)))

  pub whole_end : Whole p m
  whole_end =
      record {
        fits = v.mid.good.fits;
        tiles = v.mid.good.tiles;
        main = v.mid.main;
        first = v.mid.first;
        last = v.mid.last;
        rest = v.mid.good.rest;
        grown = record {
          all_wired = all_wired;
          monos = λ o j x t h e. let r : MonoSlot p m o (own p m o j) x = rw e at (slot o j t h) in r;
          points = λ o j x t h e. let r : PointSlot p m o (own p m o j) x = rw e at (slot o j t h) in r;
          cells = λ o j x a t h e. let r : CellSlot p m o (own p m o j) x = rw e at (slot o j t h) in r;
          named = named;
          depth = v.mid.depth;
        };
      }
