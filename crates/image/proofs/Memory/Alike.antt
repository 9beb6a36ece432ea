-- Two images alike in headers and D slots, but for what cells hold: what the deployments, chains, names and depths of
-- one are, those of the other are (`alike_tiles`, `alike_grown`).
use Rattle.std.specs.Prelude.{ℕ, ◌<◌, ◌≡◌, ◌≢◌, List}
use Rattle.std.proofs.Common.{sym, ◌∙◌, inl, arith}
use Rattle.program.specs.Bytes.{commands_d}
use Rattle.program.specs.Command.{Cmd, cmd_of, alloc_mono, make_poly, cell}
use Rattle.program.specs.Location.{command_loc}
use Rattle.image.specs.Memory.{main_at, used, reactor, wired, next}
use Rattle.image.specs.Sound.{Tiles, Deployed, InD, MonoSlot, PointSlot, CellSlot, Names, by_mono, by_point}
use Rattle.image.specs.Sound.{Owner, Grown}
use Rattle.image.proofs.Memory.Tiles.{in_ge, tiles_kept, in_kept, in_back}
use Rattle.image.proofs.Memory.Changes.{Same, Stays}
use Rattle.image.proofs.Memory.Slots.{mono_kept, point_kept, names_back, names_forth, depth_forth}

pub record Alike (p m m' : List ℕ) : Type 0 where
  pub useds : used m' ≡ used m
  pub reactors : (d : ℕ) → Deployed p m d → reactor m' d ≡ reactor m d
  pub wireds : (d : ℕ) → Deployed p m d → wired m' d ≡ wired m d
  pub nexts : (d : ℕ) → Deployed p m d → next m' d ≡ next m d
  pub slots : (d j : ℕ) → Deployed p m d → j < commands_d p (reactor m d)
      → ((x v : ℕ) → cmd_of p (reactor m d) j ≢ cell x v) → Same p m m' d (command_loc p (reactor m d) j)
  pub cells : (d j x v : ℕ) → Deployed p m d → j < commands_d p (reactor m d) → cmd_of p (reactor m d) j ≡ cell x v
      → CellSlot p m d (command_loc p (reactor m d) j) x → CellSlot p m' d (command_loc p (reactor m d) j) x

mono_no_cell : (q x v : ℕ) → ◌≢◌ {A = Cmd} (alloc_mono q) (cell x v)
mono_no_cell q x v e = let z : ◌≡◌ {A = ℕ} 0 1 = cc in omega arith

point_no_cell : (q x v : ℕ) → ◌≢◌ {A = Cmd} (make_poly q) (cell x v)
point_no_cell q x v e = let z : ◌≡◌ {A = ℕ} 0 1 = cc in omega arith

-- what names a deployment is no Cell
names_no_cell : {p m : List ℕ} {o j d : ℕ} → Names p m o j d → (x v : ℕ) → cmd_of p (reactor m o) j ≢ cell x v
names_no_cell (by_mono q e c) x v f = mono_no_cell q x v (sym e ∙ f)
names_no_cell (by_point q e c) x v f = point_no_cell q x v (sym e ∙ f)

-- the location of a D command is a D slot
pub command_in_d : (p m : List ℕ) (r j : ℕ) → j < commands_d p r → InD p m r (command_loc p r j)
unfolding command_loc
command_in_d p m r j l = record { low = omega arith; high = omega arith }

module _ {p m m' : List ℕ} (k : Alike p m m') where
  pub deployed_to : (d : ℕ) → Deployed p m d → Deployed p m' d
  deployed_to d i = rw k.useds (in_kept p k.reactors i)

  pub deployed_back : (d : ℕ) → Deployed p m' d → Deployed p m d
  deployed_back d i = in_back p k.reactors (rw k.useds at i)

  pub alike_tiles : Tiles p m (used m) main_at → Tiles p m' (used m') main_at
  alike_tiles t = rw k.useds (tiles_kept p k.reactors t)

  alike_stays : Stays p m m'
  alike_stays = record { kept = deployed_to; reactors = k.reactors; nexts = k.nexts }

  module _ (g : Grown p m) where
    names_to : {o j d : ℕ} → Deployed p m o → j < commands_d p (reactor m o) → Names p m o j d → Names p m' o j d
    names_to {o} {j} i l n =
        names_forth p alike_stays j i (k.slots o j i l (names_no_cell n)) (λ y e. inl (g.points o j y i l e)) n

    names_from : {o j d : ℕ} → Deployed p m o → j < commands_d p (reactor m o) → Names p m' o j d → Names p m o j d
    names_from {o} {j} i l n =
        names_back p alike_stays j i (k.slots o j i l (λ x v e. names_no_cell n x v (rw (k.reactors o i) e)))
        (λ y e. inl (g.points o j y i l e)) n

    owner_to : {o j d : ℕ} → Owner p m o j d → Owner p m' o j d
    owner_to {o} {j} w =
        let i = w.deployed in
        record {
          deployed = deployed_to o i;
          low = rw (k.reactors o i) w.low;
          names = names_to i w.low w.names;
        }

    owner_back : {o j d : ℕ} → Owner p m' o j d → Owner p m o j d
    owner_back {o} {j} w =
        let i = deployed_back o w.deployed in
        let l : j < commands_d p (reactor m o) = rw (k.reactors o i) at w.low in
        record { deployed = i; low = l; names = names_from i l w.names }

    -- what is said of D command j of o, by the old reactor, at its location
    by_old : (o j : ℕ) {c : Cmd} → Deployed p m' o → j < commands_d p (reactor m' o) → cmd_of p (reactor m' o) j ≡ c
        → (Z : ℕ → Type 0) → (Deployed p m o → j < commands_d p (reactor m o) → cmd_of p (reactor m o) j ≡ c
        → Z (command_loc p (reactor m o) j)) → Z (command_loc p (reactor m' o) j)
    by_old o j i l q Z f =
        let b = deployed_back o i in
        let e = k.reactors o b in
        rw e (f b (rw e at l) (rw e at q))

    pub alike_grown : Grown p m'
    alike_grown =
        record {
          all_wired = λ d i. let b = deployed_back d i in k.wireds d b ∙ g.all_wired d b;
          monos = λ o j x i l q.
              by_old o j i l q (λ at. MonoSlot p m' o at x) (λ b h e.
              mono_kept p alike_stays (k.slots o j b h (λ y v n. mono_no_cell x y v (sym e ∙ n)))
              (g.monos o j x b h e));
          points = λ o j x i l q.
              by_old o j i l q (λ at. PointSlot p m' o at x) (λ b h e.
              point_kept p alike_stays (k.slots o j b h (λ y v n. point_no_cell x y v (sym e ∙ n)))
              (g.points o j x b h e));
          cells = λ o j x v i l q.
              by_old o j i l q (λ at. CellSlot p m' o at x) (λ b h e. k.cells o j x v b h e (g.cells o j x v b h e));
          named = λ d i n.
              let w = g.named d (deployed_back d i) n in
              record {
                owner = w.owner;
                command = w.command;
                named = owner_to w.named;
                only = λ o j v. w.only o j (owner_back v);
              };
          depth = λ d i.
              let b = deployed_back d i in
              let w = g.depth d b in
              (w.0, depth_forth p (λ o j c n v. owner_to v) (omega (arith, in_ge p b)) w.1, w.2);
        }
