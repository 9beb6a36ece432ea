-- A standing and a kind written at a location: what is read there, and elsewhere. A right program's
-- locations are within the tables.
use Rattle.std.specs.Prelude.{ℕ, ◌≤◌, ◌<◌, ◌≡◌, refl, List, length}
use Rattle.std.proofs.Common.{sym, ◌∙◌, subst, arith}
use lib.ListN.{length-set}
use lib.Seq.{get_or-set_same, get_or-set_other}
use Rattle.program.specs.Bytes.{reactors, shape_of, commands_in}
use Rattle.program.specs.Location.{most_locations, source_count, sink_count, command_loc, sink_loc, locations}
use Rattle.load.specs.Scan.{standing_at, kind_at, stand}
use Rattle.load.specs.Rules.{TablesRight}
use Rattle.load.specs.declared.Scan.{Scan}

pub record Sized (s : Scan) : Type 0 where
  pub long : length s.standing ≡ most_locations
  pub wide : length s.kind ≡ most_locations

-- location l has standing st and kind kd
abbrev pub Reads : Scan → ℕ → ℕ → ℕ → Type 0
Reads s l st kd = (standing_at s l ≡ st) × (kind_at s l ≡ kd)

module _ (s : Scan) (l st kd : ℕ) where
  pub stand_sized : Sized s → Sized (stand s l st kd)
  unfolding stand
  stand_sized z = record { long = length-set s.standing l st ∙ z.long; wide = length-set s.kind l kd ∙ z.wide }

  pub stand-next : (stand s l st kd).next ≡ s.next
  unfolding stand
  stand-next = refl

  pub reads_there : Sized s → l < most_locations → Reads (stand s l st kd) l st kd
  unfolding stand standing_at kind_at
  reads_there z h = (
    get_or-set_same s.standing l st 0 (subst (λ m. l < m) (sym z.long) h),
    get_or-set_same s.kind l kd 0 (subst (λ m. l < m) (sym z.wide) h),
  )

  pub reads_else : (j : ℕ) → (j ≡ l → ⊥) → Reads (stand s l st kd) j (standing_at s j) (kind_at s j)
  unfolding stand standing_at kind_at
  reads_else j d = (get_or-set_other s.standing l j st 0 d, get_or-set_other s.kind l j kd 0 d)

-- "up to most_locations locations"
pub few_locations : (p : List ℕ) (r : ℕ) → TablesRight p → r < reactors p → locations p r ≤ most_locations
unfolding locations sink_loc commands_in source_count sink_count
few_locations p r t h =
    let e = t.entries r h in
    let s = t.every_shape (shape_of p r) e.shape in
    omega (arith, e.few_declared, e.few_running, s.few_sources, s.few_sinks)

module _ (p : List ℕ) (r : ℕ) (t : TablesRight p) (low : r < reactors p) where
  pub command_inside : (i : ℕ) → i < commands_in p r → command_loc p r i < most_locations
  unfolding command_loc locations sink_loc
  command_inside i h = omega (arith, few_locations p r t low)

  pub sink_inside : (x : ℕ) → x < sink_count p r → sink_loc p r x < most_locations
  unfolding locations sink_loc
  sink_inside x h = omega (arith, few_locations p r t low)
