-- A change of memory that writes, makes and wires no more than is allowed keeps what is unbroken, and is later.
use Rattle.std.specs.Prelude.{ℕ, ◌≤◌, ◌<◌, ◌≡◌, ◌⊎◌, ◌≢◌, List}
use Rattle.std.proofs.Common.{sym, ◌∙◌, inl, inr, arith}
use Rattle.value.specs.Value.{blank, deployment_mark}
use Rattle.program.specs.Bytes.{commands_d, commands_in}
use Rattle.program.specs.Command.{cmd_of, make_poly}
use Rattle.program.specs.Location.{command_loc, HasSlot}
use Rattle.program.specs.Kind.{kind_of, OfKind}
use Rattle.program.proofs.Slots.{slot_d}
use Rattle.load.proofs.Exact.Static.{DeploymentBefore}
use Rattle.image.specs.Memory.{used, reactor, wired, mark, content, value_at}
use Rattle.image.specs.Sound.{Deployed, PointSlot}
use Rattle.image.proofs.Memory.Changes.{Same, Change, same_value, value_mark, stays}
use Rattle.image.proofs.Memory.Slots.{point_kept}
use Rattle.remus.proofs.Walk.ChangeParts.{old_or_new}
use Rattle.remus.proofs.Walk.Operands.{operand_slot}
use Rattle.remus.proofs.Undo.Search.{Newer, as_was}
use Rattle.remus.proofs.Walk.MidTurn.{own, cmd}
use Rattle.remus.proofs.Undo.Unbroken.{Holds, Held, Kinded, Unbroken, Later}

module _ (p : List ℕ) where
  -- what a change may do to what is unbroken
  pub record Allowed (W : ℕ → ℕ → Type 0) (N L : ℕ → Type 0) (m m' : List ℕ) : Type 0 where
    -- a new deployment is unwired, its slots blank
    pub raw : (d : ℕ) → N d → wired m' d ≡ 0
    pub blank_slots : (d l : ℕ) → N d → HasSlot p (reactor m' d) l → value_at p m' d l ≡ blank
    -- a branch point that is written, or whose deployment is wired, heads a chain
    pub points : (o j x : ℕ) → Deployed p m o → j < commands_d p (reactor m o) → cmd p m o j ≡ make_poly x
        → W o (own p m o j) ⊎ L o → wired m' o ≢ 0 → PointSlot p m' o (own p m o j) x
    pub held : (o s b : ℕ) → Deployed p m o → Holds p m o s b → W o b → mark p m' o b ≡ deployment_mark → Held p m' o s b
    pub kinds : (d l : ℕ) → Deployed p m d → HasSlot p (reactor m d) l → W d l → 2 ≤ kind_of p (reactor m d) l
        → OfKind p (kind_of p (reactor m d) l) (value_at p m' d l)

  module _ {W : ℕ → ℕ → Type 0} {N L : ℕ → Type 0} {m m' : List ℕ} (f : Unbroken p m) (c : Change p W N L m m')
      (a : Allowed W N L m m') where
    points' : (o j x : ℕ) → Deployed p m' o → wired m' o ≢ 0 → j < commands_d p (reactor m' o)
        → cmd p m' o j ≡ make_poly x → PointSlot p m' o (own p m' o j) x
    points' o j x i w =
        old_or_new p c (λ r. j < commands_d p r → cmd_of p r j ≡ make_poly x → PointSlot p m' o (command_loc p r j) x) o i
        (λ t h e. side t h e (c.slots o (own p m o j) t (slot_d p (reactor m o) j h)) (c.wireds o t))
        (λ n h e. absurd (w (a.raw o n)))
      where
        side : Deployed p m o → j < commands_d p (reactor m o) → cmd p m o j ≡ make_poly x
            → Same p m m' o (own p m o j) ⊎ W o (own p m o j) → (wired m' o ≡ wired m o) ⊎ L o
            → PointSlot p m' o (own p m o j) x
        side t h e (inl z) (inl y) = point_kept p (stays p c) z (f.points o j x t (rw y at w) h e)
        side t h e (inl z) (inr y) = a.points o j x t h e (inr y) w
        side t h e (inr z) y = a.points o j x t h e (inl z) w

    held_kept : (o s b : ℕ) → Same p m m' o b → Held p m o s b → Held p m' o s b
    held_kept o s b z k = record {
      deployed = rw z.contents (c.kept _ k.deployed);
      shape = rw (z.contents, c.reactors (content p m o b) k.deployed) k.shape;
    }

    held' : (o s b : ℕ) → Deployed p m' o → Holds p m' o s b → mark p m' o b ≡ deployment_mark → Held p m' o s b
    held' o s b i h e = old_or_new p c (λ r. DeploymentBefore p r (commands_in p r) s b → Held p m' o s b) o i old new h
      where
        old : Deployed p m o → Holds p m o s b → Held p m' o s b
        old t k = side (c.slots o b t (operand_slot p (reactor m o) (commands_in p (reactor m o)) s b (omega arith) k))
          where
            side : Same p m m' o b ⊎ W o b → Held p m' o s b
            side (inl z) = held_kept o s b z (f.held o s b t k (sym z.marks ∙ e))
            side (inr z) = a.held o s b t k z e

        new : N o → Holds p m' o s b → Held p m' o s b
        new n k =
            let has_slot = operand_slot p (reactor m' o) (commands_in p (reactor m' o)) s b (omega arith) k in
            absurd (omega (arith, value_mark p m' o b (a.blank_slots o b n has_slot)))

    kinds' : (d l : ℕ) → Deployed p m' d → HasSlot p (reactor m' d) l → Kinded p m' d l
    kinds' d l i =
        old_or_new p c (λ r. HasSlot p r l → 2 ≤ kind_of p r l → OfKind p (kind_of p r l) (value_at p m' d l)) d i
        (λ t h k. side t h k (c.slots d l t h)) (λ n h k. inl (a.blank_slots d l n h))
      where
        side : Deployed p m d → HasSlot p (reactor m d) l → 2 ≤ kind_of p (reactor m d) l → Same p m m' d l ⊎ W d l
            → OfKind p (kind_of p (reactor m d) l) (value_at p m' d l)
        side t h k (inl z) = rw (same_value p d l z) (f.kinds d l t h k)
        side t h k (inr z) = a.kinds d l t h z k

    pub firm_kept : Unbroken p m'
    firm_kept = record { good = c.good; points = points'; held = held'; kinds = kinds' }

  module _ {W : ℕ → ℕ → Type 0} {N L : ℕ → Type 0} {m m' : List ℕ} (c : Change p W N L m m') where
    -- a change is later if it wires to 1, and writes of wired deployments no D slot but branch points, and those so
    -- that they gain new members only
    pub later_by : used m ≤ used m' → ((d : ℕ) → L d → wired m' d ≡ 1) → ((d j : ℕ) → Deployed p m d
        → wired m d ≢ 0 → j < commands_d p (reactor m d) → ((x : ℕ) → cmd p m d j ≢ make_poly x) → W d (own p m d j) → ⊥)
        → ((d j x : ℕ) → Deployed p m d → wired m d ≢ 0 → j < commands_d p (reactor m d)
        → cmd p m d j ≡ make_poly x → W d (own p m d j) → (mark p m' d (own p m d j) ≡ mark p m d (own p m d j))
        × Newer p m' (used m) (content p m d (own p m d j)) (content p m' d (own p m d j)))
        → Later p m m'
    later_by grows wiring fixed_spared point_grows =
        record {
          len = c.len;
          clock = c.clock;
          grows = grows;
          kept = c.kept;
          reactors = c.reactors;
          nexts = c.nexts;
          wireds = λ d i. wire d (c.wireds d i);
          fixed = λ d j i w h e. spared d j i w h e (c.slots d (own p m d j) i (has_slot d j h));
          points = λ d j x i w h e. grown d j x i w h e (c.slots d (own p m d j) i (has_slot d j h));
        }
      where
        has_slot : (d j : ℕ) → j < commands_d p (reactor m d) → HasSlot p (reactor m d) (own p m d j)
        has_slot d j h = slot_d p (reactor m d) j h

        wire : (d : ℕ) → (wired m' d ≡ wired m d) ⊎ L d → (wired m' d ≡ wired m d) ⊎ (wired m' d ≡ 1)
        wire d (inl e) = inl e
        wire d (inr l) = inr (wiring d l)

        spared : (d j : ℕ) → Deployed p m d → wired m d ≢ 0 → j < commands_d p (reactor m d)
            → ((x : ℕ) → cmd p m d j ≢ make_poly x) → Same p m m' d (own p m d j) ⊎ W d (own p m d j)
            → Same p m m' d (own p m d j)
        spared d j i w h e (inl z) = z
        spared d j i w h e (inr z) = absurd (fixed_spared d j i w h e z)

        grown : (d j x : ℕ) → Deployed p m d → wired m d ≢ 0 → j < commands_d p (reactor m d) → cmd p m d j ≡ make_poly x
            → Same p m m' d (own p m d j) ⊎ W d (own p m d j) → (mark p m' d (own p m d j) ≡ mark p m d (own p m d j))
            × Newer p m' (used m) (content p m d (own p m d j)) (content p m' d (own p m d j))
        grown d j x i w h e (inl z) = (z.marks, rw z.contents as_was)
        grown d j x i w h e (inr z) = point_grows d j x i w h e z
