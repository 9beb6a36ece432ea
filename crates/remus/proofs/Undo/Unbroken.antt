-- What a turn never breaks, whatever its readings: `Unbroken` holds of the words at each moment, `Later` between the
-- words of two moments. Both are kept by a change of memory that writes no more than a command may.
use Rattle.std.specs.Prelude.{ℕ, ◌≤◌, ◌<◌, ◌≡◌, refl, ◌⊎◌, ◌≢◌, List, length}
use Rattle.std.proofs.Common.{◌∙◌, inl, inr, arith}
use Rattle.value.specs.Value.{deployment_mark}
use Rattle.program.specs.Bytes.{shape_of, commands_d, commands_in}
use Rattle.program.specs.Command.{make_poly}
use Rattle.program.specs.Location.{HasSlot}
use Rattle.program.specs.Kind.{kind_of, OfKind}
use Rattle.load.proofs.Exact.Static.{DeploymentBefore}
use Rattle.image.specs.Memory.{used, turns, reactor, wired, next, mark, content, value_at}
use Rattle.image.specs.Sound.{Deployed, PointSlot}
use Rattle.image.proofs.Memory.Changes.{Good, Same, same_self, same_on}
use Rattle.remus.proofs.Walk.MidTurn.{own, cmd}
use Rattle.remus.proofs.Undo.Search.{Newer, as_was, one_more}

module _ (p : List ℕ) where
  -- location b of o is that of a deployment of shape s
  abbrev pub Holds : List ℕ → ℕ → ℕ → ℕ → Type 0
  Holds m o s b = DeploymentBefore p (reactor m o) (commands_in p (reactor m o)) s b

  -- and there is one
  pub record Held (m : List ℕ) (o s b : ℕ) : Type 0 where
    pub deployed : Deployed p m (content p m o b)
    pub shape : shape_of p (reactor m (content p m o b)) ≡ s

  -- the value at location l of d is of its kind, if that is a reactor's
  abbrev pub Kinded : List ℕ → ℕ → ℕ → Type 0
  Kinded m d l = 2 ≤ kind_of p (reactor m d) l → OfKind p (kind_of p (reactor m d) l) (value_at p m d l)

  pub record Unbroken (m : List ℕ) : Type 0 where
    pub good : Good p m
    -- the branch points of a wired deployment head chains
    pub points : (o j x : ℕ) → Deployed p m o → wired m o ≢ 0 → j < commands_d p (reactor m o) → cmd p m o j ≡ make_poly x
        → PointSlot p m o (own p m o j) x
    -- what is marked as a deployment is one
    pub held : (o s b : ℕ) → Deployed p m o → Holds m o s b → mark p m o b ≡ deployment_mark → Held m o s b
    pub kinds : (d l : ℕ) → Deployed p m d → HasSlot p (reactor m d) l → Kinded m d l

  pub record Later (m m' : List ℕ) : Type 0 where
    pub len : length m' ≡ length m
    pub clock : turns m' ≡ turns m
    pub grows : used m ≤ used m'
    pub kept : (d : ℕ) → Deployed p m d → Deployed p m' d
    pub reactors : (d : ℕ) → Deployed p m d → reactor m' d ≡ reactor m d
    pub nexts : (d : ℕ) → Deployed p m d → next m' d ≡ next m d
    pub wireds : (d : ℕ) → Deployed p m d → (wired m' d ≡ wired m d) ⊎ (wired m' d ≡ 1)
    -- of a wired deployment, a branch point's chain gets new members only, and every other D slot stays: an
    -- AllocMono's, and a cell's
    pub fixed : (d j : ℕ) → Deployed p m d → wired m d ≢ 0 → j < commands_d p (reactor m d)
        → ((x : ℕ) → cmd p m d j ≢ make_poly x) → Same p m m' d (own p m d j)
    pub points : (d j x : ℕ) → Deployed p m d → wired m d ≢ 0 → j < commands_d p (reactor m d) → cmd p m d j ≡ make_poly x
        → (mark p m' d (own p m d j) ≡ mark p m d (own p m d j))
        × Newer p m' (used m) (content p m d (own p m d j)) (content p m' d (own p m d j))

  -- ---- moments in order

  pub later_refl : (m : List ℕ) → Later m m
  later_refl m =
      record {
        len = refl;
        clock = refl;
        grows = omega arith;
        kept = λ d i. i;
        reactors = λ d i. refl;
        nexts = λ d i. refl;
        wireds = λ d i. inl refl;
        fixed = λ d j i w h e. same_self p;
        points = λ d j x i w h e. (refl, as_was);
      }

  pub still_wired : {m m' : List ℕ} → Later m m' → (d : ℕ) → Deployed p m d → wired m d ≢ 0 → wired m' d ≢ 0
  still_wired {m} {m'} l d i w = by (l.wireds d i)
    where
      by : (wired m' d ≡ wired m d) ⊎ (wired m' d ≡ 1) → wired m' d ≢ 0
      by (inl e) = omega arith
      by (inr e) = omega arith

  newer_to : {m m' : List ℕ} {u v c₀ c : ℕ} → Later m m' → v ≤ u → Newer p m u c₀ c → Newer p m' v c₀ c
  newer_to l h as_was = as_was
  newer_to {m} {m'} {v = v} {c₀ = c₀} l h (one_more {c = c} i k n) =
      let r : Newer p m' v c₀ (next m' c) = rw (l.nexts c i) (newer_to l h n) in
      one_more {c = c} (l.kept c i) (omega arith) r

  newer_then : {m : List ℕ} {u a b c : ℕ} → Newer p m u a b → Newer p m u b c → Newer p m u a c
  newer_then f as_was = f
  newer_then f (one_more i k n) = one_more i k (newer_then f n)

  pub later_trans : {m m₁ m₂ : List ℕ} → Later m m₁ → Later m₁ m₂ → Later m m₂
  later_trans {m} {m₁} {m₂} f g =
      record {
        len = g.len ∙ f.len;
        clock = g.clock ∙ f.clock;
        grows = omega (arith, f.grows, g.grows);
        kept = λ d i. g.kept d (f.kept d i);
        reactors = λ d i. g.reactors d (f.kept d i) ∙ f.reactors d i;
        nexts = λ d i. g.nexts d (f.kept d i) ∙ f.nexts d i;
        wireds = λ d i. wire d (f.wireds d i) (g.wireds d (f.kept d i));
        fixed = λ d j i w h e.
            let r = f.reactors d i in
            let b = g.fixed d j (f.kept d i) (still_wired f d i w) (rw r h) (rw r e) in
            same_on p (f.fixed d j i w h e) (rw r at b);
        points = λ d j x i w h e.
            let r = f.reactors d i in
            let a = f.points d j x i w h e in
            let b : (mark p m₂ d (own p m d j) ≡ mark p m₁ d (own p m d j))
            × Newer p m₂ (used m₁) (content p m₁ d (own p m d j)) (content p m₂ d (own p m d j))
            = rw r at (g.points d j x (f.kept d i) (still_wired f d i w) (rw r h) (rw r e)) in
            (b.0 ∙ a.0, newer_then (newer_to g (omega arith) a.1) (newer_to (later_refl m₂) f.grows b.1));
      }
    where
      wire : (d : ℕ) → (wired m₁ d ≡ wired m d) ⊎ (wired m₁ d ≡ 1) → (wired m₂ d ≡ wired m₁ d) ⊎ (wired m₂ d ≡ 1)
          → (wired m₂ d ≡ wired m d) ⊎ (wired m₂ d ≡ 1)
      wire d (inl a) (inl b) = inl (b ∙ a)
      wire d (inr a) (inl b) = inr (b ∙ a)
      wire d a (inr b) = inr b
