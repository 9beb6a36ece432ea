-- Demand 3, whole: `demand_three`, for every accepted program, every memory on which its start succeeds and
-- every list of turns; and `demand_once`, for one turn on any sound image. With `soundness_kept` and
-- `refused_undone`. Assumes nothing.
use Rattle.std.specs.Prelude.{ℕ, ◌≤◌, ◌≡◌, refl, ◌⊎◌, List, length}
use Rattle.std.proofs.Common.{sym, ap, subst, inl, inr, arith}
use Rattle.load.specs.Check.{IsAccepted}
use Rattle.load.specs.Rules.{Rules}
use Rattle.answer.specs.declared.Refusal.{Refusal}
use Rattle.load.proofs.Exact.{exact}
use Rattle.image.proofs.Exact.{rules_soundness}
use Rattle.image.specs.Memory.{most_words}
use Rattle.image.specs.Sound.{SoundImage}
use Rattle.image.specs.Start.{Start}
use Rattle.image.proofs.Memory.Starting.{starts, start_succeeds}
use Rattle.remus.specs.Run.{ran, stopped, main_run}
use Rattle.remus.specs.Walk.{Input, State, step, stop}
use Rattle.remus.specs.Claim.{During, Leaves, AllocatesAt, Claim, Demand, DemandOnce, SoundnessKept}
use Rattle.remus.specs.Undo.{Undoes}
use Rattle.remus.proofs.Walk.Core as Core
use Rattle.remus.proofs.Lists.{TurnHolds, lists}
use Rattle.remus.proofs.Inside.{Ending, leaves, stops, Stop, deep, full, Inside}
use Rattle.remus.proofs.OneTurn.{turn_holds}
use Rattle.remus.proofs.Remembered.{finish}
use Rattle.remus.proofs.Undo.Undoing.{undoes}

-- ---- the inside of a turn

module _ (p : List ℕ) (rules : Rules p) (w : List ℕ) (few : length w ≤ most_words)
    (image : SoundImage p w) (t : Input) where
  ending : ((s : State) × Leaves p w t s × (main_run p t.readings w ≡ ran s.words))
      ⊎ ((s : State) × (v : Refusal) × (m : List ℕ) × During p w t s × (step p t.readings s ≡ stop v)
      × (main_run p t.readings w ≡ stopped v m)) → Ending p w t
  ending (inl e) = leaves e.0 e.1 e.2
  ending (inr e) = stops e.0 e.1 e.2 e.3 e.4 e.5

  why : (v : Refusal) (q h : ℕ) (m : List ℕ) (a : AllocatesAt p w t q h m) →
      Core.Refused p rules w few image t v q h m → Stop p w t a.state v
  why v q h m a (inl e) = subst (Stop p w t a.state) (sym e.0)
      (deep m a.owner a.command a.point a.is (rw a.height e.1))
  why v q h m a (inr e) = subst (Stop p w t a.state) (sym e.0)
      (full m a.owner a.command a.point a.is (rw a.height e.1) e.2)

  stopped_by : (s : State) (v : Refusal) → Stop p w t s v → step p t.readings s ≡ stop v
  stopped_by s v (deep {q} m o c a b e) = Core.stops_deep p rules w few image t q (length s.pile) m
      (record { state = s; owner = o; command = c; point = a; is = b; height = refl }) e
  stopped_by s v (full {q} m o c a b e g) = Core.stops_full p rules w few image t q (length s.pile) m
      (record { state = s; owner = o; command = c; point = a; is = b; height = refl }) e g

  pub inside : Inside p w t
  inside =
      record {
        tiled = Core.tiled p rules w few image t;
        topmost = Core.topmost p rules w few image t;
        carried = Core.carried p rules w few image t;
        values = Core.values p rules w few image t;
        fetched = Core.fetched p rules w few image t;
        inner = Core.inner p rules w few image t;
        onward = λ s d. Core.onward_from p rules w few image t d;
        written = Core.written p rules w few image t;
        walk_ends = λ e. ending (Core.walk_ends p rules w few image t e);
        stopping = λ s v d e.
            let x = Core.stops p rules w few image t s v d e in
            subst (λ (s : State). Stop p w t s v) x.4 (why v x.0 x.1 x.2 x.3 x.5);
        stopped_by = stopped_by;
        finish = finish p rules w few image t;
        made = Core.made p rules w few image t;
        same_length = Core.same_length p rules w few image t;
        same_turns = Core.same_clock p rules w few image t;
      }

-- ---- the claims

-- what holds of each turn on a sound image, and of the memory that it leaves
pub holds : (p w : List ℕ) (t : Input) → IsAccepted p → length w ≤ most_words → SoundImage p w → TurnHolds p w t
holds p w t a few image =
    let rules = (exact p).0 a in
    turn_holds p w t a few image ((rules_soundness p rules w few).1 image) (inside p rules w few image t)

pub demand_once : DemandOnce
demand_once p w t a few image = (holds p w t a few image).lasting.claim

pub soundness_kept : SoundnessKept
soundness_kept p w t a few image = (holds p w t a few image).lasting.sound

pub demand_three : Demand
demand_three p m ts a started =
    let h = (start_succeeds p m).0 started in
    subst (λ (v : List ℕ). Claim p v ts) (sym (ap (λ (s : Start). s.memory) (starts p m h)))
    (lists p (length m) (λ w t e image. holds p w t a (omega (arith, h.words.1)) image) h.room
    ((exact p).0 a).tables.header ts)

pub refused_undone : (p : List ℕ) → IsAccepted p → Undoes p
refused_undone p a = undoes p ((exact p).0 a)
