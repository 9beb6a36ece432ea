-- Memory of the figure's words or more meets neither 14 nor 15: in any turn and preview on a sound image
-- (`enough_once`), and after any turns from a start (`enough`).
use Rattle.std.specs.Prelude.{ℕ, ◌+◌, ◌≤◌, ◌≡◌, refl, ◌≢◌, List, [], ◌∷◌, length, Ok, Err}
use Rattle.std.proofs.Common.{◌∙◌, ap, inl, arith}
use Rattle.program.specs.Bytes.{main_of}
use Rattle.program.specs.Location.{size_of}
use Rattle.answer.specs.Answer.{refusal_number, refusal_place, number_of, place_of}
use Rattle.answer.specs.Answer.{Answer}
use Rattle.answer.specs.declared.Refusal.{Refusal}
use Rattle.answer.specs.declared.Refusal.TheVariants.{NoRoom, TooDeep}
use Rattle.answer.proofs.Refusals.{refusals_apart, refusal_counts}
use Rattle.load.specs.Check.{IsAccepted}
use Rattle.load.specs.Rules.{Rules}
use Rattle.load.proofs.Exact.{exact}
use Rattle.image.specs.Memory.{most_words, most_depth, main_at, used}
use Rattle.image.specs.Sound.{SoundImage}
use Rattle.image.specs.Start.{start_of}
use Rattle.image.specs.Starting.{Startable}
use Rattle.image.proofs.Memory.Starting.{start_succeeds, start_leaves}
use Rattle.remus.specs.Turn.{Turn, turn_of}
use Rattle.remus.specs.Preview.{preview_of}
use Rattle.remus.specs.Walk.{Input}
use Rattle.remus.specs.Claim.{AllocatesAt, TurnClaim, memory_after}
use Rattle.remus.proofs.Demand.{holds, demand_once}
use Rattle.remus.proofs.Previews.{preview_foretells}
use Rattle.remus.proofs.Walk.Core as Core
use Rattle.figure.specs.Steps.{Straight}
use Rattle.figure.specs.Bound.{bound_of, bound_by}
use Rattle.figure.specs.Claim.{NotShort, EnoughOnce, Enough}
use Rattle.figure.proofs.Closure.{rank, rank_falls, rank_low}
use Rattle.figure.proofs.Circles.{low, main}
use Rattle.figure.proofs.Answers.{bounds_exact, figure_given}
use Rattle.figure.proofs.Never.{allocation_fits}

-- ---- one turn

module _ (p : List ℕ) (a : IsAccepted p) (straight : Straight p) (w : List ℕ) (few : length w ≤ most_words)
    (image : SoundImage p w) (t : Input) where
  rules : Rules p
  rules = (exact p).0 a

  within : (q h : ℕ) (m : List ℕ) → AllocatesAt p w t q h m
      → (used m + size_of p q ≤ main_at + bound_of p (main_of p)) × (h + 1 ≤ most_depth)
  within q h m x =
      let few_reactors = rules.tables.header.few_reactors in
      let steps = low p rules in
      let k = Core.at p rules w few image t x.state m x.owner x.command x.point in
      let f = allocation_fits p (Core.known p rules w few image t) few_reactors few k.inv k.less (bound_of p)
      (bounds_exact p a straight) (rank p) (rank_falls p steps (main p rules) straight) x.command k.is x.is in
      let r = rank_low p steps (main p rules) straight (main_of p) (inl refl) in
      (f.0, omega (arith, f.1, k.height, x.height))

  abbrev result : Turn
  result = turn_of p w t.readings t.sink_space

  claim : TurnClaim p w t
  claim = demand_once p w t a few image

  not_deep : (q : ℕ) → result.answer ≡ Err (TooDeep q) → ⊥
  not_deep q e =
      let x = (claim.deep result q claim.result).0 e in
      omega (arith, (within q x.0 x.1 x.2).1, x.3)

  not_full : main_at + bound_of p (main_of p) ≤ length w → (q : ℕ) → result.answer ≡ Err (NoRoom q) → ⊥
  not_full l q e =
      let x = (claim.full result q claim.result).0 e in
      omega (arith, (within q x.0 x.1 x.2).0, x.4)

-- number and place tell which refusal an answer is
refused_as : (a : Answer) (v : Refusal) → number_of a ≡ refusal_number v → place_of a ≡ refusal_place v → a ≡ Err v
refused_as (Ok u) v n q = absurd (omega (arith, refusal_counts v))
refused_as (Err r) v n q = ap Err (refusals_apart r v n q)

-- a preview that is not refused by 22 has the turn's number
previewed : (p w work rd sk : List ℕ) → NotShort (turn_of p w rd sk).answer
    → NotShort (preview_of p w work rd sk).answer
previewed p w work rd sk n = (λ e. n.0 (same (omega arith) ∙ e), λ e. n.1 (same (omega arith) ∙ e))
  where
    same : number_of (preview_of p w work rd sk).answer ≢ 22
        → number_of (turn_of p w rd sk).answer ≡ number_of (preview_of p w work rd sk).answer
    same z = ap number_of (preview_foretells p w work rd sk z).0.answer

pub enough_once : EnoughOnce
enough_once p w work n t e l few image =
    let g = (figure_given p n).0 e in
    let r = (turn_of p w t.readings t.sink_space).answer in
    let q = place_of r in
    let turn : NotShort r = (
      λ z. not_full p g.0 g.1 w few image t (omega (arith, g.2)) q (refused_as r (NoRoom q) z refl),
      λ z. not_deep p g.0 g.1 w few image t q (refused_as r (TooDeep q) z refl),
    ) in
    (turn, previewed p w work t.readings t.sink_space turn)

-- ---- a list of turns

-- turns leave a sound image as long as before
after : (p : List ℕ) → IsAccepted p → (ts : List Input) (w : List ℕ) → length w ≤ most_words → SoundImage p w
    → (length (memory_after p w ts) ≡ length w) × SoundImage p (memory_after p w ts)
unfolding memory_after
after p a [] w few image = (refl, image)
after p a (t ∷ ts) w few image =
    let h = (holds p w t a few image).lasting in
    let f = after p a ts (turn_of p w t.readings t.sink_space).memory (omega (arith, h.same_length)) h.sound in
    (f.0 ∙ h.same_length, f.1)

pub enough : Enough
unfolding bound_by
enough p m work n ts t e l few =
    let g = (figure_given p n).0 e in
    let b = bounds_exact p g.0 g.1 (main_of p) (inl refl) in
    let ready : Startable p m =
    record { accepted = g.0; words = (omega (arith, g.2), few); room = omega (arith, g.2) } in
    let s = start_leaves p m ready in
    let f = after p g.0 ts (start_of p m).memory (omega (arith, s.same_length)) s.sound in
    let long : length (memory_after p (start_of p m).memory ts) ≡ length m = f.0 ∙ s.same_length in
    let once = enough_once p _ work n t e (omega arith) (omega arith) f.1 in
    ((start_succeeds p m).1 ready, once.0, once.1)
