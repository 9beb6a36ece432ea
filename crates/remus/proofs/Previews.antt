-- What a preview shows and leaves: `preview_foretells`, `preview_refused_leaves`, `work_length_fault`,
-- `preview_numbers`; and that a turn which runs ends with 0, 14 or 15 (`run_number`). Assumes nothing.
use Rattle.std.specs.Prelude.{ℕ, ◌+◌, ◌*◌, ◌≤◌, ◌≡◌, refl, ◌⊎◌, ◌≢◌, true, Ok, Err}
use Rattle.std.proofs.Common.{sym, ◌∙◌, ap, subst, inl, inr, ⊎_elim}
use Rattle.std.specs.Prelude.{false, List, ◌++◌, length, drop}
use Rattle.std.proofs.Common.{arith}
use lib.Seq.{drop-append_seam}
use Rattle.value.specs.Test.{guard}
use Rattle.value.proofs.Tests.{cases, same?, eq!, eq×, goes, stops, yes, no, says×, Says, says_eq, says_or}
use Rattle.program.specs.Bytes.{main_of}
use Rattle.program.specs.Location.{sink_count}
use Rattle.answer.specs.Answer.{number_of, place_of, refusal_number}
use Rattle.answer.specs.Answer.{Answer}
use Rattle.answer.specs.declared.Refusal.{Refusal}
use Rattle.answer.specs.declared.Refusal.TheVariants.{MemoryLength, WorkLength}
use Rattle.answer.specs.Answer.{Ruling}
use Rattle.answer.proofs.Refusals.{refusal_counts}
use Rattle.load.specs.Check.{check_of, IsAccepted}
use Rattle.load.specs.Fault.{CheckNumber}
use Rattle.load.proofs.Exact.Faults.{check_numbers}
use Rattle.load.proofs.Exact.Ladder.{accepted_size}
use Rattle.image.specs.Memory.{most_words, patch}
use Rattle.image.specs.Passes.{sound_of}
use Rattle.image.specs.Passes.{Judged}
use Rattle.image.specs.Sound.{SoundImage}
use Rattle.image.specs.Start.{words_legal}
use Rattle.image.specs.Starting.{Words}
use Rattle.image.proofs.Memory.Patch.{patch-length}
use Rattle.image.proofs.Starts.{words_legal_lem}
use Rattle.remus.specs.Clear.{pairs, sunk}
use Rattle.remus.specs.Run.{Ran, ran, stopped, main_run}
use Rattle.remus.specs.Turn.{Turn, asked_of, turn_refused, by_run, by_asked, by_sound, by_check, turn_of}
use Rattle.remus.specs.Walk.{Input}
use Rattle.remus.specs.Fault.{TurnNumber}
use Rattle.remus.specs.Claim.{Ends, completed, out_of_depth, no_room}
use Rattle.remus.specs.Preview.{Preview, from_run, tried, preview_refused, preview_by, preview_of, Foretold}
use Rattle.remus.specs.Preview.{PreviewForetells, PreviewRefusedLeaves, WorkLengthFault, PreviewNumbers}
use Rattle.remus.proofs.Demand.{demand_once}
use Rattle.remus.proofs.FirstFault.{turn_numbers}
use Rattle.remus.proofs.Fits.{fits, asking, asking_number}
use Rattle.remus.proofs.RefusedLeaves.{refused_keeps}
use Rattle.remus.proofs.Sinks.{pairs_length}

-- ---- a turn again, in the sink space that it has left

module _ (p m rd : List ℕ) where
  -- f, a turn by its sink space
  abbrev Again : (List ℕ → Turn) → List ℕ → Type 0
  Again f sk = f (f sk).sink_space ≡ f sk

  sunk_again : (m' sk : List ℕ) → sunk p m' (sunk p m' sk) ≡ sunk p m' sk
  unfolding sunk patch
  sunk_again m' sk =
      let ws = pairs p m' in
      let z : 0 + length ws ≡ length ws = omega arith in
      rw z (ap (λ (l : List ℕ). ws ++ l) (drop-append_seam ws (drop (length ws) sk)))

  sunk_length : (m' sk : List ℕ) → 2 * sink_count p (main_of p) ≤ length sk → length (sunk p m' sk) ≡ length sk
  unfolding sunk pairs
  sunk_length m' sk h = patch-length sk 0 _ (omega (arith, pairs_length p m' (sink_count p (main_of p)) 0))

  asked_alike : (s sk : List ℕ) → length s ≡ length sk → asked_of p m rd s ≡ asked_of p m rd sk
  unfolding asked_of
  asked_alike s sk e = rw e refl

  run_again : (sk : List ℕ) (r : Ran) → Again (λ s. by_run p m rd s r) sk
  unfolding by_run turn_refused
  run_again sk (ran m') = rw (sunk_again m' sk) refl
  run_again sk (stopped w m') = refl

  run_length : (sk : List ℕ) (r : Ran) → 2 * sink_count p (main_of p) ≤ length sk
      → length (by_run p m rd sk r).sink_space ≡ length sk
  unfolding by_run turn_refused
  run_length sk (ran m') h = sunk_length m' sk h
  run_length sk (stopped w m') h = refl

  abbrev brought : List ℕ → Turn
  brought s = by_asked p m rd s (asked_of p m rd s)

  asked_again : (sk : List ℕ) (a : Ruling) → asked_of p m rd sk ≡ a → Again brought sk
  unfolding by_asked turn_refused
  asked_again sk (Ok tt) e =
      let h = ((fits p m (record { readings = rd; sink_space = sk })).1 e).room in
      let s = (by_run p m rd sk (main_run p rd m)).sink_space in
      let f : asked_of p m rd s ≡ Ok tt = asked_alike s sk (run_length sk (main_run p rd m) h) ∙ e in
      rw (e, f) (run_again sk (main_run p rd m))
  asked_again sk (Err w) e = rw (e, e) refl

  judged_again : (sk : List ℕ) (j : Judged) → Again (λ s. by_sound p m rd s j) sk
  unfolding by_sound turn_refused
  judged_again sk (Ok tt) = asked_again sk (asked_of p m rd sk) refl
  judged_again sk (Err q) = refl

  checked_again : (sk : List ℕ) (c : Answer) → Again (λ s. by_check p m rd s c) sk
  unfolding by_check turn_refused guard
  checked_again sk (Ok size) =
      cases (words_legal (length m)) (λ e. rw e (judged_again sk (sound_of p m))) (λ e. rw e refl)
  checked_again sk (Err w) = refl

  turn_again : (sk : List ℕ) → Again (turn_of p m rd) sk
  unfolding turn_of
  turn_again sk = checked_again sk (check_of p)

-- ---- the numbers that come from the run

from_run_says : (n : ℕ) → Says (from_run n) ((n ≡ 0) ⊎ (n ≡ 14) ⊎ (n ≡ 15))
unfolding from_run
from_run_says n = says_or says_eq (says_or says_eq says_eq)

not_from_run : (n : ℕ) → n ≢ 0 → n ≢ 14 → n ≢ 15 → from_run n ≡ false
not_from_run n a b c = (says× (from_run_says n)).1 (⊎_elim a (⊎_elim b c))

module _ (p m rd sk : List ℕ) where
  abbrev t : Input
  t = record { readings = rd; sink_space = sk }

  ends_number : (r : Turn) → Ends p m t r → from_run (number_of r.answer) ≡ true
  ends_number r (completed s l e w a) = (from_run_says _).1 (inl (ap number_of e))
  ends_number r (out_of_depth q e) = (from_run_says _).1 (inr (inr (ap number_of e)))
  ends_number r (no_room q e) = (from_run_says _).1 (inr (inl (ap number_of e)))

  pub run_number : IsAccepted p → length m ≤ most_words → SoundImage p m → asked_of p m rd sk ≡ Ok tt
      → from_run (number_of (turn_of p m rd sk).answer) ≡ true
  run_number a l s e =
      let c = demand_once p m t a l s in
      ends_number (turn_of p m rd sk) (c.ends (turn_of p m rd sk) ((fits p m t).1 e) c.result)

  pub asked_number : (w : Refusal) → asked_of p m rd sk ≡ Err w → from_run (refusal_number w) ≡ false
  asked_number w e =
      let b = asking_number ((asking p m rd sk w).0 e) in
      not_from_run _ (λ z. omega arith) (λ z. omega arith) (λ z. omega arith)

-- a turn that was refused without having run, tried
pub tried_kept : (p m work rd sk : List ℕ) (w : Refusal) → from_run (refusal_number w) ≡ false
    → preview_refused p m work rd sk w ≡ tried work (turn_refused p m rd sk w)
unfolding preview_refused tried turn_refused
tried_kept p m work rd sk w n =
    ap (λ (l : List ℕ). record { answer = Err w; work = l; sink_space = sk }) (no m n refl)

-- ---- how a preview ends

-- it is refused as the turn is, before it comes to the work memory; by 22; or it comes to what the turn does
data Shown (p m work rd sk : List ℕ) (v : Preview) : Type 0 where
  before : (w : Refusal) → CheckNumber (refusal_number w) ⊎ (refusal_number w ≡ 8)
      → turn_of p m rd sk ≡ turn_refused p m rd sk w → v ≡ preview_refused p m work rd sk w → Shown p m work rd sk v
  unequal : IsAccepted p → Words m → length work ≢ length m
      → v ≡ preview_refused p m work rd sk (WorkLength (length work)) → Shown p m work rd sk v
  equal : v ≡ tried work (turn_of p m rd sk) → Shown p m work rd sk v

module _ (p m work rd sk : List ℕ) where
  pub at_program : (w : Refusal) → check_of p ≡ Err w
      → (turn_of p m rd sk ≡ turn_refused p m rd sk w) × (preview_of p m work rd sk ≡ preview_refused p m work rd sk w)
  unfolding preview_of preview_by turn_of by_check
  at_program w e = rw e (refl, refl)

  module _ (size : ℕ) (e : check_of p ≡ Ok size) where
    pub at_words : words_legal (length m) ≡ false → let w = MemoryLength (length m) in
        (turn_of p m rd sk ≡ turn_refused p m rd sk w) × (preview_of p m work rd sk ≡ preview_refused p m work rd sk w)
    unfolding preview_of preview_by turn_of by_check
    at_words l = rw e (sym (stops _ l refl), sym (stops _ l refl))

    module _ (l : words_legal (length m) ≡ true) where
      pub at_work : length work ≢ length m
          → preview_of p m work rd sk ≡ preview_refused p m work rd sk (WorkLength (length work))
      unfolding preview_of preview_by
      at_work q = rw e (sym (goes _ _ l (stops _ (eq× q) refl)))

      at_turn : length work ≡ length m → preview_of p m work rd sk ≡ tried work (turn_of p m rd sk)
      unfolding preview_of preview_by
      at_turn q = rw e (sym (goes _ _ l (goes _ _ (eq! q) refl)))

  shown : (c : Answer) → check_of p ≡ c → Shown p m work rd sk (preview_of p m work rd sk)
  shown (Ok size) e =
      let a : IsAccepted p = rw e refl in
      cases (words_legal (length m))
      (λ l.
      ⊎_elim (λ q. equal (at_turn size e l q)) (λ q. unequal a ((words_legal_lem _).0 l) q (at_work size e l q))
      (same? (length work) (length m)))
      (λ l. let h = at_words size e l in before (MemoryLength (length m)) (inr refl) h.0 h.1)
  shown (Err w) e =
      let h = at_program w e in before w (inl (subst CheckNumber (ap number_of e) (check_numbers p))) h.0 h.1

-- what is tested before the work memory is neither 14 nor 15 nor 22
early : (n : ℕ) → CheckNumber n ⊎ (n ≡ 8) → (n ≢ 14) × (n ≢ 15) × (n ≢ 22)
early n (inl (inl h)) = (λ e. omega arith, λ e. omega arith, λ e. omega arith)
early n (inl (inr (inl h))) =
    (λ e. omega (arith, h.0), λ e. omega (arith, h.0), λ e. omega (arith, h.1))
early n (inl (inr (inr h))) = (λ e. omega arith, λ e. omega arith, λ e. omega arith)
early n (inr h) = (λ e. omega arith, λ e. omega arith, λ e. omega arith)

-- where the lengths are equal, a preview is the turn tried, also where program or memory is refused
tried_or_not : (p m work rd sk : List ℕ) (v : Preview) → Shown p m work rd sk v → length work ≡ length m
    → v ≡ tried work (turn_of p m rd sk)
tried_or_not p m work rd sk v (before w n f e) l =
    let k = refusal_counts w in
    let a = early _ n in
    let h = not_from_run (refusal_number w) (λ z. omega arith) a.0 a.1 in
    e ∙ tried_kept p m work rd sk w h ∙ ap (tried work) (sym f)
tried_or_not p m work rd sk v (unequal a w q e) l = absurd (q l)
tried_or_not p m work rd sk v (equal e) l = e

pub preview_tried : (p m work rd sk : List ℕ) → length work ≡ length m
    → preview_of p m work rd sk ≡ tried work (turn_of p m rd sk)
preview_tried p m work rd sk = tried_or_not p m work rd sk _ (shown p m work rd sk (check_of p) refl)

-- ---- what the turn then does

-- v shows what the turn does, in the sink space from before the preview, and in the one that v leaves
abbrev Foretells : List ℕ → List ℕ → List ℕ → List ℕ → Preview → Type 0
Foretells p m rd sk v = Foretold v (turn_of p m rd sk) × Foretold v (turn_of p m rd v.sink_space)

foretold_tried : (work : List ℕ) (t : Turn) → Foretold (tried work t) t
unfolding tried
foretold_tried work t =
    record { answer = refl; sinks = refl; memory = λ n. yes work ((from_run_says _).1 (inl n)) refl }

module _ (p m work rd sk : List ℕ) where
  foretold_refused : (w : Refusal) → Foretold (preview_refused p m work rd sk w) (turn_refused p m rd sk w)
  unfolding preview_refused turn_refused
  foretold_refused w =
      record { answer = refl; sinks = refl; memory = λ n. absurd (omega (arith, n, refusal_counts w)) }

  shown_before : (w : Refusal) → turn_of p m rd sk ≡ turn_refused p m rd sk w
      → Foretells p m rd sk (preview_refused p m work rd sk w)
  unfolding preview_refused
  shown_before w f = let h = subst (Foretold _) (sym f) (foretold_refused w) in (h, h)

  shown_equal : Foretells p m rd sk (tried work (turn_of p m rd sk))
  unfolding tried
  shown_equal =
      let h = foretold_tried work (turn_of p m rd sk) in (h, subst (Foretold _) (sym (turn_again p m rd sk)) h)

  foretells : (v : Preview) → Shown p m work rd sk v → number_of v.answer ≢ 22 → Foretells p m rd sk v
  unfolding preview_refused
  foretells v (before w n f e) x = subst (Foretells p m rd sk) (sym e) (shown_before w f)
  foretells v (unequal a l q e) x = absurd (x (ap (λ (u : Preview). number_of u.answer) e))
  foretells v (equal e) x = subst (Foretells p m rd sk) (sym e) shown_equal

pub preview_foretells : PreviewForetells
preview_foretells p m work rd sk = foretells p m work rd sk _ (shown p m work rd sk (check_of p) refl)

-- ---- what it leaves

abbrev Leaves : List ℕ → List ℕ → List ℕ → Preview → Type 0
Leaves m work sk v = let n = number_of v.answer in
    n ≢ 0 → (v.sink_space ≡ sk) × ((n ≡ 14) ⊎ (n ≡ 15) → v.work ≡ m) × (n ≢ 14 → n ≢ 15 → v.work ≡ work)

module _ (p m work rd sk : List ℕ) where
  refused_leaves : (w : Refusal) → refusal_number w ≢ 14 → refusal_number w ≢ 15
      → Leaves m work sk (preview_refused p m work rd sk w)
  unfolding preview_refused
  refused_leaves w n k x = (refl, λ e. absurd (⊎_elim n k e), λ a b. refl)

  tried_leaves : Leaves m work sk (tried work (turn_of p m rd sk))
  unfolding tried
  tried_leaves x =
      let k = refused_keeps p m rd sk x in (
        k.1,
        λ e. sym (yes work ((from_run_says _).1 (inr e)) (sym k.0)),
        λ a b. sym (no _ (not_from_run _ x a b) refl),
      )

  leaves : (v : Preview) → Shown p m work rd sk v → Leaves m work sk v
  leaves v (before w n f e) =
      let k = early _ n in subst (Leaves m work sk) (sym e) (refused_leaves w k.0 k.1)
  leaves v (unequal a l q e) = subst (Leaves m work sk) (sym e) (refused_leaves _ (λ z. omega arith) (λ z. omega arith))
  leaves v (equal e) = subst (Leaves m work sk) (sym e) tried_leaves

pub preview_refused_leaves : PreviewRefusedLeaves
preview_refused_leaves p m work rd sk = leaves p m work rd sk _ (shown p m work rd sk (check_of p) refl)

-- ---- 22

turn_not_22 : (n : ℕ) → TurnNumber n → n ≢ 22
turn_not_22 n (inl h) e = (early n (inl h)).2 e
turn_not_22 n (inr h) e = omega (arith, h.1)

module _ (p m work rd sk : List ℕ) (q : ℕ) where
  abbrev At : Type 0
  At = IsAccepted p × Words m × (length work ≢ length m) × (q ≡ length work)

  -- v is refused by 22, with place q
  told : (v : Preview) → Shown p m work rd sk v → v.answer ≡ Err (WorkLength q) → At
  unfolding preview_refused tried
  told v (before w n f e) r = absurd ((early _ n).2 (ap number_of (sym (ap (λ (u : Preview). u.answer) e) ∙ r)))
  told v (unequal a l k e) r = (a, l, k, ap place_of (sym r ∙ ap (λ (u : Preview). u.answer) e))
  told v (equal e) r =
      absurd (turn_not_22 _ (turn_numbers p m rd sk) (ap number_of (sym (ap (λ (u : Preview). u.answer) e) ∙ r)))

  given : At → (preview_of p m work rd sk).answer ≡ Err (WorkLength q)
  unfolding preview_refused
  given (a, l, k, e) =
      ap (λ (u : Preview). u.answer) (at_work p m work rd sk _ (accepted_size p a) ((words_legal_lem _).1 l) k)
      ∙ ap (λ (n : ℕ). Err (WorkLength n)) (sym e)

pub work_length_fault : WorkLengthFault
work_length_fault p m work rd sk q =
    (told p m work rd sk q _ (shown p m work rd sk (check_of p) refl), given p m work rd sk q)

number_of_lem : (p m work rd sk : List ℕ) (v : Preview) → Shown p m work rd sk v
    → TurnNumber (number_of v.answer) ⊎ (number_of v.answer ≡ 22)
unfolding preview_refused tried
number_of_lem p m work rd sk v (before w (inl n) f e) = rw e (inl (inl n))
number_of_lem p m work rd sk v (before w (inr n) f e) = rw (e, n) (inl (inr (omega arith, omega arith)))
number_of_lem p m work rd sk v (unequal a l q e) = rw e (inr refl)
number_of_lem p m work rd sk v (equal e) = rw e (inl (turn_numbers p m rd sk))

pub preview_numbers : PreviewNumbers
preview_numbers p m work rd sk = number_of_lem p m work rd sk _ (shown p m work rd sk (check_of p) refl)
