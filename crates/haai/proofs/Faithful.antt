-- In any list of turns from a start each completed turn's sinks are what the text means: for a program that is
-- accepted, laid out as the text's definitions say, and well-formed.
use Rattle.std.specs.Prelude.{ℕ, zero, suc, ◌+◌, ◌*◌, ◌-◌, ◌≤◌, ◌<◌, ◌≡◌, refl, List, [], ◌∷◌, ◌++◌}
use Rattle.std.proofs.Common.{sym, ◌∙◌, ap}
use Rattle.std.specs.Prelude.{length, get_or, take, drop}
use Rattle.std.proofs.Common.{arith}
use lib.ListN.{length-drop}
use lib.Seq.{take-append_seam}
use Rattle.value.specs.Value.{blank}
use Rattle.value.specs.declared.Value.{Value}
use Rattle.program.specs.Bytes.{main_of}
use Rattle.program.specs.Location.{sink_count, sink_loc}
use Rattle.answer.specs.Answer.{number_of}
use Rattle.std.specs.Prelude.{Ok}
use Rattle.load.specs.Check.{IsAccepted}
use Rattle.image.specs.Memory.{most_words, main_at, value_at, patch}
use Rattle.image.specs.Sound.{SoundImage}
use Rattle.image.specs.Start.{start_of}
use Rattle.image.proofs.Memory.Changes.{value_mark, value_content}
use Rattle.image.proofs.Memory.Starting.{start_succeeds, start_leaves}
use Rattle.remus.specs.Exec.{global_value}
use Rattle.remus.specs.Clear.{pairs_from, pairs, sunk}
use Rattle.remus.specs.Turn.{Turn}
use Rattle.remus.specs.Walk.{Input, Walked, refused, stopped, left, run}
use Rattle.remus.specs.Point.{◌∈◌}
use Rattle.remus.specs.Claim.{Leaves}
use Rattle.remus.proofs.Solved.{solved}
use Rattle.remus.proofs.Sinks.{pairs_length}
use Rattle.remus.proofs.Demand.{holds, demand_once}
use Rattle.haai.specs.Syntax as S
use Rattle.haai.specs.Syntax.{Definition, Text}
use Rattle.haai.specs.Meaning.{Function, function_of, last_of, sinks_of, meaning_of, pairs_of}
use Rattle.haai.specs.Claim.{turn, Faithful, AllFaithful}
use Rattle.haai.proofs.Formed.{nth, Laid, WellFormed}
use Rattle.haai.proofs.Valued.{length_meanings}
use Rattle.haai.proofs.Main.{drop_head, drop_tail, main_means}

-- ---- how many sinks

last_count : (gs : ℕ → Value) (ds rest : List Definition) (d : Definition) (fs : List Function) (k : ℕ)
    → drop k ds ≡ d ∷ rest → length (last_of gs fs d rest) ≡ S.count_of (nth ds (length ds - 1)).body
unfolding last_of
last_count gs ds [] d fs k e =
    let len : length ds - k ≡ 1 = sym (length-drop k ds) ∙ ap (λ (l : List Definition). length l) e in
    let z : length ds - 1 ≡ k = omega arith in
    length_meanings gs d.body fs [] ∙ rw (z, drop_head k ds d [] e) refl
last_count gs ds (f ∷ rest) d fs k e =
    last_count gs ds rest f (fs ++ (function_of gs fs d ∷ [])) (suc k) (drop_tail k ds d (f ∷ rest) e)

sinks_count : (gs : ℕ → Value) (ds : List Definition) → 1 ≤ length ds
    → length (sinks_of gs ds) ≡ S.count_of (nth ds (length ds - 1)).body
unfolding sinks_of
sinks_count gs [] h = absurd (omega arith)
sinks_count gs (d ∷ ds) h = last_count gs (d ∷ ds) ds d [] 0 refl

-- ---- what a completed turn writes

module _ (p m : List ℕ) where
  -- main's sink x
  abbrev sunk_at : ℕ → Value
  sunk_at x = value_at p m main_at (sink_loc p (main_of p) x)

  pairs_are : (n x : ℕ) (vs : List Value) → length vs ≡ n → ((y : ℕ) → y < n → sunk_at (x + y) ≡ get_or vs y blank)
      → pairs_from p n x m ≡ pairs_of vs
  unfolding pairs_from pairs_of
  pairs_are zero x [] e h = refl
  pairs_are zero x (v ∷ vs) e h = absurd (omega arith)
  pairs_are (suc n) x [] e h = absurd (omega arith)
  pairs_are (suc n) x (v ∷ vs) e h =
      let rest = pairs_are n (x + 1) vs (omega arith)
      (λ y l. let z : x + 1 + y ≡ x + suc y = omega arith in ap sunk_at z ∙ h (suc y) (omega arith)) in
      let z : x ≡ x + 0 = omega arith in
      let here : sunk_at x ≡ v = ap sunk_at z ∙ h 0 (omega arith) in
      let l = sink_loc p (main_of p) x in
      rw (value_mark p m main_at l here, value_content p m main_at l here, rest) refl

  sunk_first : (sk : List ℕ) (vs : List Value) → length vs ≡ sink_count p (main_of p)
      → ((y : ℕ) → y < sink_count p (main_of p) → sunk_at (0 + y) ≡ get_or vs y blank)
      → take (2 * sink_count p (main_of p)) (sunk p m sk) ≡ pairs_of vs
  unfolding sunk pairs patch
  sunk_first sk vs n h =
      let k = sink_count p (main_of p) in
      let ws = pairs_from p k 0 m in
      let long : 2 * k ≡ length ws = sym (pairs_length p m k 0) in
      rw long (take-append_seam ws (drop (0 + length ws) sk)) ∙ pairs_are k 0 vs n h

-- ---- turns

module _ (x : Text) (p : List ℕ) (a : IsAccepted p) (laid : Laid p x.definitions)
    (formed : WellFormed x.definitions x.sources) where
  faithful : (w : List ℕ) → length w ≤ most_words → SoundImage p w → (i : Input) → Faithful x p w i
  unfolding meaning_of main_of
  faithful w few image i u e = by (demand_once p w i a few image).result e
    where
      by : {r : Turn} → Walked p w i r → r.answer ≡ Ok u
          → take (2 * sink_count p (main_of p)) r.sink_space
          ≡ pairs_of (sinks_of (global_value i.readings w) x.definitions)
      by (refused f) e = let z : ◌≡◌ {A = ℕ} 0 1 = cc in absurd (omega arith)
      by (stopped s f r q) e = let z : ◌≡◌ {A = ℕ} 0 1 = cc in absurd (omega arith)
      by (left s f r q) e =
          let ds = x.definitions in
          let gs = global_value i.readings w in
          let l : Leaves p w i s = record { during = record { allowed = f; comes = r }; empty = q } in
          let sol = solved p w i s a few image l in
          let vs = sinks_of gs ds in
          let count = sinks_count gs ds laid.some in
          let main : main_of p ≡ length ds - 1 = omega (arith, laid.count) in
          let low : length ds - 1 < length ds = omega (arith, laid.some) in
          let n : length vs ≡ sink_count p (main_of p) = count ∙ rw main (sym (laid.count_of_sinks (length ds - 1) low)) in
          let Ran : ℕ → Type 0 = λ d. run d ∈ s.notes in
          sunk_first p s.words i.sink_space vs n (λ y h.
          let z : 0 + y ≡ y = omega arith in
          ap (sunk_at p s.words) z
          ∙ main_means p i.readings w s.words Ran sol ds x.sources laid formed y (omega arith))

  all_faithful : (is : List Input) (w : List ℕ) → length w ≤ most_words → SoundImage p w → AllFaithful x p w is
  all_faithful [] w few image = tt
  all_faithful (i ∷ is) w few image =
      let h = (holds p w i a few image).lasting in
      (faithful w few image i, all_faithful is (turn p w i).memory (omega (arith, h.same_length)) h.sound)

  pub from_start : (m : List ℕ) → number_of (start_of p m).answer ≡ 0 → (is : List Input)
      → AllFaithful x p (start_of p m).memory is
  from_start m e is =
      let h = (start_succeeds p m).0 e in
      let s = start_leaves p m h in
      all_faithful is (start_of p m).memory (omega (arith, s.same_length, h.words.1)) s.sound
