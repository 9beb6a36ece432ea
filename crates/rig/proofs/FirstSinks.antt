-- No turn writes past the first 14 words of the sink space, nor reads any of it.
-- Assumes nothing.
use Rattle.std.specs.Prelude.{ℕ, ◌+◌, ◌*◌, ◌/◌, ◌≤◌, min, ◌≡◌, refl, List, ◌++◌, length, Ok, Err}
use Rattle.std.proofs.Common.{sym, ◌∙◌, ap, append_assoc}
use Rattle.std.specs.Prelude.{take, drop}
use Rattle.std.proofs.Common.{arith}
use lib.ListN.{length-append, take-append-drop}
use lib.Seq.{length-take-le, drop-append-le}
use Rattle.value.specs.Test.{◌≤?◌}
use Rattle.value.proofs.Tests.{same_test, le?, le!, cases, goes, stops}
use Rattle.program.specs.Bytes.{main_of}
use Rattle.program.specs.Location.{sink_count}
use Rattle.answer.specs.Answer.{number_of}
use Rattle.load.specs.Check.{check_of}
use Rattle.answer.specs.Answer.{Answer}
use Rattle.load.proofs.Exact.{exact}
use Rattle.load.proofs.Exact.Bounds.{main_last}
use Rattle.image.specs.Memory.{patch}
use Rattle.image.specs.Start.{words_legal}
use Rattle.image.specs.Passes.{sound_of}
use Rattle.image.specs.Passes.{Judged}
use Rattle.remus.specs.Clear.{pairs, sunk}
use Rattle.remus.specs.Run.{Ran, ran, stopped, main_run}
use Rattle.remus.specs.Turn.{Turn, turn_of, by_check, by_sound, by_asked, by_run, asked_of, turn_refused}
use Rattle.answer.specs.Answer.{Ruling}
use Rattle.remus.proofs.Sinks.{pairs_length}
use Rattle.machine.proofs.Turning.{sinks_fit}
use Rattle.rig.specs.Words.{words_of, holding}
use Rattle.rig.specs.Laws.{Bytes}
use Rattle.machine.specs.Clauses.{turned}
use Rattle.rig.specs.Clauses.{room_of, Runs, held, call_held, sinks_held}
use Rattle.rig.specs.declared.rooms.Call.{Call}
use Rattle.rig.proofs.Copying.{words_count}
use Rattle.rig.proofs.Holding.{hold_rest}
use Rattle.rig.proofs.ManyReadings.{runs_turn}

-- the turn with more sink space behind its own
abbrev longer : List ℕ → Turn → Turn
longer rest t = record { answer = t.answer; memory = t.memory; sink_space = t.sink_space ++ rest }

-- sk has room for main's sinks if it has with the rest
abbrev Enough : List ℕ → List ℕ → List ℕ → Type 0
Enough p sk rest = 2 * sink_count p (main_of p) ≤ length (sk ++ rest) → 2 * sink_count p (main_of p) ≤ length sk

module _ (p m rd sk rest : List ℕ) (enough : Enough p sk rest) where
  same_room : (2 * sink_count p (main_of p) ≤? length (sk ++ rest)) ≡ (2 * sink_count p (main_of p) ≤? length sk)
  same_room =
      same_test _ _ (λ e. le! (enough (le? e))) (λ e. let h = le? e in le! (omega (arith, h, length-append sk rest)))

  asked_alike : asked_of p m rd (sk ++ rest) ≡ asked_of p m rd sk
  unfolding asked_of
  asked_alike = rw same_room

  sunk_alike : (m' : List ℕ) → 2 * sink_count p (main_of p) ≤ length sk → sunk p m' (sk ++ rest) ≡ sunk p m' sk ++ rest
  unfolding sunk patch pairs
  sunk_alike m' h =
      let l = pairs_length p m' (sink_count p (main_of p)) 0 in
      let n = 0 + length (pairs p m') in
      rw (drop-append-le n sk rest (omega (arith, l))) (sym (append_assoc (pairs p m') (drop n sk) rest))

  ran_alike : (x : Ran) → 2 * sink_count p (main_of p) ≤ length sk
      → by_run p m rd (sk ++ rest) x ≡ longer rest (by_run p m rd sk x)
  unfolding by_run turn_refused
  ran_alike (ran m') h = rw (sunk_alike m' h)
  ran_alike (stopped w m') h = refl

  brought_alike : (a : Ruling) → asked_of p m rd sk ≡ a
      → by_asked p m rd (sk ++ rest) a ≡ longer rest (by_asked p m rd sk a)
  unfolding by_asked turn_refused
  brought_alike (Ok tt) e = ran_alike (main_run p rd m) (sinks_fit p m rd sk e)
  brought_alike (Err w) e = refl

  sound_alike : (j : Judged) → by_sound p m rd (sk ++ rest) j ≡ longer rest (by_sound p m rd sk j)
  unfolding by_sound turn_refused
  sound_alike (Ok tt) = rw asked_alike (brought_alike (asked_of p m rd sk) refl)
  sound_alike (Err q) = refl

  accepted_alike : (size : ℕ)
      → by_check p m rd (sk ++ rest) (Ok size) ≡ longer rest (by_check p m rd sk (Ok size))
  unfolding by_check turn_refused
  accepted_alike size =
      cases (words_legal (length m))
      (λ e. sym (goes _ _ e refl) ∙ sound_alike (sound_of p m) ∙ ap (longer rest) (goes _ _ e refl))
      (λ e. sym (stops _ e refl) ∙ ap (longer rest) (stops _ e refl))

-- an accepted program's main has at most 7 sinks
has_few : (p : List ℕ) (size : ℕ) → check_of p ≡ Ok size → sink_count p (main_of p) ≤ 7
unfolding sink_count
has_few p size e =
    let t = ((exact p).0 (ap number_of e)).tables in
    (t.every_shape _ (t.entries (main_of p) (main_last t.header)).shape).few_sinks

-- the first 14 words of sk, or all
module _ (p m rd sk : List ℕ) (k : ℕ) (e : k ≡ min (length sk) 14) where
  cut : length (take k sk) ≡ k
  cut = length-take-le k sk (omega arith)

  by_check_lem : (c : Answer) → check_of p ≡ c
      → by_check p m rd (take k sk ++ drop k sk) c ≡ longer (drop k sk) (by_check p m rd (take k sk) c)
  unfolding by_check turn_refused
  by_check_lem (Ok size) a =
      let f = has_few p size a in
      let n = ap length (take-append-drop k sk) in
      accepted_alike p m rd (take k sk) (drop k sk) (λ h. omega (arith, f, n, cut)) size
  by_check_lem (Err w) a = refl

  turn_first : turn_of p m rd sk ≡ longer (drop k sk) (turn_of p m rd (take k sk))
  unfolding turn_of
  turn_first = ap (λ (s : List ℕ). turn_of p m rd s) (sym (take-append-drop k sk)) ∙ by_check_lem (check_of p) refl

-- w the k words in the room before the call, w' then, b the bytes of the sink space that were given them
module _ (what : Call) (p m m' rd sk w w' b : List ℕ) (k : ℕ) (r : Runs what) (h : Bytes sk)
    (l : k ≡ min (length sk / 4) 14) (n : length w' ≡ k) where
  abbrev rest : List ℕ
  rest = drop k (words_of sk)

  abbrev w₀ : List ℕ
  w₀ = room_of what m

  behind : w ≡ take k (words_of sk) → turn_of p w₀ rd (words_of sk) ≡ longer rest (turn_of p w₀ rd w)
  behind e =
      turn_first p w₀ rd (words_of sk) k (rw (words_count sk) l)
      ∙ ap (λ (v : List ℕ). longer rest (turn_of p w₀ rd v)) (sym e)

  given : b ≡ holding sk w' → holding sk (w' ++ rest) ≡ b
  given f =
      ap (λ (j : ℕ). holding sk (w' ++ drop j (words_of sk))) (sym n)
      ∙ hold_rest sk w' h (omega (arith, n, words_count sk, l)) ∙ sym f

  pub first_words : w ≡ take k (words_of sk) → b ≡ holding sk w'
      → (a : Answer) → turned a m' w' ≡ call_held what p m rd w
      → turned a m' b ≡ sinks_held sk (call_held what p m rd (words_of sk))
  unfolding turned held sinks_held
  first_words e f a t =
      let u = t ∙ ap (held what m) (runs_turn what p w₀ rd w r) in
      let answer = ap (λ (x : Turn). x.answer) u in
      let memory = ap (λ (x : Turn). x.memory) u in
      let space = ap (λ (x : Turn). x.sink_space) u in
      rw (runs_turn what p w₀ rd (words_of sk) r, behind e) (rw (answer, memory, ← given f, space) refl)
