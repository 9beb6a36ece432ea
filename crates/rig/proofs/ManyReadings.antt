-- More readings than any program takes: refused as 63 words are, but for their number.
-- Assumes nothing.
use Rattle.std.specs.Prelude.{ℕ, ◌*◌, ◌/◌, ◌≤◌, ◌<◌, ◌≡◌, refl, ◌≢◌, List, length, take}
use Rattle.std.proofs.Common.{sym, ◌∙◌, ap, arith}
use lib.Seq.{length-take-le}
use Rattle.value.specs.Test.{◌=?◌}
use Rattle.value.proofs.Tests.{cases, eq×, eq!, eq?, no, yes, stops, goes}
use Rattle.program.specs.Bytes.{globals}
use Rattle.answer.specs.Answer.{number_of, refusal_number}
use Rattle.load.specs.Check.{check_of}
use Rattle.answer.specs.Answer.{Answer}
use Rattle.std.specs.Prelude.{Ok, Err}
use Rattle.answer.specs.declared.Refusal.{Refusal}
use Rattle.answer.specs.declared.Refusal.TheVariants.{MemoryLength, ReadingsLength, UnsoundImage}
use Rattle.load.proofs.Exact.{exact}
use Rattle.image.specs.Start.{words_legal}
use Rattle.image.specs.Passes.{sound_of}
use Rattle.image.specs.Passes.{Judged}
use Rattle.std.specs.Prelude.{Ok, Err}
use Rattle.remus.specs.Turn.{Turn, turn_of, by_check, by_sound, by_asked, asked_of, turn_refused}
use Rattle.remus.specs.Preview.{from_run}
use Rattle.std.specs.Prelude.{Err}
use Rattle.machine.specs.Clauses.{turned}
use Rattle.rig.specs.Words.{words_of}
use Rattle.rig.specs.Clauses.{room_of, Runs, call_of, saves, held, call_held, placed_at}
use Rattle.rig.specs.declared.rooms.Call.{Call}
use Rattle.rig.specs.declared.rooms.Call.TheVariants as C
use Rattle.rig.proofs.Copying.{words_count}
use Rattle.rig.proofs.Holding.{all_words}
use Rattle.rig.proofs.Numbers.{check_not_ten}

-- what a turn comes to, with n as the place of 10
unfoldable placed : ℕ → Turn → Turn
placed n t = record { answer = placed_at n t.answer; memory = t.memory; sink_space = t.sink_space }

abbrev answered : List ℕ → List ℕ → Answer → Turn
answered m sk a = record { answer = a; memory = m; sink_space = sk }

module _ (p m rd rd₁ sk : List ℕ) where
  not_ten : (n : ℕ) (w : Refusal) → refusal_number w ≢ 10
      → turn_refused p m rd sk w ≡ placed n (turn_refused p m rd₁ sk w)
  unfolding turn_refused placed placed_at
  not_ten n w h = ap (answered m sk) (no (Err (ReadingsLength n)) (eq× h) refl)

  ten : (n k : ℕ) → turn_refused p m rd sk (ReadingsLength n) ≡ placed n (turn_refused p m rd₁ sk (ReadingsLength k))
  unfolding turn_refused placed placed_at
  ten n k = ap (answered m sk) (yes (Err (ReadingsLength k)) (eq! refl) refl)

  -- neither is as long as the program asks
  module _ (u : length rd ≢ 2 * globals p) (u₁ : length rd₁ ≢ 2 * globals p) where
    unlike : asked_of p m rd sk ≡ Err (ReadingsLength (length rd))
    unfolding asked_of
    unlike = sym (stops _ (eq× u) refl)

    unlike₁ : asked_of p m rd₁ sk ≡ Err (ReadingsLength (length rd₁))
    unfolding asked_of
    unlike₁ = sym (stops _ (eq× u₁) refl)

    judged : (j : Judged) → by_sound p m rd sk j ≡ placed (length rd) (by_sound p m rd₁ sk j)
    unfolding by_sound by_asked
    judged (Ok tt) = rw (unlike, unlike₁) (ten (length rd) (length rd₁))
    judged (Err q) = not_ten (length rd) (UnsoundImage q) (λ e. omega arith)

    accepted : (size : ℕ) → by_check p m rd sk (Ok size) ≡ placed (length rd) (by_check p m rd₁ sk (Ok size))
    unfolding by_check
    accepted size =
        cases (words_legal (length m))
        (λ e. sym (goes _ _ e refl) ∙ judged (sound_of p m) ∙ ap (placed (length rd)) (goes _ _ e refl))
        (λ e. sym (stops _ e refl) ∙ not_ten (length rd) (MemoryLength (length m)) (λ f. omega arith)
        ∙ ap (placed (length rd)) (stops _ e refl))

-- an accepted program takes at most 62 words of readings
takes_few : (p : List ℕ) (size : ℕ) → check_of p ≡ Ok size → globals p ≤ 31
takes_few p size e = ((exact p).0 (ap number_of e)).tables.header.few_globals

module _ (p m rd rd₁ sk : List ℕ) (l : 62 < length rd) (l₁ : 62 < length rd₁) where
  by_check_lem : (c : Answer) → check_of p ≡ c → by_check p m rd sk c ≡ placed (length rd) (by_check p m rd₁ sk c)
  unfolding by_check
  by_check_lem (Ok size) e =
      let g = takes_few p size e in
      accepted p m rd rd₁ sk (λ h. omega (arith, g)) (λ h. omega (arith, g)) size
  by_check_lem (Err w) e = not_ten p m rd rd₁ sk (length rd) w (check_not_ten p w e)

  turn_reads : turn_of p m rd sk ≡ placed (length rd) (turn_of p m rd₁ sk)
  unfolding turn_of
  turn_reads = by_check_lem (check_of p) refl

-- ---- the number, and so whether a preview's turn ran, is the same with another place

same_number : (n : ℕ) (a : Answer) → number_of (placed_at n a) ≡ number_of a
unfolding placed_at
same_number n a =
    cases (number_of a =? 10)
    (λ e. ap number_of (sym (yes a e refl)) ∙ sym (eq? e))
    (λ e. ap number_of (sym (no (Err (ReadingsLength n)) e refl)))

same_saves : (what : Call) (n : ℕ) (a : Answer) → saves what (placed_at n a) ≡ saves what a
unfolding saves
same_saves C.Start n a = refl
same_saves C.Turn n a = refl
same_saves (C.Preview source) n a = ap from_run (same_number n a)

placed_held : (what : Call) (m : List ℕ) (n : ℕ) (t : Turn) → held what m (placed n t) ≡ placed n (held what m t)
unfolding held placed
placed_held what m n t = rw (same_saves what n t.answer) refl

-- a call that has readings makes a turn
pub runs_turn : (what : Call) (p w rd sk : List ℕ) → Runs what → call_of what p w rd sk ≡ turn_of p w rd sk
unfolding call_of
runs_turn C.Start p w rd sk r = absurd r
runs_turn C.Turn p w rd sk r = refl
runs_turn (C.Preview source) p w rd sk r = refl

module _ (what : Call) (p m b rd sk sk' : List ℕ) (n k : ℕ) (e : n ≡ length rd / 4) (a : Answer)
    (h : turned a b sk' ≡ call_held what p m (take k (words_of rd)) sk) where
  -- as many of the readings as there are
  pub all_read : k ≡ n → turned a b sk' ≡ call_held what p m (words_of rd) sk
  all_read f = h ∙ ap (λ (x : List ℕ). call_held what p m x sk) (all_words rd k (f ∙ e))

  -- rd has more words than any program takes; what the call answers for 63 of them, a, tells what it answers for rd
  pub too_many : Runs what → k ≡ 63 → 63 < n → (a' : Answer) → a' ≡ placed_at n a
      → turned a' b sk' ≡ call_held what p m (words_of rd) sk
  unfolding turned placed
  too_many r f l a' g =
      let w = room_of what m in
      let few = take k (words_of rd) in
      let j : n ≡ length (words_of rd) = e ∙ sym (words_count rd) in
      let c = length-take-le k (words_of rd) (omega (arith, j)) in
      let t = turn_reads p w (words_of rd) few sk (omega (arith, j)) (omega (arith, c)) in
      let s : call_of what p w (words_of rd) sk ≡ placed (length (words_of rd)) (call_of what p w few sk)
      = runs_turn what p w (words_of rd) sk r ∙ t
      ∙ ap (placed (length (words_of rd))) (sym (runs_turn what p w few sk r)) in
      rw (g, j) (ap (placed (length (words_of rd))) h
      ∙ sym (placed_held what m (length (words_of rd)) (call_of what p w few sk)) ∙ ap (held what m) (sym s))
