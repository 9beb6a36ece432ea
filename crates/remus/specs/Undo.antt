-- 6.27 How the words of a refused turn are brought back in place, from those at its end and the u of its beginning.
use Rattle.std.specs.Prelude.{ℕ, zero, suc, ◌+◌, ◌-◌, ◌≡◌, Bool, true, false, List, length, replicate}
use Rattle.value.specs.Test.{◌≤?◌, ◌=?◌, guard}
use Rattle.value.specs.Value.{value, point_mark}
use Rattle.program.specs.Bytes.{reactors, commands_d}
use Rattle.program.specs.Command.{Made, deployment, point, held, nought, made_by, cmd_of}
use Rattle.program.specs.Location.{head_words, command_loc}
use Rattle.answer.specs.declared.Refusal.{Refusal}
use Rattle.image.specs.Sound.{SoundImage}
use Rattle.image.specs.Memory.{main_at, used, turns, reactor, next, with_used, with_wired, patch, content, store}
use Rattle.image.specs.Memory.{starts_below}
use Rattle.image.specs.Passes.{over}
use Rattle.remus.specs.Run.{stopped, main_run}
use Rattle.remus.specs.Clear.{clear_one}

-- the first of the chain from c that lies below u
unfoldable pub below : ℕ → List ℕ → ℕ → ℕ → ℕ
below zero m u c = 0
below (suc f) m u c = guard (u ≤? c) c (λ _. below f m u (next m c))

module _ (p : List ℕ) (u : ℕ) where
  -- D slot l of o: a branch point's head goes down to what stood at the turn's beginning. A cell has not
  -- changed: what is kept waits
  unfoldable pub slot_back : List ℕ → ℕ → ℕ → Made → List ℕ
  slot_back m o l (deployment x) = m
  slot_back m o l (point x) = store p m o l (value point_mark (below (reactors p + 1) m u (content p m o l)))
  slot_back m o l (held x) = m
  slot_back m o l nought = m

  -- the n D slots from j on
  unfoldable pub slots_back : ℕ → ℕ → List ℕ → ℕ → List ℕ
  slots_back zero j m o = m
  slots_back (suc n) j m o =
      slots_back n (j + 1) (slot_back m o (command_loc p (reactor m o) j) (made_by (cmd_of p (reactor m o) j))) o

  -- an old deployment: its branch points' heads, and its other slots zero
  unfoldable pub one_back : List ℕ → ℕ → List ℕ
  one_back m o = clear_one p (slots_back (commands_d p (reactor m o)) 0 m o) o

  -- all words from i on zero
  unfoldable pub zero_from : ℕ → List ℕ → List ℕ
  zero_from i m = patch m i (replicate (length m - i) 0)

  -- in the first turn main was unwired and its slots zero
  unfoldable pub back : Bool → List ℕ → List ℕ
  back true m = with_wired (zero_from (main_at + head_words) m) main_at 0
  back false m = zero_from u (over one_back m (starts_below p m u))

  unfoldable pub undo_of : List ℕ → List ℕ
  undo_of m = with_used (back (turns m =? 0) m) u

-- For a program that the check accepts: `refused_undone` in proofs/Demand.antt.
abbrev pub Undoes : List ℕ → Type 0
Undoes p = (m rd m' : List ℕ) (w : Refusal) → SoundImage p m → main_run p rd m ≡ stopped w m' → undo_of p (used m) m' ≡ m
