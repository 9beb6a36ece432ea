-- 6.5, 6.6 The run, by recursion: a nested deployment is run whole before the outer one goes on.
use Rattle.std.specs.Prelude.{ℕ, zero, suc, ◌+◌, ◌-◌, List}
use Rattle.program.specs.Bytes.{commands_in}
use Rattle.answer.specs.declared.Refusal.{Refusal}
use Rattle.answer.specs.declared.Refusal.TheVariants.{TooDeep}
use Rattle.image.specs.Memory.{most_depth, main_at, reactor}
use Rattle.remus.specs.Exec.{Eff, move, call, fail, eff, opening, ready}

-- how a run ends, with the words then
pub data Ran : Type 0 where
  ran : List ℕ → Ran
  stopped : Refusal → List ℕ → Ran

unfoldable pub and_then : (List ℕ → Ran) → Ran → Ran
and_then more (ran m) = more m
and_then more (stopped w m) = stopped w m

-- `enter` runs a nested deployment; m are the words before the command, with its deployment wired if D has ended
unfoldable pub entered : (List ℕ → ℕ → Ran) → List ℕ → Eff → Ran
entered enter m (move m') = ran m'
entered enter m (call m' d) = enter m' d
entered enter m (fail w) = stopped w m

-- the n commands from i on, each by `step`
unfoldable pub commands : (ℕ → List ℕ → Ran) → ℕ → ℕ → List ℕ → Ran
commands step zero i m = ran m
commands step (suc n) i m = and_then (commands step n (i + 1)) (step i m)

unfoldable pub step_of : (List ℕ → ℕ → Ran) → List ℕ → List ℕ → ℕ → ℕ → ℕ → List ℕ → Ran
step_of enter p rd h o i m = entered enter (ready p m o i) (eff p rd h m o i)

-- the deployment o at depth h, with so many levels left. At no level left it does not run; a sound image and 15
-- keep a run from coming to that.
unfoldable pub run_of : ℕ → List ℕ → List ℕ → ℕ → List ℕ → ℕ → Ran
run_of zero p rd h m o = stopped (TooDeep (reactor m o)) m
run_of (suc f) p rd h m o =
    commands (step_of (run_of f p rd (h + 1)) p rd h o) (commands_in p (reactor m o) - opening p m o) (opening p m o) m

-- main's run
unfoldable pub main_run : List ℕ → List ℕ → List ℕ → Ran
main_run p rd m = run_of most_depth p rd 1 m main_at
