-- 6.36 A completed turn runs no deployment twice, and so at most 160 commands for each deployment that stands at its
-- end.
use Rattle.std.specs.Prelude.{ℕ, ◌+◌, ◌*◌, ◌≤◌, ◌≡◌, List, ◌∷◌, length}
use Rattle.program.specs.Command.{Cmd}
use Rattle.load.specs.Check.{IsAccepted}
use Rattle.image.specs.Memory.{most_words, used, starts_below}
use Rattle.image.specs.Sound.{SoundImage}
use Rattle.remus.specs.Clear.{finished}
use Rattle.remus.specs.Walk.{Note, run, State, go, step, begun, Input}
use Rattle.remus.specs.Point.{◌∈◌, Before}
use Rattle.remus.specs.Claim.{Leaves}

-- how many commands the walk from s carries out; where a deployment leaves, none is next
pub data Carried (p rd : List ℕ) (s : State) : State → ℕ → Type 0 where
  stay : Carried p rd s s 0
  command : {t u : State} {k : ℕ} {m : List ℕ} {o : ℕ} {c : Cmd} → Carried p rd s t k → Before p t m o c
      → step p rd t ≡ go u → Carried p rd s u (k + 1)
  leaving : {t u : State} {k : ℕ} → Carried p rd s t k → ((m : List ℕ) (o : ℕ) (c : Cmd) → Before p t m o c → ⊥)
      → step p rd t ≡ go u → Carried p rd s u k

-- two notes say that d has run
pub data RunTwice (d : ℕ) : List Note → Type 0 where
  now : {ns : List Note} → run d ∈ ns → RunTwice d (run d ∷ ns)
  before : {n : Note} {ns : List Note} → RunTwice d ns → RunTwice d (n ∷ ns)

-- the deployments in the words m
unfoldable pub standing : List ℕ → List ℕ → ℕ
standing p m = length (starts_below p m (used m))

-- 6.36 Of a turn from the words w with the readings rd, in which main leaves in state s.
pub record Worked (p rd w : List ℕ) (s : State) : Type 0 where
  pub once : (d : ℕ) → RunTwice d s.notes → ⊥
  pub commands : ℕ
  pub carried : Carried p rd (begun p w) s commands
  pub few : commands ≤ 160 * standing p (finished p s.words)

-- Proved in proofs/Work.antt: an element of this type.
abbrev pub Work : Type 0
Work = (p w : List ℕ) (t : Input) (s : State) → IsAccepted p → length w ≤ most_words → SoundImage p w → Leaves p w t s
    → Worked p t.readings w s
