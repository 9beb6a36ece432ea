-- What one command does. The recursive run and the walk both come from this, so that a command's meaning is said once.
use Rattle.std.specs.Prelude.{ℕ, zero, suc, ◌+◌, ◌-◌, ◌*◌, Bool, true, false, not, List, length}
use Rattle.value.specs.Test.{pick, ◌<?◌, ◌≤?◌, ◌=?◌, guard}
use Rattle.value.specs.Value.{number_mark, deployment_mark, point_mark, mark_of, value, blank, is_blank}
use Rattle.value.specs.Primitive as Op
use Rattle.value.specs.declared.Value.{Value}
use Rattle.program.specs.Bytes.{reactors, commands_d}
use Rattle.program.specs.Command.{Give, Cmd, cmd_of, alloc_mono, make_poly, constant, global, supply, react, consume, sink}
use Rattle.program.specs.Command.{alloc_poly, primitive, cell, fetch, keep, none, gives}
use Rattle.program.specs.Location.{command_loc, sink_loc, size_of}
use Rattle.answer.specs.declared.Refusal.{Refusal}
use Rattle.answer.specs.declared.Refusal.TheVariants.{NoRoom, TooDeep}
use Rattle.remus.specs.Cells.{pending}
use Rattle.image.specs.Memory.{most_depth, word, used, turns, reactor, wired, next, with_wired, mark, content, value_at}
use Rattle.image.specs.Memory.{store, deploy}

-- the words after the command; the deployment to run before the next one; or the turn's end
pub data Eff : Type 0 where
  move : List ℕ → Eff
  call : List ℕ → (d : ℕ) → Eff
  fail : Refusal → Eff

-- 6.2, 4.8 The value of a global: the time for 0, else its reading. Word 1 stays as it is until the turn's end.
unfoldable pub global_value : List ℕ → List ℕ → ℕ → Value
global_value rd m zero = value number_mark (turns m + 1)
global_value rd m (suc k) = value (word rd (2 * k)) (word rd (2 * k + 1))

-- 6.10 The deployment of reactor q on the chain from c, 0 if there is none. No reactor is there twice, so that f, the
-- count of reactors, is enough.
unfoldable pub find : ℕ → List ℕ → ℕ → ℕ → ℕ
find zero m q c = 0
find (suc f) m q c =
    guard (0 <? c) 0 (λ _.
    guard (not (reactor m c =? q)) c (λ _. find f m q (next m c)))

-- 6.17 There is a deployment at location b of o; there is none if the operator was blank.
unfoldable pub there : List ℕ → List ℕ → ℕ → ℕ → Bool
there p m o b = mark p m o b =? deployment_mark

-- p the program, rd the readings, h the pile's height, m the words, o the deployment, i its command's index (D then R)
module _ (p rd : List ℕ) (h : ℕ) (m : List ℕ) (o i : ℕ) where
  -- the command's own location
  abbrev pub here : ℕ
  here = command_loc p (reactor m o) i

  -- the command gives v
  abbrev pub give : Value → Eff
  give v = move (store p m o here v)

  abbrev pub operand : ℕ → Value
  operand l = value_at p m o l

  -- 6.14 What an allocation is tested for: depth 65, which is 15; then too few words left, which is 14.
  abbrev pub too_deep : Bool
  too_deep = most_depth <? h + 1

  abbrev pub room : ℕ → Bool
  room r = size_of p r ≤? length m - used m

  -- 2.33 AllocMono, by these two tests.
  unfoldable pub allocated : Bool → Bool → ℕ → Eff
  allocated true t x = fail (TooDeep x)
  allocated false false x = fail (NoRoom x)
  allocated false true x = move (store p (deploy p m x 0) o here (value deployment_mark (used m)))

  -- 6.12, 6.13 AllocPoly makes a deployment: the newest so far becomes its next, and the branch point names it.
  unfoldable pub branched : Bool → Bool → ℕ → ℕ → Eff
  branched true t q b = fail (TooDeep q)
  branched false false q b = fail (NoRoom q)
  branched false true q b =
      let m₁ = deploy p m q (content p m o b) in
      let m₂ = store p m₁ o b (value point_mark (used m)) in
      move (store p m₂ o here (value deployment_mark (used m)))

  -- 6.11 d is the deployment of reactor q that is there already, or 0: then one is made.
  unfoldable pub chosen : ℕ → ℕ → ℕ → Eff
  chosen zero q b = branched too_deep (room q) q b
  chosen (suc d) q b = give (value deployment_mark (suc d))

  -- 2.41, 6.16 AllocPoly, by whether the operator is blank.
  unfoldable pub operated : Bool → ℕ → ℕ → Eff
  operated true q b = give blank
  operated false q b = chosen (find (reactors p) m q (content p m o b)) q b

  -- 6.17 Supply, React and Consume, by whether there is a deployment at b.
  unfoldable pub supplied : Bool → ℕ → ℕ → ℕ → Eff
  supplied true x a b = move (store p m (content p m o b) x (operand a))
  supplied false x a b = move m

  unfoldable pub reacted : Bool → ℕ → Eff
  reacted true b = call m (content p m o b)
  reacted false b = move m

  unfoldable pub consumed : Bool → ℕ → ℕ → Value
  consumed true x b = let d = content p m o b in value_at p m d (sink_loc p (reactor m d) x)
  consumed false x b = blank

  unfoldable pub given : Give → Value
  given (constant x v) = value (mark_of x) v
  given (global x) = global_value rd m x
  given (consume x b) = consumed (there p m o b) x b
  given (primitive x a b c) = Op.primitive x (operand a) (operand b) (operand c)
  given (fetch b) = operand b

  -- 2.33 to 2.45 What each command does; a Cell is carried out in D, so that wiring fills it (6.18).
  unfoldable pub exec : Cmd → Eff
  unfolding given
  exec (alloc_mono x) = allocated too_deep (room x) x
  exec (make_poly x) = give (value point_mark 0)
  exec (cell x v) = give (value (mark_of x) v)
  exec (gives g) = give (given g)
  exec (supply x a b) = supplied (there p m o b) x a b
  exec (react b) = reacted (there p m o b) b
  exec (sink x a) = move (store p m o (sink_loc p (reactor m o) x) (operand a))
  exec (alloc_poly a b) = operated (is_blank (operand a)) (content p m o a) b
  exec (keep a b) = give (pending (operand a))
  exec none = move m

-- 6.3 The command at which o opens: the first of D if it is not wired, else the first of R.
unfoldable pub opening : List ℕ → List ℕ → ℕ → ℕ
opening p m o = pick (wired m o =? 0) 0 (commands_d p (reactor m o))

-- 6.4 The words before command i of o: at D's end it is wired.
unfoldable pub ready : List ℕ → List ℕ → ℕ → ℕ → List ℕ
ready p m o i = pick (i =? commands_d p (reactor m o)) (with_wired m o 1) m

-- the effect of command i of o
unfoldable pub eff : List ℕ → List ℕ → ℕ → List ℕ → ℕ → ℕ → Eff
eff p rd h m o i = exec p rd h (ready p m o i) o i (cmd_of p (reactor m o) i)
