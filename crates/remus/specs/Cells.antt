-- 6.20, 6.22 Cells in a turn. What is kept waits in the Keep's own slot and goes into the cell when the turn completes,
-- so that a Fetch reads what the cell held as the turn began, and a refused turn changes none.
use Rattle.std.specs.Prelude.{ℕ, zero, suc, ◌+◌, List}
use Rattle.value.specs.Test.{pick, ◌=?◌}
use Rattle.value.specs.Value.{value, blank, is_blank, kept_mark}
use Rattle.value.specs.declared.Value.{Value}
use Rattle.program.specs.Bytes.{commands_d, commands_r}
use Rattle.program.specs.Command.{Cmd, cmd_of, alloc_mono, make_poly, supply, react, sink, alloc_poly, cell, keep, none}
use Rattle.program.specs.Command.{gives}
use Rattle.program.specs.Location.{command_loc}
use Rattle.image.specs.Memory.{reactor, value_at, store, starts_below}
use Rattle.image.specs.Passes.{over}

-- A value as it waits in the slot of a Keep that has run: not blank, since that is the slot of one that has not run.
unfoldable pub pending : Value → Value
pending v = pick (is_blank v) (value kept_mark 0) v

-- and the value again
unfoldable pub kept : Value → Value
kept v = pick (v.mark =? kept_mark) blank v

module _ (p : List ℕ) where
  -- what the command at location l of o kept goes into its cell; nothing does, if it has not run
  unfoldable pub keep_by : List ℕ → ℕ → ℕ → Cmd → List ℕ
  keep_by m o l (alloc_mono x) = m
  keep_by m o l (make_poly x) = m
  keep_by m o l (cell x v) = m
  keep_by m o l (gives g) = m
  keep_by m o l (supply x a b) = m
  keep_by m o l (react b) = m
  keep_by m o l (sink x a) = m
  keep_by m o l (alloc_poly a b) = m
  keep_by m o l (keep a b) = pick (is_blank (value_at p m o l)) m (store p m o b (kept (value_at p m o l)))
  keep_by m o l none = m

  -- the n commands from i on
  unfoldable pub keep_from : ℕ → ℕ → List ℕ → ℕ → List ℕ
  keep_from zero i m o = m
  keep_from (suc n) i m o = keep_from n (i + 1) (keep_by m o (command_loc p (reactor m o) i) (cmd_of p (reactor m o) i)) o

  -- one deployment's cells
  unfoldable pub keep_one : List ℕ → ℕ → List ℕ
  keep_one m o = keep_from (commands_r p (reactor m o)) (commands_d p (reactor m o)) m o

  -- the cells of every deployment below u
  unfoldable pub keep_of : ℕ → List ℕ → List ℕ
  keep_of u m = over keep_one m (starts_below p m u)
