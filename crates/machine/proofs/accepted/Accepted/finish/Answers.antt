use Rattle.std.specs.Prelude.{ℕ, ◌<◌}
use Rattle.std.proofs.Common.{sym, subst}
use Rattle.remus.specs.Clear.{finished}
use Rattle.machine.proofs.accepted.Accepted.finish.Goals as goal

pub close-requires : goal.close-requires
close-requires c = let pre = c.requires in
    let at_fill_cells = c.fill_cells in
    let clock = subst (λ (t : ℕ). t < 4294967295) (sym pre.ending.kept_turns) pre.time_fits in
    rw at_fill_cells.ensures (record { tiling = pre.ending.kept_tiled; time_fits = clock })

pub returns : goal.returns
unfolding finished
returns c = let at_fill_cells = c.fill_cells in
    let at_close = c.close in
    rw (← at_fill_cells.ensures) at_close.ensures
