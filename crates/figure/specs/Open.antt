-- Every definition of this room opened at once, and of those below it, for theorems that compute: such a theorem says
-- `unfolding opened`.
use Rattle.std.specs.Prelude.{ℕ}
use Rattle.remus.specs.Open.{opened as below_opened}
use Rattle.figure.specs.Steps.{tabled, anywhere, goes_to, leads, found, as_table, through, reached_below, reached}
use Rattle.figure.specs.Steps.{circular}
use Rattle.figure.specs.Bound.{sum_below, shape_sum, share, bound_by, round_of, bounds_after, bound_of}
use Rattle.figure.specs.Figure.{lowest_circular, words_needed, figured, figured_by, figure_of}

unfoldable pub opened : ℕ
unfolding below_opened tabled anywhere goes_to leads found as_table through reached_below reached circular sum_below shape_sum
    share bound_by round_of bounds_after bound_of lowest_circular words_needed figured figured_by figure_of
opened = 0
