-- Every definition of this room opened at once, for theorems that compute: such a theorem says
-- `unfolding opened`.
use Rattle.std.specs.Prelude.{ℕ}
use Rattle.value.specs.Test.{pick, ◌<?◌, ◌≤?◌, ◌=?◌, ◌and◌, ◌or◌, guard, sweep}
use Rattle.value.specs.Value.{mark_of, is_blank, is_number, is_truth, is_true}
use Rattle.value.specs.Primitive.{within, quotient, goes_round, operation, on_numbers, on_truth, settles, settled_by}
use Rattle.value.specs.Primitive.{known, choose, instead, table, row_of, is_primitive, is_withdrawn, primitive}
use Rattle.value.specs.Primitive.{count_of, operands, kinds_fit, kind_given}

unfoldable pub opened : ℕ
unfolding pick ◌<?◌ ◌≤?◌ ◌=?◌ ◌and◌ ◌or◌ guard sweep mark_of is_blank is_number is_truth is_true within quotient
    goes_round operation on_numbers on_truth settles settled_by known choose instead table row_of is_primitive is_withdrawn
    primitive count_of operands kinds_fit kind_given
opened = 0
