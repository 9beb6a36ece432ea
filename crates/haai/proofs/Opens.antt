-- What the search may look into, module by module: a function's proof names one of these, and has all below it opened.
use Rattle.std.specs.Prelude.{ℕ}
use Rattle.value.specs.Open.{opened as tests}
use Rattle.haai.specs.Word.{is_space, is_bracket, ends_word, bytes_of, position, among, is_letter, is_digit, is_name}
use Rattle.haai.specs.Word.{sign_at, taken_at, taken_number, class_of}
use Rattle.haai.specs.Grammar.{is_open, is_shut, named, operates, is_taken, begin, on_to, counting, deepened, sourced}
use Rattle.haai.specs.Grammar.{defined, after_expression, expression, step_at, step_of, is_top, whole}
use Rattle.haai.specs.Names.{unless}
use Rattle.haai.specs.Clauses.{is_part, capped, magnitude_of, number_of, sign_of, taken_of, place_in, opened_step}
use Rattle.haai.specs.Places.{blamed}
use Rattle.haai.specs.Tables.{counted, size_at, opened_at, callable_in, takes_in, own_calls, own_runs, grounded, spent}
use Rattle.haai.specs.Tables.{levelled, innermost, with_operand, whole_grove, open_grove, close_grove, defined_tree}
use Rattle.haai.specs.Tables.{size_of, with_names, with_grove, is_parameter, fits_operand, operand_kept, constant_kept}
use Rattle.haai.specs.Tables.{operator_kept, apply_kept, define_kept, learnt, found_of, size_fits, size_length}
use Rattle.haai.specs.Writing.{place_d, place_r, deployment_loc, location_r, cursor_of, operands_so_far, few, entry_for}
use Rattle.haai.specs.Writing.{next_entry, outer_entry, add_apply, add_operand, add_constant, adds}

unfoldable pub words : ℕ
unfolding tests is_space is_bracket ends_word bytes_of position among is_letter is_digit is_name sign_at taken_at class_of
    is_part capped magnitude_of number_of sign_of taken_of
words = 0

unfoldable pub form : ℕ
unfolding tests is_open is_shut named operates is_taken begin on_to counting deepened sourced defined after_expression
    expression step_at step_of is_top whole opened_step taken_number
form = 0

unfoldable pub names : ℕ
unfolding tests blamed unless place_in taken_of
names = 0

unfoldable pub tree : ℕ
unfolding tests counted size_at opened_at callable_in takes_in own_calls own_runs grounded spent levelled innermost
    with_operand whole_grove open_grove close_grove defined_tree size_of size_fits size_length
tree = 0

unfoldable pub knowing : ℕ
unfolding tests with_names with_grove is_parameter fits_operand operand_kept constant_kept operator_kept apply_kept
    define_kept learnt found_of blamed bytes_of
knowing = 0

unfoldable pub writing : ℕ
unfolding tests cursor_of few entry_for operands_so_far next_entry outer_entry place_d place_r deployment_loc location_r
    add_apply add_operand add_constant adds bytes_of
writing = 0
