-- Every definition of this room opened at once, and of those below it, for theorems that compute: such a theorem says
-- `unfolding opened`.
use Rattle.std.specs.Prelude.{ℕ}
use Rattle.remus.specs.Open.{opened as below_opened}
use Rattle.haai.specs.Word.{is_space, is_bracket, ends_word, word_start, word_end, bytes_of as word_bytes, words_from}
use Rattle.haai.specs.Word.{words_of, same_word, position, among, every, is_letter, is_digit, is_name, decimal}
use Rattle.haai.specs.Word.{has_minus, digits, integer_of, is_number as is_number_word, class_of, sign_at, taken_at}
use Rattle.haai.specs.Word.{taken_number, sign_number}
use Rattle.haai.specs.Grammar.{is_open, is_shut, named, operates, is_taken, begin, on_to, counting, deepened}
use Rattle.haai.specs.Grammar.{sourced, defined, after_expression, expression, step_at, step_of, is_top, whole}
use Rattle.haai.specs.Grammar.{with_item, taken, form_from, form_of}
use Rattle.haai.specs.Syntax.{count_of}
use Rattle.haai.specs.Names.{nothing, unless, fresh, meant, fit_operand, operator_of, definition_of, callable}
use Rattle.haai.specs.Names.{takes, add_source, add_reactor, add_parameter, with_pile, with_operand, add_expr}
use Rattle.haai.specs.Names.{add_operator, closed, add_definition, learn, learn_all, fault_of, text_of}
use Rattle.haai.specs.Emit.{allocates, declares, declares_all, calls, own_steps, steps, steps_all, location_of}
use Rattle.haai.specs.Emit.{locations_of, supplies, applied, runs, runs_all, sinks_from, declared, running, first_r}
use Rattle.haai.specs.Emit.{sequence_d, sequence_r, commands_of, shape_bytes, shapes_of, entries_from, code_of}
use Rattle.haai.specs.Emit.{header_bytes, program_of, within_limits}
use Rattle.haai.specs.Meaning.{applying, meaning, meanings, function_of, last_of, sinks_of, meaning_of, pairs_of}
use Rattle.haai.specs.Compile.{refused, written, by_names, by_form, tree_by, tree_of, compile_of}

unfoldable pub opened : ℕ
unfolding below_opened is_space is_bracket ends_word word_start word_end word_bytes words_from words_of same_word position
    among every is_letter is_digit is_name decimal has_minus digits integer_of is_number_word class_of sign_at sign_number taken_at taken_number is_open is_shut named
    operates is_taken begin on_to counting deepened sourced defined after_expression expression step_at step_of is_top whole
    with_item taken form_from form_of count_of nothing unless fresh meant fit_operand operator_of definition_of callable
    takes add_source add_reactor add_parameter with_pile with_operand add_expr add_operator closed add_definition learn
    learn_all fault_of text_of allocates declares declares_all calls own_steps steps steps_all location_of locations_of
    supplies applied runs runs_all sinks_from declared running first_r sequence_d sequence_r commands_of shape_bytes shapes_of
    entries_from code_of header_bytes program_of within_limits applying meaning meanings function_of last_of sinks_of
    meaning_of pairs_of refused written by_names by_form tree_by tree_of compile_of
opened = 0
