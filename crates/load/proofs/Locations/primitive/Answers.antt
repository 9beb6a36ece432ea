use Rattle.load.proofs.Primitives.{giving, no_row, one_of_any, one_truth, row_choose, row_gone, row_instead}
use Rattle.load.proofs.Primitives.{row_known, row_not, row_tick, rows_compare, rows_number, rows_truth}
use Rattle.load.proofs.Primitives.{truth_then_two, two_alike, two_numbers, two_truths}
use Rattle.load.proofs.Sequence.{none_given, same_given}
use Rattle.load.specs.Clauses.{state}
use Rattle.load.specs.Scan.{kind_at}
use Rattle.std.specs.Prelude.{refl}
use Rattle.std.proofs.Common.{◌∙◌, arith}
use Rattle.value.proofs.Rows.{missed}
use Rattle.value.proofs.Tests.{eq!, lt×}
use Rattle.value.specs.Primitive.{is_primitive, is_withdrawn, kind_given, table}
use Rattle.load.proofs.Locations.primitive.Goals as goal

pub returns-in-7 : goal.returns-in-7
unfolding kind_given kind_at
returns-in-7 c = let args = c.args in
    let s = state args.self.now in
    λ p r. giving p r args.self.now args.c _ (row_not c.in-7.is)
    (λ n. c.then_some.ensures ∙ same_given (c.one_right.ensures n ∙ one_truth (s n) args.c) refl)

pub returns-in-10 : goal.returns-in-10
unfolding kind_given kind_at
returns-in-10 c = let args = c.args in
    let s = state args.self.now in
    λ p r. giving p r args.self.now args.c _ (row_known c.in-10.is)
    (λ n. c.then_some-in-10.ensures ∙ same_given (c.one_right-in-10.ensures n ∙ one_of_any (s n) args.c) refl)

pub returns-in-11 : goal.returns-in-11
unfolding kind_given kind_at
returns-in-11 c = let args = c.args in
    let s = state args.self.now in
    λ p r. giving p r args.self.now args.c _ (row_choose c.in-11.is)
    (λ n. c.then_some-in-11.ensures ∙ same_given (c.three_right.ensures n ∙ truth_then_two (s n) args.c) c.seen.ensures.kind)

pub returns-in-12 : goal.returns-in-12
unfolding kind_given kind_at
returns-in-12 c = let args = c.args in
    let s = state args.self.now in
    λ p r. giving p r args.self.now args.c _ (row_instead c.in-12.is)
    (λ n. c.then_some-in-12.ensures ∙ same_given (c.alike_right.ensures n ∙ two_alike (s n) args.c) c.seen-in-12.ensures.kind)

pub returns-in-13 : goal.returns-in-13
unfolding kind_given kind_at
returns-in-13 c = let args = c.args in
    let s = state args.self.now in
    λ p r. giving p r args.self.now args.c _ (row_tick c.in-13.is)
    (λ n. c.then_some-in-13.ensures ∙ same_given (c.two_right.ensures n ∙ two_numbers (s n) args.c) refl)

pub returns-in-0-to-3 : goal.returns-in-0-to-3
unfolding kind_given kind_at
returns-in-0-to-3 c = let args = c.args in
    let s = state args.self.now in
    λ p r. giving p r args.self.now args.c _ (rows_number _ (omega arith) (omega arith))
    (λ n. c.then_some-in-0-to-3.ensures ∙ same_given (c.two_right-in-0-to-3.ensures n ∙ two_numbers (s n) args.c) refl)

pub returns-in-5-to-6 : goal.returns-in-5-to-6
unfolding kind_given kind_at
returns-in-5-to-6 c = let args = c.args in
    let s = state args.self.now in
    λ p r. giving p r args.self.now args.c _ (rows_compare _ (omega arith) (omega arith))
    (λ n. c.then_some-in-5-to-6.ensures ∙ same_given (c.two_right-in-5-to-6.ensures n ∙ two_numbers (s n) args.c) refl)

pub returns-in-8-to-9 : goal.returns-in-8-to-9
unfolding kind_given kind_at
returns-in-8-to-9 c = let args = c.args in
    let s = state args.self.now in
    λ p r. giving p r args.self.now args.c _ (rows_truth _ (omega arith) (omega arith))
    (λ n. c.then_some-in-8-to-9.ensures ∙ same_given (c.two_right-in-8-to-9.ensures n ∙ two_truths (s n) args.c) refl)

pub returns-in_default : goal.returns-in_default
unfolding is_withdrawn
returns-in_default c = let args = c.args in
    let s = state args.self.now in
    λ p r n. none_given _ (row_gone (s n) args.c p r (eq! (omega arith)))

pub returns-in_default-2 : goal.returns-in_default-2
unfolding is_primitive table
returns-in_default-2 c = let args = c.args in
    let s = state args.self.now in
    λ p r n. none_given _ (no_row (s n) args.c p r
    (lt× (let m = c.in_default.in_default-own.rest in missed 10 4 args.c.x (omega arith)
    ((((tt, m.0.0.0.1), m.0.0.1), m.0.1), m.1))))
