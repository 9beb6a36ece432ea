use Rattle.std.specs.Prelude.{List, ℕ}
use Rattle.std.proofs.Common.{sym, ◌∙◌, ap}
use Rattle.haai.specs.Clauses.{magnitude_of}
use Rattle.haai.proofs.Words.{with_minus, no_minus, number_none, number_found, number_large, minus_found, minus_large}
use Rattle.haai.proofs.word.number_of.Goals as goal

pub returns-in_err-m-in-Some : goal.returns-in_err-m-in-Some
returns-in_err-m-in-Some c = let w = c.args.w.now in
    let h = c.in-Some.ensures.cases in
    let z = with_minus w _ h.0 h.1 in
    c.from_residual.ensures ∙ number_none w (c.in_err-m-in-Some.ensures ∙ ap magnitude_of z.1)

pub returns-in_err-m-in-None : goal.returns-in_err-m-in-None
returns-in_err-m-in-None c = let w = c.args.w.now in
    let z = no_minus w c.in-None.ensures.cases in
    c.from_residual-in_err-m-in-None.ensures
    ∙ number_none w (c.in_err-m-in-None.ensures ∙ ap magnitude_of z.1)

pub returns-then-m-lt-MOST : goal.returns-then-m-lt-MOST
returns-then-m-lt-MOST c = let w = c.args.w.now in
    let h = c.in-Some.ensures.cases in
    let z = with_minus w _ h.0 h.1 in
    let m = c.in_ok-m-in-Some in
    minus_found w m.m (m.ensures ∙ ap magnitude_of z.1) c.wrapping_neg.result z.0 c.if-m-lt-MOST.true
    c.wrapping_neg.type_inv c.wrapping_neg.ensures

pub returns-else-m-lt-MOST : goal.returns-else-m-lt-MOST
returns-else-m-lt-MOST c = let w = c.args.w.now in
    let h = c.in-Some.ensures.cases in
    let z = with_minus w _ h.0 h.1 in
    let m = c.in_ok-m-in-Some in
    minus_large w m.m (m.ensures ∙ ap magnitude_of z.1) z.0 c.if-m-lt-MOST.false

pub returns-then-m : goal.returns-then-m
returns-then-m c = let w = c.args.w.now in
    let z = no_minus w c.in-None.ensures.cases in
    let m = c.in_ok-m-in-None in
    number_found w m.m (m.ensures ∙ ap magnitude_of z.1) z.0 c.if-m.true

pub returns-else-m : goal.returns-else-m
returns-else-m c = let w = c.args.w.now in
    let z = no_minus w c.in-None.ensures.cases in
    let m = c.in_ok-m-in-None in
    number_large w m.m (m.ensures ∙ ap magnitude_of z.1) z.0 c.if-m.false
