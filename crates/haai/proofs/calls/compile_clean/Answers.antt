use Rattle.std.proofs.Common.{rules}
use Rattle.std.proofs.Common.{not}
use Rattle.std.specs.Prelude.{ℕ, ◌+◌, ◌*◌}
use Rattle.std.proofs.Common.{sym, ◌∙◌, ap, arith}
use Rattle.value.proofs.Tests.{refused, passed}
use Rattle.haai.specs.Names.{text_of}
use Rattle.haai.proofs.Compiled.{limit_stops, space_stops, written_whole, limits_found, whole_found, long as zs_long}
use Rattle.haai.proofs.calls.compile_clean.Goals as goal

pub returns-then-not-fits : goal.returns-then-not-fits
unfolding text_of
returns-then-not-fits c = limit_stops (c.args.output.now) _
    (sym (limits_found (c.args.text.now) c.args.f (c.args.table.now) c.requires)
    ∙ refused c.fits.ensures (ap not c.if-not-fits.true))

pub overflow_add-whole : goal.overflow_add-whole
overflow_add-whole c = let few = c.requires.found.few_sources in search rules

pub overflow_mul-whole : goal.overflow_mul-whole
overflow_mul-whole c = let few = c.requires.found.few in search rules

pub overflow_add-whole-2 : goal.overflow_add-whole-2
overflow_add-whole-2 c = let found = c.requires.found in
    let g = found.few_sources in
    let n = found.few in
    search rules

pub code_length-requires : goal.code_length-requires
code_length-requires c = let long = zs_long (c.args.text.now) c.args.f (c.args.table.now) c.requires in
    let few = c.requires.found.few in
    omega arith

pub overflow_add-whole-3 : goal.overflow_add-whole-3
overflow_add-whole-3 c = let found = c.requires.found in
    let g = found.few_sources in
    let n = found.few in
    let most = c.code_length.ensures.1 in
    search rules

pub returns-then-output-whole : goal.returns-then-output-whole
unfolding text_of
returns-then-output-whole c = let t = c.args.text.now in
    let f = c.args.f in
    let tb = c.args.table.now in
    let limits = sym (limits_found t f tb c.requires) ∙ passed c.fits.ensures (ap not c.if-not-fits.false) in
    let code = c.code_length.ensures.0 in
    let whole = whole_found t f tb c.requires limits _
    (ap (λ (m : ℕ). 8 + f.sources + 20 * f.definitions + m) code) in
    space_stops (c.args.output.now) _ limits _ whole c.if-output-whole.true

pub put_program-requires : goal.put_program-requires
put_program-requires c = let t = c.args.text.now in
    let f = c.args.f in
    let tb = c.args.table.now in
    let limits = sym (limits_found t f tb c.requires) ∙ passed c.fits.ensures (ap not c.if-not-fits.false) in
    let code = c.code_length.ensures.0 in
    let whole = whole_found t f tb c.requires limits _
    (ap (λ (m : ℕ). 8 + f.sources + 20 * f.definitions + m) code) in
    let room = c.if-output-whole.false in
    record { clean = c.requires; limits = limits; room = omega arith }

pub returns : goal.returns
unfolding text_of
returns c = let t = c.args.text.now in
    let f = c.args.f in
    let tb = c.args.table.now in
    let limits = sym (limits_found t f tb c.requires) ∙ passed c.fits.ensures (ap not c.if-not-fits.false) in
    let code = c.code_length.ensures.0 in
    let whole = whole_found t f tb c.requires limits _
    (ap (λ (m : ℕ). 8 + f.sources + 20 * f.definitions + m) code) in
    written_whole (c.args.output.now) _ limits _ whole c.if-output-whole.false _
    c.put_program.ensures
