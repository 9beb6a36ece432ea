use Rattle.load.specs.Tables.{between, header_legal}
use Rattle.program.specs.Bytes.{globals, reactors, shapes}
use Rattle.program.specs.Clauses.{header_of}
use Rattle.program.specs.declared.Header.{Header}
use Rattle.value.proofs.Tests.{eq!, eq×, no, same_eq, same_le, yes}
use Rattle.std.specs.Prelude.{refl}
use Rattle.std.proofs.Common.{◌∙◌, ap, arith}
use Rattle.load.proofs.tables.header_legal.Goals as goal

pub returns-in-0 : goal.returns-in-0
unfolding header_legal header_of shapes reactors globals
returns-in-0 c = yes _ (eq! (omega arith))
    (same_eq (ap (λ (h : Header). h.format) c.from_bytes-h.ensures) refl)

pub returns-in-1 : goal.returns-in-1
unfolding header_legal header_of shapes reactors globals
returns-in-1 c = no _ (eq× (λ e. omega arith))
    (yes _ (eq! (omega arith))
    (c.between.ensures ∙ ap (between 1 32) (ap (λ (h : Header). h.shapes) c.from_bytes-h.ensures)))

pub returns-in-2 : goal.returns-in-2
unfolding header_legal header_of shapes reactors globals
returns-in-2 c = no _ (eq× (λ e. omega arith))
    (no _ (eq× (λ e. omega arith)) (yes _ (eq! (omega arith)) (c.between-in-2.ensures
    ∙ ap (between 1 64) (ap (λ (h : Header). h.reactors) c.from_bytes-h.ensures))))

pub returns-in-3 : goal.returns-in-3
unfolding header_legal header_of shapes reactors globals
returns-in-3 c = no _ (eq× (λ e. omega arith))
    (no _ (eq× (λ e. omega arith)) (no _ (eq× (λ e. omega arith)) (yes _ (eq! (omega arith))
    (same_le (ap (λ (h : Header). h.globals) c.from_bytes-h.ensures) refl))))

pub returns-in_default : goal.returns-in_default
unfolding header_legal header_of shapes reactors globals
returns-in_default c = no _ (eq× c.in_default.in_default-own.rest.0.0.0.1)
    (no _ (eq× c.in_default.in_default-own.rest.0.0.1)
    (no _ (eq× c.in_default.in_default-own.rest.0.1) (no _ (eq× c.in_default.in_default-own.rest.1) (same_eq c.byte.ensures refl))))
