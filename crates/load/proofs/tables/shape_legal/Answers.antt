use Rattle.std.specs.Prelude.{ℕ, ◌-◌, refl}
use Rattle.std.proofs.Common.{◌∙◌, ap, arith}
use Rattle.load.specs.Tables.{between, port_legal, shape_legal}
use Rattle.program.specs.Bytes.{byte}
use Rattle.value.proofs.Tests.{eq!, eq×, lt!, lt×, no, same_le, yes}
use Rattle.load.proofs.tables.shape_legal.Goals as goal

pub returns-then-k-eq0 : goal.returns-then-k-eq0
unfolding shape_legal
returns-then-k-eq0 c = yes _ (eq! (omega arith)) (same_le (c.byte-x.ensures ∙ ap (byte _) (omega arith)) refl)

pub returns-then-k-eq1 : goal.returns-then-k-eq1
unfolding shape_legal
returns-then-k-eq1 c = no _ (eq× c.if-k-eq0.false)
    (yes _ (eq! (omega arith))
    (c.between.ensures ∙ ap (between 1 7) (c.byte-x.ensures ∙ ap (byte _) (omega arith))))

pub returns-then-k-lt9 : goal.returns-then-k-lt9
unfolding shape_legal
returns-then-k-lt9 c = let args = c.args in
    let byte' = c.byte-x in
    no _ (eq× c.if-k-eq0.false)
    (no _ (eq× c.if-k-eq1.false) (yes _ (lt! (omega arith)) (c.port_legal.ensures
    ∙ ap (λ (n : ℕ). port_legal args.s n (args.k - 2) byte'.result) c.sources_in.ensures
    ∙ ap (port_legal _ _ _) (byte'.ensures ∙ ap (byte _) (omega arith)))))

pub returns : goal.returns
unfolding shape_legal
returns c = let args = c.args in
    let byte' = c.byte-x in
    no _ (eq× c.if-k-eq0.false)
    (no _ (eq× c.if-k-eq1.false) (no _ (lt× (omega arith)) (c.port_legal-2.ensures
    ∙ ap (λ (n : ℕ). port_legal args.s n (args.k - 9) byte'.result) c.sinks_in.ensures
    ∙ ap (port_legal _ _ _) (byte'.ensures ∙ ap (byte _) (omega arith)))))
