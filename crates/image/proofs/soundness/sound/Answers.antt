-- `at-..` is what is known where that test was made: its result, and that it passed.
use Rattle.std.proofs.Common.{not}
use Rattle.std.specs.Prelude.{ℕ}
use Rattle.std.proofs.Common.{sym, ◌∙◌, ap}
use Rattle.image.proofs.Cuts.{framed_tiling, unframed, chained, fresh_judged, grown_judged}
use Rattle.image.specs.Clauses.{starts_on}
use Rattle.image.specs.Memory.{main_at}
use Rattle.image.specs.Passes.{grown_sound}
use Rattle.value.proofs.Tests.{passed, refused}
use Rattle.image.proofs.soundness.sound.Goals as goal

pub returns-then-not-framed : goal.returns-then-not-framed
returns-then-not-framed c = unframed _ _ (refused c.framed.ensures (ap not c.if-not-framed.true))

pub returns-then-next-ne0 : goal.returns-then-next-ne0
returns-then-next-ne0 c = chained _ _ (passed c.framed.ensures (ap not c.if-not-framed.false))
    (λ e. c.if-next-ne0.true (c.next.ensures ∙ e))

pub returns-then-turns-eq0 : goal.returns-then-turns-eq0
returns-then-turns-eq0 c = c.fresh.ensures
    ∙ fresh_judged _ _
    (passed c.framed.ensures (ap not c.if-not-framed.false))
    (sym c.next.ensures ∙ c.if-next-ne0.false)
    (sym c.turns.ensures ∙ c.if-turns-eq0.true)

pub grown-requires : goal.grown-requires
grown-requires c = rw c.used-u.ensures (framed_tiling _ _ (passed c.framed.ensures (ap not c.if-not-framed.false)))

pub returns : goal.returns
returns c = let args = c.args in
    let p = args.program.now in
    let m = args.memory.now in
    c.grown.ensures
    ∙ ap (λ (u : ℕ). grown_sound p m (starts_on p m u main_at)) c.used-u.ensures
    ∙ grown_judged _ _
    (passed c.framed.ensures (ap not c.if-not-framed.false))
    (sym c.next.ensures ∙ c.if-next-ne0.false)
    (λ e. c.if-turns-eq0.false (c.turns.ensures ∙ e))
