use Rattle.std.proofs.Common.{not}
use Rattle.std.proofs.Common.{ap}
use Rattle.std.specs.Prelude.{ℕ, ◌+◌, ◌<◌, ◌≡◌, refl, List}
use Rattle.std.proofs.Common.{sym, ◌∙◌, arith}
use Rattle.std.proofs.lemmas.Bool.{false≢true}
use Rattle.image.proofs.Merging.{swept_none, swept_next}
use Rattle.image.proofs.Tiles.{follows, starts_done}
use Rattle.image.specs.Clauses.{Tiling, Follows}
use Rattle.image.specs.Memory.{size_at}
use Rattle.value.proofs.Tests.{passed, eq×?}
use Rattle.image.proofs.sweep.sweep_all.Goals as goal

pub loop-a-init : goal.loop-a-init
loop-a-init c = (c.requires.tiling, refl, λ t f. f)

pub returns-then-none : goal.returns-then-none
returns-then-none c = λ e. absurd (false≢true e)

-- where the deployment at o ends
ends : (p m : List ℕ) (u o n : ℕ) → Tiling p m u o → o < u → n ≡ size_at p m o → Follows p m u o (o + n)
ends p m u o n t l e = follows p m u o t l (o + n) (omega arith)

pub overflow_add-a : goal.overflow_add-a
unfolding size_at
overflow_add-a c = let some = eq×? (sym c.none.ensures ∙ c.if-none.false) in
    let told = c.counts_at-counts.ensures.right _ c.requires.facts some in
    let f = ends _ _ _ _ _ c.loop-a.invariant.0 c.loop-a-test.true
    (c.size.ensures.is _ _ told) in
    omega (arith, f.within)

pub sweep_one-requires : goal.sweep_one-requires
sweep_one-requires c = c.counts_at-counts.ensures.right _ c.requires.facts (eq×? (sym c.none.ensures ∙ c.if-none.false))

pub returns-then-not-sweep_one : goal.returns-then-not-sweep_one
returns-then-not-sweep_one c = λ e. absurd (false≢true e)

pub loop-a-smaller : goal.loop-a-smaller
loop-a-smaller c = omega (arith, c.size.ensures.least)

pub loop-a-preserved : goal.loop-a-preserved
unfolding size_at
loop-a-preserved c = let loop = c.loop-a in
    let some = eq×? (sym c.none.ensures ∙ c.if-none.false) in
    let told = c.counts_at-counts.ensures.right _ c.requires.facts some in
    let f = ends _ _ _ _ _ loop.invariant.0 c.loop-a-test.true (c.size.ensures.is _ _ told) in
    let own = c.sweep_one.ensures in
    let went = passed refl (ap not c.if-not-sweep_one.false) in (
      f.tiling,
      cc,
      λ t g. loop.invariant.2 t (swept_next _ _ _ _ _ _ _ _ (own.placed went) (own.swept went) g _ f.here),
    )

pub returns : goal.returns
returns c = λ e.
    c.loop-a.invariant.2 _
    (swept_none _ _ _ _
    (starts_done (c.args.program.now) (c.args.memory.now) c.args.u c.loop-a.a
    c.loop-a-test.false))

pub shape_of-table-then-none : goal.shape_of-table-then-none
shape_of-table-then-none c = cc

pub shape_of-table-then-not-sweep_one : goal.shape_of-table-then-not-sweep_one
shape_of-table-then-not-sweep_one c = cc

pub shape_of-table : goal.shape_of-table
shape_of-table c = cc
