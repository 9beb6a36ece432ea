use Rattle.std.specs.Prelude.{ℕ, ◌≡◌, refl, List}
use Rattle.std.proofs.Common.{sym, ◌∙◌, ap, arith}
use Rattle.std.proofs.lemmas.Bool.{false≢true}
use Rattle.image.proofs.Lists.{over_done, over_next}
use Rattle.image.proofs.Tiles.{starts_done, starts_next, tiles_done, tiles_next}
use Rattle.image.specs.Memory.{size_at}
use Rattle.image.specs.Passes.{tiles_from, visit}
use Rattle.program.specs.Clauses.{Facts}
use Rattle.value.proofs.Tests.{same_eq, eq×?}
use Rattle.image.proofs.sweep.mark_tiles.Goals as goal

pub loop-a-init : goal.loop-a-init
loop-a-init c = (refl, (λ p f. refl), (λ p f. refl))

pub returns-then-none : goal.returns-then-none
returns-then-none c = record { tiled = (λ p f e. absurd (false≢true e)); marked = (λ p f e. absurd (false≢true e)) }

pub returns-then-u-a : goal.returns-then-u-a
returns-then-u-a c = record { tiled = (λ p f e. absurd (false≢true e)); marked = (λ p f e. absurd (false≢true e)) }

pub loop-a-smaller : goal.loop-a-smaller
loop-a-smaller c = omega (arith, c.size-size.ensures.least)

pub loop-a-preserved : goal.loop-a-preserved
unfolding visit size_at
loop-a-preserved c = let loop = c.loop-a in
    let here = c.loop-a-test.true in
    let m = c.args.memory.now in
    let some = eq×? (sym c.none.ensures ∙ c.if-none.false) in
    let sized = c.size-size in
    let size : (p : List ℕ) → Facts p (c.args.facts.now) → sized.result ≡ size_at p m loop.a =
    (λ p f. sized.ensures.is p _ (c.counts_at-counts.ensures.right p f some)) in (
      cc,
      (λ p f.
          ap (tiles_from p m _ _) (omega (arith, size p f))
          ∙ tiles_next p m _ _ c.requires here (c.counts_at-counts.ensures.legal p f some) ∙ loop.invariant.1 p f),
      (λ p f.
          over_next _ _ _ _ _ _ (starts_next p m c.args.u loop.a _ c.requires here
          (omega (arith, size p f)))
          c.mark_start.ensures
          ∙ loop.invariant.2 p f),
    )

pub returns : goal.returns
returns c = let m = c.args.memory.now in
    let l = c.loop-a in record { tiled = (λ p f e. sym (l.invariant.1 p f) ∙ sym (tiles_done _ _ _ _ c.loop-a-test.false) ∙ sym (same_eq refl refl) ∙ e); marked = (λ p f e. over_done _ _ _ (starts_done p m c.args.u l.a c.loop-a-test.false) ∙ l.invariant.2 p f) }

pub shape_of-table-then-none : goal.shape_of-table-then-none
shape_of-table-then-none c = cc

pub shape_of-table-then-u-a : goal.shape_of-table-then-u-a
shape_of-table-then-u-a c = cc

pub shape_of-table : goal.shape_of-table
shape_of-table c = cc
