use Rattle.std.proofs.Common.{not, ap, sym, ◌∙◌, arith}
use Rattle.std.specs.Prelude.{◌+◌, ◌-◌, ◌≡◌, refl}
use Rattle.std.proofs.lemmas.Bool.{false≢true}
use Rattle.image.proofs.Merging.{placed_later}
use Rattle.image.proofs.Sweeping.{chain_swept, chain_further}
use Rattle.program.specs.Bytes.{reactors}
use Rattle.value.proofs.Tests.{passed, lt?, same_lt}
use Rattle.image.proofs.sweep.sweep_chain.Goals as goal

pub loop-init : goal.loop-init
loop-init c = let e : c.reactors-end.result - 0 ≡ reactors (c.args.program.now) = omega arith in
    (refl, c.requires, rw (e, c.used-last.ensures) (λ t f. f))

pub returns-then-c-lt1 : goal.returns-then-c-lt1
returns-then-c-lt1 c = λ e. c.loop.invariant.2 _ (chain_swept _ _ _ _ _ _ _ _ _ (omega arith))

pub link-requires : goal.link-requires
link-requires c = c.loop.invariant.1

pub returns-then-not-link : goal.returns-then-not-link
returns-then-not-link c = λ e. absurd (false≢true e)

pub returns-then-not-joins : goal.returns-then-not-joins
returns-then-not-joins c = λ e. absurd (false≢true e)

pub loop-preserved : goal.loop-preserved
loop-preserved c = let loop = c.loop in
    let left = c.reactors-end.result - loop.counter in
    let e : c.reactors-end.result - (loop.counter + 1) ≡ left - 1 = omega arith in
    let linked = c.link.ensures (passed refl (ap not c.if-not-link.false)) in (
      cc,
      placed_later _ _ _ _ loop.invariant.1 linked.later,
      rw e (λ t f.
          loop.invariant.2 t
          (chain_further _ _ _ _ _ _ _ left _ _ _ _ _ _ (omega arith) (omega arith)
          c.reactor-r.ensures
          (passed c.joins.ensures (ap not c.if-not-joins.false)) c.put.ensures
          c.next-c.ensures linked f)),
    )

pub returns : goal.returns
returns c = let l = c.loop in
    λ e. l.invariant.2 _ (chain_swept _ _ _ _ _ _ _ _ _ (lt? (sym (same_lt refl refl) ∙ e)))

pub shape_of-table-then-c-lt1 : goal.shape_of-table-then-c-lt1
shape_of-table-then-c-lt1 c = cc

pub shape_of-table-then-not-link : goal.shape_of-table-then-not-link
shape_of-table-then-not-link c = cc

pub shape_of-table-then-not-joins : goal.shape_of-table-then-not-joins
shape_of-table-then-not-joins c = cc

pub shape_of-table : goal.shape_of-table
shape_of-table c = cc
