use Rattle.std.proofs.Common.{not, ap, ◌∙◌, arith}
use Rattle.std.specs.Prelude.{◌+◌, ◌-◌, ◌≡◌, refl}
use Rattle.image.proofs.Chains.{chain_ends, chain_last, chain_next, chain_unjoined, chain_unlinked}
use Rattle.program.specs.Bytes.{reactors}
use Rattle.value.proofs.Tests.{passed, refused, same_lt}
use Rattle.image.proofs.tiled.Tiled.chain_sound.Goals as goal

pub loop-init : goal.loop-init
loop-init c = let e : c.reactors-end.result - 0 ≡ reactors (c.args.self.now.program.now) = omega arith in
    rw (e, c.used-last.ensures) refl

pub returns-then-c-lt1 : goal.returns-then-c-lt1
returns-then-c-lt1 c = let l = c.loop in chain_ends _ _ _ _ _ _ _ _ _ (c.reactors-end.result - l.counter) (omega arith) (omega arith) ∙ l.invariant

pub returns-then-not-linked : goal.returns-then-not-linked
returns-then-not-linked c = let l = c.loop in
    chain_unlinked _ _ _ _ _ _ _ _ _ (c.reactors-end.result - l.counter) (omega arith) (omega arith)
    (refused c.linked.ensures (ap not c.if-not-linked.true)) ∙ l.invariant

pub returns-then-not-joins : goal.returns-then-not-joins
returns-then-not-joins c = let l = c.loop in
    chain_unjoined _ _ _ _ _ _ _ _ _ (c.reactors-end.result - l.counter) (omega arith) (omega arith)
    (passed c.linked.ensures (ap not c.if-not-linked.false))
    _ c.reactor-r.ensures (refused c.joins.ensures (ap not c.if-not-joins.true)) ∙ l.invariant

pub loop-preserved : goal.loop-preserved
loop-preserved c = let l = c.loop in
    chain_next _ _ _ _ _ _ _ _ _ (c.reactors-end.result - (l.counter + 1) + 1) (omega arith) (omega arith)
    (passed c.linked.ensures (ap not c.if-not-linked.false)) _ c.reactor-r.ensures _ _
    (passed c.joins.ensures (ap not c.if-not-joins.false)) c.put.ensures c.next-c.ensures ∙ l.invariant

pub returns : goal.returns
returns c = same_lt refl refl ∙ chain_last _ _ _ _ _ _ _ _ _ (omega arith) ∙ c.loop.invariant
