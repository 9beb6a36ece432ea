use Rattle.std.specs.Prelude.{◌≡◌, None, refl}
use Rattle.std.proofs.Common.{sym, ◌∙◌, arith, rules}
use Rattle.haai.proofs.Gathering.{gather_fits, gather_word}
use Rattle.haai.proofs.Finding.{gather_further, gather_stops}
use Rattle.haai.proofs.Passing.{pass_begins, pass_few, pass_goes, pass_ends}
use Rattle.haai.proofs.pass.write.Goals as goal

pub loop-a-init : goal.loop-a-init
loop-a-init c = let a = c.args in
    let p = c.requires in
    let k = c.begin-k in
    pass_begins (a.t.now) (a.sizes.now) a.end (a.out.now) _ _ k.result _ c.begin-s.ensures
    c.word_start-a.ensures p.right k.ensures.start.0 k.ensures.start.1 k.ensures.room.0 k.ensures.room.1.0
    k.ensures.room.1.1 refl

pub take_word-requires : goal.take_word-requires
take_word-requires c = let t = c.args.t.now in
    let g = c.loop-a in
    let h = g.invariant.gathering in (
      (gather_fits t g.s g.a g.k h).1,
      gather_word t g.s g.a g.k h c.loop-a-test.true _ c.word_end-e.ensures,
    )

pub emit_word-requires : goal.emit_word-requires
emit_word-requires c = let a = c.args in
    let t = a.t.now in
    let g = c.loop-a in
    let h = g.invariant.gathering in
    let able = c.requires in
    let few = pass_few t (a.sizes.now) a.end (a.out.now) able g.s g.a g.k g.ls g.out g.invariant in
    let word = gather_word t g.s g.a g.k h c.loop-a-test.true _ c.word_end-e.ensures in
    record { fits = ((gather_fits t g.s g.a g.k h).0, word); end_bound = (able.early, few) }

pub learn_word-requires : goal.learn_word-requires
learn_word-requires c = let t = c.args.t.now in
    let g = c.loop-a in
    let h = g.invariant.gathering in
    ((gather_fits t g.s g.a g.k h).0, gather_word t g.s g.a g.k h c.loop-a-test.true _ c.word_end-e.ensures)

pub word_start-a-requires-in-loop-a : goal.word_start-a-requires-in-loop-a
word_start-a-requires-in-loop-a c = let t = c.args.t.now in
    let g = c.loop-a in
    (gather_word t g.s g.a g.k g.invariant.gathering c.loop-a-test.true _ c.word_end-e.ensures).1

pub loop-a-smaller : goal.loop-a-smaller
loop-a-smaller c = let t = c.args.t.now in
    let g = c.loop-a in
    let f = gather_further t g.s g.a g.k g.invariant.gathering c.loop-a-test.true _ c.word_end-e.ensures _
    c.word_start-a-in-loop-a.ensures in
    omega arith

pub loop-a-preserved : goal.loop-a-preserved
loop-a-preserved c = let a = c.args in
    let g = c.loop-a in
    let step = sym c.take_word.ensures ∙ c.in-Some.is in
    pass_goes (a.t.now) (a.sizes.now) a.end (a.out.now) c.requires g.s g.a g.k g.ls g.out g.invariant
    c.loop-a-test.true _ c.word_end-e.ensures _ _ _ _ _ _ c.word_start-a-in-loop-a.ensures step
    c.learn_word.ensures c.emit_word.ensures

pub returns-after-loop-a : goal.returns-after-loop-a
returns-after-loop-a c = let a = c.args in
    let g = c.loop-a in
    pass_ends (a.t.now) (a.sizes.now) a.end (a.out.now) c.requires g.s g.a g.k g.ls g.out g.invariant
    c.loop-a-test.false

pub returns-in_default : goal.returns-in_default
returns-in_default c = let t = c.args.t.now in
    let g = c.loop-a in
    let none : c.take_word.result ≡ None = search rules in
    gather_stops t g.s g.a g.k g.invariant.gathering c.loop-a-test.true _ c.word_end-e.ensures
    (sym c.take_word.ensures ∙ none)
