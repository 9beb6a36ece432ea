use Rattle.std.specs.Prelude.{◌≡◌, None}
use Rattle.std.proofs.Common.{sym, ◌∙◌, arith, rules}
use Rattle.haai.proofs.Gathering.{gather_begins, gather_fits, gather_word}
use Rattle.haai.proofs.Finding.{gather_further, gather_stops, gather_goes, gather_found}
use Rattle.haai.proofs.learn.names.Goals as goal
use Rattle.haai.proofs.learn.names.Goals.{else-loop-a-test, then-loop-a-test+in_default}

pub loop-a-init : goal.loop-a-init
loop-a-init c = let t = c.args.t.now in
    let k = c.begin-k in
    gather_begins t _ _ k.result c.begin-s.ensures c.word_start-a.ensures c.requires
    k.ensures.start.0 k.ensures.start.1 k.ensures.room.0 k.ensures.room.1.0 k.ensures.room.1.1

pub take_word-requires : goal.take_word-requires
take_word-requires c = let t = c.args.t.now in
    let g = c.loop-a in
    let l = c.loop-a-test.true in
    let q = c.word_end-e.ensures in
    ((gather_fits t g.s g.a g.k g.invariant).1, gather_word t g.s g.a g.k g.invariant l _ q)

pub learn_word-requires : goal.learn_word-requires
learn_word-requires c = let t = c.args.t.now in
    let g = c.loop-a in
    let l = c.loop-a-test.true in
    let q = c.word_end-e.ensures in
    ((gather_fits t g.s g.a g.k g.invariant).0, gather_word t g.s g.a g.k g.invariant l _ q)

pub word_start-a-requires-in-loop-a : goal.word_start-a-requires-in-loop-a
word_start-a-requires-in-loop-a c = let t = c.args.t.now in
    let g = c.loop-a in
    (gather_word t g.s g.a g.k g.invariant c.loop-a-test.true _ c.word_end-e.ensures).1

pub loop-a-smaller : goal.loop-a-smaller
loop-a-smaller c = let t = c.args.t.now in
    let g = c.loop-a in
    let l = c.loop-a-test.true in
    let q = c.word_end-e.ensures in
    let b = c.word_start-a-in-loop-a.ensures in
    let f = gather_further t g.s g.a g.k g.invariant l _ q _ b in
    omega arith

pub loop-a-preserved : goal.loop-a-preserved
loop-a-preserved c = let t = c.args.t.now in
    let g = c.loop-a in
    let l = c.loop-a-test.true in
    let q = c.word_end-e.ensures in
    let b = c.word_start-a-in-loop-a.ensures in
    let f = sym c.take_word.ensures ∙ c.in-Some.is in
    gather_goes t g.s g.a g.k g.invariant l _ q _ _ _ _ b f c.learn_word.ensures

pub found-requires : goal.found-requires
found-requires c = let t = c.args.t.now in
    let g = c.loop-a in
    (gather_fits t g.s g.a g.k g.invariant).0

pub returns : goal.returns
returns c = let t = c.args.t.now in
    let g = c.loop-a in
    elim c.loop-a-test.branch [
      | else-loop-a-test w ↦ gather_found t g.s g.a g.k g.invariant w.loop-a-test.false _ c.found.ensures
      | then-loop-a-test+in_default w ↦
          let none : w.take_word.result ≡ None = search rules in
          gather_stops t g.s g.a g.k g.invariant w.loop-a-test.true _ w.word_end-e.ensures
          (sym w.take_word.ensures ∙ none)
    ]
