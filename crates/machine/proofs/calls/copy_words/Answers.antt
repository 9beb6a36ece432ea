use Rattle.std.specs.Prelude.{ℕ, suc, ◌+◌, ◌<◌, ◌≡◌, refl, length, get_or, take}
use Rattle.std.proofs.Common.{sym, ◌∙◌, ap, arith}
use lib.Seq.{take-suc, take-suc-set, take-length}
use Rattle.machine.proofs.calls.copy_words.Goals as goal

pub loop-i-init : goal.loop-i-init
loop-i-init c = refl

pub loop-i-preserved : goal.loop-i-preserved
loop-i-preserved c = let l = c.loop-i in
    let from = c.args.from.now in
    let h : l.i < length l.to = omega (arith, c.loop-i-test.true, l.auto.to) in
    let k : l.i < length from = omega (arith, c.loop-i-test.true, c.requires) in
    let z : l.i + 1 ≡ suc l.i = omega arith in
    rw z (take-suc-set l.to l.i (get_or from l.i 0) h ∙ rw l.invariant (sym (take-suc from l.i 0 k)))

pub returns : goal.returns
returns c = let l = c.loop-i in
    let from = c.args.from.now in
    let e : l.i ≡ length l.to = omega (arith, c.loop-i-test.false, l.auto) in
    let f : l.i ≡ length from = omega (arith, e, l.auto.to, c.requires) in
    sym (take-length l.to) ∙ ap (λ (n : ℕ). take n l.to) (sym e) ∙ l.invariant ∙ ap (λ (n : ℕ). take n from) f
    ∙ take-length from
