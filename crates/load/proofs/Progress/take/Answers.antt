use Rattle.std.specs.Prelude.{ℕ, ◌≡◌, refl}
use Rattle.std.proofs.Common.{arith}
use Rattle.std.proofs.lemmas.Option.{IfSome_then}
use Rattle.program.specs.Command.{decode, takes_words}
use Rattle.value.proofs.Tests.{lt!, lt×, no, yes}
use Rattle.value.specs.Test.{◌<?◌, pick}
use Rattle.load.proofs.Progress.take.Goals as goal

pub returns-then-self-known-clause-counted : goal.returns-then-self-known-clause-counted
returns-then-self-known-clause-counted c =
    let one : ℕ = pick (takes_words (decode c.args.c)) 1 0 in
    let none : 0 ≡ pick (c.args.self.next <? c.args.known.now.declared) 0 one = yes one (lt! c.if-self-known.true) refl in
    IfSome_then c.take_d.result c.take_d.ensures.counted (λ q e. omega (arith, e, none))

pub returns-else-self-known-clause-counted : goal.returns-else-self-known-clause-counted
returns-else-self-known-clause-counted c =
    let one : ℕ = pick (takes_words (decode c.args.c)) 1 0 in
    let some : one ≡ pick (c.args.self.next <? c.args.known.now.declared) 0 one = no 0 (lt× c.if-self-known.false) refl in
    IfSome_then c.take_r.result c.take_r.ensures.counted (λ q e. omega (arith, e, some))
