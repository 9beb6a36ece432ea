use Rattle.load.proofs.Sequence.{other_r, value_done}
use Rattle.load.specs.Clauses.{state, Taking}
use Rattle.program.proofs.Decode.{as_constant, as_consume, as_fetch, as_global, as_keep, as_poly, as_primitive}
use Rattle.program.proofs.Decode.{as_react, as_sink, as_supply}
use Rattle.program.specs.Command.{Cmd}
use Rattle.value.proofs.Tests.{no}
use Rattle.std.specs.Prelude.{refl}
use Rattle.std.proofs.Common.{arith, subst}
use Rattle.load.proofs.known.Known.command_r.Goals as goal

pub returns-in-3 : goal.returns-in-3
returns-in-3 c = let args = c.args in
    let k = args.self.now in
    let t = args.locations.now in
    subst (λ (d : Cmd). Taking k.program.now k.reactor args.here t c.value.new.self args.c d c.value.result) (as_constant (λ (d : Cmd). d) args.c (omega arith) refl)
    (value_done k.program.now k.reactor t _ args.c _ _ args.here _ (c.constant.ensures t)
    c.value.ensures.right c.value.ensures.done)

pub returns-in-4 : goal.returns-in-4
returns-in-4 c = let args = c.args in
    let k = args.self.now in
    let t = args.locations.now in
    subst (λ (d : Cmd). Taking k.program.now k.reactor args.here t c.value-in-4.new.self args.c d c.value-in-4.result) (as_global (λ (d : Cmd). d) args.c (omega arith) refl)
    (value_done k.program.now k.reactor t _ args.c _ _ args.here _ (c.global.ensures t)
    c.value-in-4.ensures.right c.value-in-4.ensures.done)

pub returns-in-5 : goal.returns-in-5
returns-in-5 c = let args = c.args in
    let k = args.self.now in
    subst (λ (d : Cmd). Taking k.program.now k.reactor args.here args.locations.now c.supply.new.locations args.c d
    c.supply.result) (as_supply (λ (d : Cmd). d) args.c (omega arith) refl)
    (c.supply.ensures args.here)

pub returns-in-6 : goal.returns-in-6
returns-in-6 c = let args = c.args in
    let k = args.self.now in
    subst (λ (d : Cmd). Taking k.program.now k.reactor args.here args.locations.now c.react.new.locations args.c d
    c.react.result) (as_react (λ (d : Cmd). d) args.c (omega arith) refl)
    (c.react.ensures args.here)

pub returns-in-7 : goal.returns-in-7
returns-in-7 c = let args = c.args in
    let k = args.self.now in
    let t = args.locations.now in
    subst (λ (d : Cmd). Taking k.program.now k.reactor args.here t c.value-in-7.new.self args.c d c.value-in-7.result) (as_consume (λ (d : Cmd). d) args.c (omega arith) refl)
    (value_done k.program.now k.reactor t _ args.c _ _ args.here _ (c.consume-k.ensures)
    c.value-in-7.ensures.right c.value-in-7.ensures.done)

pub returns-in-8 : goal.returns-in-8
returns-in-8 c = let args = c.args in
    let k = args.self.now in
    subst (λ (d : Cmd). Taking k.program.now k.reactor args.here args.locations.now c.sink.new.locations args.c d
    c.sink.result) (as_sink (λ (d : Cmd). d) args.c (omega arith) refl)
    (c.sink.ensures args.here)

pub returns-in-9 : goal.returns-in-9
returns-in-9 c = let args = c.args in
    let k = args.self.now in
    subst (λ (d : Cmd). Taking k.program.now k.reactor args.here args.locations.now c.alloc_poly.new.self args.c d
    c.alloc_poly.result) (as_poly (λ (d : Cmd). d) args.c (omega arith) refl)
    (c.alloc_poly.ensures k.program.now k.reactor)

pub returns-in-10 : goal.returns-in-10
returns-in-10 c = let args = c.args in
    let k = args.self.now in
    let t = args.locations.now in
    subst (λ (d : Cmd). Taking k.program.now k.reactor args.here t c.value-in-10.new.self args.c d c.value-in-10.result) (as_primitive (λ (d : Cmd). d) args.c (omega arith) refl)
    (value_done k.program.now k.reactor t _ args.c _ _ args.here _ (c.primitive-k.ensures k.program.now k.reactor)
    c.value-in-10.ensures.right c.value-in-10.ensures.done)

pub returns-in-12 : goal.returns-in-12
returns-in-12 c = let args = c.args in
    let k = args.self.now in
    let t = args.locations.now in
    subst (λ (d : Cmd). Taking k.program.now k.reactor args.here t c.value-in-12.new.self args.c d c.value-in-12.result) (as_fetch (λ (d : Cmd). d) args.c (omega arith) refl)
    (value_done k.program.now k.reactor t _ args.c _ _ args.here _ (c.fetch-k.ensures k.program.now k.reactor)
    c.value-in-12.ensures.right c.value-in-12.ensures.done)

pub returns-in-13 : goal.returns-in-13
returns-in-13 c = let args = c.args in
    let k = args.self.now in
    subst (λ (d : Cmd). Taking k.program.now k.reactor args.here args.locations.now c.keep.new.self args.c d
    c.keep.result) (as_keep (λ (d : Cmd). d) args.c (omega arith) refl)
    (c.keep.ensures k.program.now k.reactor args.here)

pub returns-in_default : goal.returns-in_default
returns-in_default c = let args = c.args in
    let k = args.self.now in
    let m = c.in_default.in_default-own.rest in record {
      told = λ n. other_r k.program.now k.reactor (state args.locations.now n) args.c m.0.0.0.0.0.0.0.0.0.1
          m.0.0.0.0.0.0.0.0.1
          m.0.0.0.0.0.0.0.1 m.0.0.0.0.0.0.1 m.0.0.0.0.0.1
          m.0.0.0.0.1 m.0.0.0.1 m.0.0.1 m.0.1 m.1;
      done = λ n. no _ refl refl;
    }
