use Rattle.std.specs.Prelude.{refl}
use Rattle.std.proofs.Common.{arith}
use Rattle.machine.proofs.Placing.{place_r_lem, placed_next, results_next}
use Rattle.program.specs.Bytes.{byte}
use Rattle.program.specs.Location.{results}
use Rattle.machine.proofs.places.Slots.lay_rest.Goals as goal

pub loop-j-init : goal.loop-j-init
unfolding results
loop-j-init c = (omega arith, λ r e f h. (omega arith, λ g l q. g l (omega arith)))

pub loop-j-preserved : goal.loop-j-preserved
unfolding byte
loop-j-preserved c = let loop = c.loop-j in
    let one = c.result_of-m.ensures in (
      omega (arith, loop.invariant.0, one.one),
      λ r e f h.
          let so = loop.invariant.1 r e f h in (
            results_next _ r _ _ _ _ _ e refl one.is so.0,
            λ g l q.
                placed_next _ loop.self.before _ r _ _ (omega (arith, loop.self.whole)) c.note.ensures (so.1 g)
                (place_r_lem _ r _ _ _ f (omega arith) so.0) l (omega arith),
          ),
    )

pub returns : goal.returns
returns c = λ r e f h g l q. (c.loop-j.invariant.1 r e f h).1 g l (omega arith)

pub overflow_add-m : goal.overflow_add-m
overflow_add-m c = omega (arith, c.result_of-m.ensures.one)
