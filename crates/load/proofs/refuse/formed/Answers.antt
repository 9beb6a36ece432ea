use Rattle.std.specs.Prelude.{ℕ, ◌+◌, ◌≡◌, refl, Bool}
use Rattle.std.proofs.Common.{◌∙◌, ap}
use Rattle.load.specs.Scan.{formed}
use Rattle.value.proofs.Tests.{same_and, same_eq, same_le, same_lt}
use Rattle.value.specs.Test.{◌and◌}
use Rattle.load.proofs.refuse.formed.Goals as goal

-- what is asked of a content, with the definition's test of its kind
with-kind : (m n : Bool) {z s t : Bool} → s ≡ t → z ≡ (m and s and n) → z ≡ (m and t and n)
with-kind m n e h = h ∙ ap (λ (k : Bool). m and k and n) e

pub returns-in-AllocMono : goal.returns-in-AllocMono
unfolding formed
returns-in-AllocMono c = let args = c.args in
    rw c.in-AllocMono.is (same_and (same_eq (ap (λ (v : ℕ). args.c.a + args.c.b + v) c.v-v.ensures) refl)
    (same_lt refl c.reactors.ensures))

pub returns-in-MakePoly : goal.returns-in-MakePoly
unfolding formed
returns-in-MakePoly c = let args = c.args in
    rw c.in-MakePoly.is (same_and (same_eq (ap (λ (v : ℕ). args.c.a + args.c.b + v) c.v-v.ensures) refl)
    (same_lt refl c.shapes.ensures))

pub returns-in-Constant : goal.returns-in-Constant
unfolding formed
returns-in-Constant c = let args = c.args in
    rw c.in-Constant.is (with-kind _ _ (same_lt refl (ap (λ (n : ℕ). 2 + n) c.shapes-in-Constant.ensures)) c.content_formed.ensures)

pub returns-in-Global : goal.returns-in-Global
unfolding formed
returns-in-Global c = let args = c.args in
    rw c.in-Global.is (same_and (same_eq (ap (λ (v : ℕ). args.c.a + args.c.b + v) c.v-v.ensures) refl)
    (same_le refl c.globals.ensures))

pub returns-in-Supply : goal.returns-in-Supply
unfolding formed
returns-in-Supply c = let args = c.args in
    rw c.in-Supply.is (same_eq (ap (λ (v : ℕ). v) c.v-v.ensures) refl)

pub returns-in-React : goal.returns-in-React
unfolding formed
returns-in-React c = let args = c.args in
    rw c.in-React.is (same_eq (ap (λ (v : ℕ). args.c.x + args.c.a + v) c.v-v.ensures) refl)

pub returns-in-Consume : goal.returns-in-Consume
unfolding formed
returns-in-Consume c = let args = c.args in
    rw c.in-Consume.is (same_eq (ap (λ (v : ℕ). args.c.a + v) c.v-v.ensures) refl)

pub returns-in-Sink : goal.returns-in-Sink
unfolding formed
returns-in-Sink c = let args = c.args in
    rw c.in-Sink.is (same_eq (ap (λ (v : ℕ). args.c.b + v) c.v-v.ensures) refl)

pub returns-in-AllocPoly : goal.returns-in-AllocPoly
unfolding formed
returns-in-AllocPoly c = let args = c.args in
    rw c.in-AllocPoly.is (same_eq (ap (λ (v : ℕ). args.c.x + v) c.v-v.ensures) refl)

pub returns-in-Primitive : goal.returns-in-Primitive
unfolding formed
returns-in-Primitive c = let args = c.args in
    rw c.in-Primitive.is c.primitive_formed.ensures

pub returns-in-Cell : goal.returns-in-Cell
unfolding formed
returns-in-Cell c = let args = c.args in
    rw c.in-Cell.is (with-kind _ _ (same_le refl refl) c.content_formed-in-Cell.ensures)

pub returns-in-Fetch : goal.returns-in-Fetch
unfolding formed
returns-in-Fetch c = let args = c.args in
    rw c.in-Fetch.is (same_eq (ap (λ (v : ℕ). args.c.x + args.c.a + v) c.v-v.ensures) refl)

pub returns-in-Keep : goal.returns-in-Keep
unfolding formed
returns-in-Keep c = let args = c.args in
    rw c.in-Keep.is (same_eq (ap (λ (v : ℕ). args.c.x + v) c.v-v.ensures) refl)
