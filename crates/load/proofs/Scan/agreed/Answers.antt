use Rattle.program.specs.declared.commands.Code.{Code}
use Rattle.program.specs.Clauses.{row_of}
use Rattle.load.proofs.Codes.{by_name}
use Rattle.std.specs.Prelude.{ℕ, ◌+◌, ◌≡◌, refl, true}
use Rattle.std.proofs.Common.{ap}
use Rattle.load.specs.Scan.{agreed}
use Rattle.value.proofs.Tests.{same_eq}
use Rattle.load.proofs.Scan.agreed.Goals as goal

pub returns-in-Supply : goal.returns-in-Supply
unfolding agreed
returns-in-Supply c = let args = c.args in
    rw c.in-Supply.is (c.source_agreed.ensures args.r)

pub returns-in-Consume : goal.returns-in-Consume
unfolding agreed
returns-in-Consume c = let args = c.args in
    rw c.in-Consume.is (c.port_agreed.ensures args.r)

pub returns-in-Sink : goal.returns-in-Sink
unfolding agreed
returns-in-Sink c = let args = c.args in
    rw c.in-Sink.is c.sink_agreed.ensures

pub returns-in-AllocPoly : goal.returns-in-AllocPoly
unfolding agreed
returns-in-AllocPoly c = let args = c.args in
    rw c.in-AllocPoly.is (same_eq c.kind_at.ensures (ap (λ (k : ℕ). 2 + k) c.kind_at-in-AllocPoly.ensures))

pub returns-in-Primitive : goal.returns-in-Primitive
unfolding agreed
returns-in-Primitive c = let args = c.args in
    rw c.in-Primitive.is (c.operands_agreed.ensures (args.program.now) args.r)

pub returns-in-Keep : goal.returns-in-Keep
unfolding agreed
returns-in-Keep c = let args = c.args in
    rw c.in-Keep.is (same_eq c.kind_at-in-Keep.ensures c.kind_at-in-Keep-2.ensures)

pub returns-in_default : goal.returns-in_default
unfolding agreed
returns-in_default c = let args = c.args in
    by_name (λ (k : Code). true ≡ agreed args.program.now args.r args.self.now (row_of k args.c)) args.code
    (λ e. refl) (λ e. refl) (λ e. refl) (λ e. refl) (λ e. absurd (c.in_default.not-Supply e)) (λ e. refl)
    (λ e. absurd (c.in_default.not-Consume e)) (λ e. absurd (c.in_default.not-Sink e))
    (λ e. absurd (c.in_default.not-AllocPoly e)) (λ e. absurd (c.in_default.not-Primitive e)) (λ e. refl) (λ e. refl)
    (λ e. absurd (c.in_default.not-Keep e))
