use Rattle.program.specs.declared.commands.Code.{Code}
use Rattle.program.specs.Clauses.{row_of}
use Rattle.load.proofs.Codes.{by_name}
use Rattle.std.specs.Prelude.{◌≡◌, refl, true}
use Rattle.load.specs.Scan.{located}
use Rattle.value.proofs.Tests.{same_and}
use Rattle.load.proofs.Scan.located.Goals as goal

pub returns-in-Supply : goal.returns-in-Supply
unfolding located
returns-in-Supply c = let args = c.args in
    rw c.in-Supply.is (same_and c.is_value.ensures c.is_deployment.ensures)

pub returns-in-Sink : goal.returns-in-Sink
unfolding located
returns-in-Sink c = let args = c.args in
    rw c.in-Sink.is c.is_value-in-Sink.ensures

pub returns-in-AllocPoly : goal.returns-in-AllocPoly
unfolding located
returns-in-AllocPoly c = let args = c.args in
    rw c.in-AllocPoly.is (same_and c.is_value-in-AllocPoly.ensures c.is_point.ensures)

pub returns-in-Primitive : goal.returns-in-Primitive
unfolding located
returns-in-Primitive c = let args = c.args in
    rw c.in-Primitive.is c.operands_located.ensures

pub returns-in-Fetch : goal.returns-in-Fetch
unfolding located
returns-in-Fetch c = let args = c.args in
    rw c.in-Fetch.is c.is_cell.ensures

pub returns-in-Keep : goal.returns-in-Keep
unfolding located
returns-in-Keep c = let args = c.args in
    rw c.in-Keep.is (same_and c.is_value-in-Keep.ensures c.is_cell-in-Keep.ensures)

pub returns-in-React : goal.returns-in-React
unfolding located
returns-in-React c = rw c.in-React.is c.is_deployment-in-React.ensures

pub returns-in-Consume : goal.returns-in-Consume
unfolding located
returns-in-Consume c = rw c.in-Consume.is c.is_deployment-in-Consume.ensures

pub returns-in_default : goal.returns-in_default
unfolding located
returns-in_default c = let args = c.args in
    by_name (λ (k : Code). true ≡ located args.self.now (row_of k args.c)) args.code
    (λ e. refl) (λ e. refl) (λ e. refl) (λ e. refl) (λ e. absurd (c.in_default.not-Supply e))
    (λ e. absurd (c.in_default.not-React e)) (λ e. absurd (c.in_default.not-Consume e))
    (λ e. absurd (c.in_default.not-Sink e)) (λ e. absurd (c.in_default.not-AllocPoly e))
    (λ e. absurd (c.in_default.not-Primitive e)) (λ e. refl) (λ e. absurd (c.in_default.not-Fetch e))
    (λ e. absurd (c.in_default.not-Keep e))
