-- Acceptance is that the header, the tables and the length are right and that every
-- reactor is accepted. Assumes nothing.
use Rattle.std.specs.Prelude.{ℕ, ◌≤◌, ◌<◌, ◌↔◌, List}
use Rattle.std.proofs.Common.{arith}
use Rattle.program.specs.Bytes.{reactors, tables_end, commands_at, whole_length}
use Rattle.load.specs.Check.{IsAccepted}
use Rattle.load.specs.Rules.{TablesRight}
use Rattle.load.proofs.Accepted.{ReactorAccepted}
use Rattle.load.proofs.Exact.Bytes.{header, tables, header_first}
use Rattle.load.proofs.Exact.Ladder.{accepted}
use Rattle.load.proofs.Exact.Bounds.{commands_follow}

module _ (p : List ℕ) where
  pub tables_inside : tables_end p ≤ whole_length p
  unfolding whole_length commands_at
  tables_inside = commands_follow p 0 (reactors p) (omega arith)

  -- "under 8" needs no rule: the length that the counts call for is no less.
  pub accepted_parts : IsAccepted p ↔ (TablesRight p × ((r : ℕ) → r < reactors p → ReactorAccepted p r))
  accepted_parts = (
    λ a.
        let h = (accepted p).0 a in
        let top = (header p).0 h.header_bytes_lem in
        let t = (tables p top).0 h.table_bytes_lem in (
          record {
            few_bytes = h.few_bytes;
            header = top;
            global_kinds = t.0;
            every_shape = t.1;
            entries = t.2;
            main = t.3;
            whole = h.whole;
          },
          h.every_reactor,
        ),
    λ h.
        let t = h.0 in
        (accepted p).1
        (record {
          some_bytes = omega (arith, header_first p, tables_inside);
          few_bytes = t.few_bytes;
          header_bytes_lem = (header p).1 t.header;
          tables_inside = omega (arith, tables_inside);
          table_bytes_lem = (tables p t.header).1 (t.global_kinds, t.every_shape, t.entries, t.main);
          whole = t.whole;
          every_reactor = h.1;
        }),
  )
