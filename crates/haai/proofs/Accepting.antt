-- The program of a well-formed tree of few enough parts obeys the rules, and so the check accepts it: `accepted`.
use Rattle.std.specs.Prelude.{ℕ, zero, suc, ◌+◌, ◌-◌, ◌*◌, ◌≤◌, ◌<◌, ◌≡◌, refl, ◌⊎◌, ◌≢◌}
use Rattle.std.proofs.Common.{sym, ◌∙◌, ap, inl, inr}
use Rattle.std.specs.Prelude.{List, length}
use Rattle.std.proofs.Common.{arith}
use Rattle.value.specs.Test.{pick, ◌=?◌}
use Rattle.value.proofs.Tests.{eq!, eq×, yes, no, same?}
use Rattle.program.specs.Bytes.{byte, global_kind, main_of, commands_in}
use Rattle.program.specs.Command.{bytes_of, cmd_of}
use Rattle.program.specs.Encode.{Small}
use Rattle.program.specs.Location.{sink_count}
use Rattle.load.specs.Check.{IsAccepted}
use Rattle.load.specs.Rules.{HeaderRule, ShapeRule, EntryRule, MainRule, TablesRight, Rules}
use Rattle.load.proofs.Exact.{exact}
use Rattle.haai.specs.Syntax.{Definition, Text}
use Rattle.haai.specs.Emit.{running, commands_of, header_bytes, program_of}
use Rattle.haai.proofs.Formed.{nth, WellFormed, Bounded}
use Rattle.haai.proofs.Placing.{before, before_first, before_next, as_command}
use Rattle.haai.proofs.Program.{length_commands, shapes_are, reactors_are, globals_are, in_globals, sources_in_lem}
use Rattle.haai.proofs.Program.{sinks_in_lem, kind_of_source, kind_of_sink, shape_of_lem, declared_is, running_is, last_zero}
use Rattle.haai.proofs.Program.{sources_are, sinks_are, commands_in_lem, bytes_are, command_is, length_program}
use Rattle.haai.proofs.Program.{whole_length_lem}
use Rattle.haai.proofs.Emitted.{every_at, small, laid}
use Rattle.haai.proofs.Righting.{Ports}
use Rattle.haai.proofs.Reactor.{reactor_rule}

-- the header's last four bytes
header_zero : (x : Text) (i : ℕ) → 4 ≤ i → i < 8 → byte (program_of x) i ≡ 0
unfolding byte program_of header_bytes
header_zero x zero h l = absurd (omega arith)
header_zero x (suc zero) h l = absurd (omega arith)
header_zero x (suc (suc zero)) h l = absurd (omega arith)
header_zero x (suc (suc (suc zero))) h l = absurd (omega arith)
header_zero x (suc (suc (suc (suc zero)))) h l = refl
header_zero x (suc (suc (suc (suc (suc zero))))) h l = refl
header_zero x (suc (suc (suc (suc (suc (suc zero)))))) h l = refl
header_zero x (suc (suc (suc (suc (suc (suc (suc zero))))))) h l = refl
header_zero x (suc (suc (suc (suc (suc (suc (suc (suc i)))))))) h l = absurd (omega arith)

module _ (x : Text) (formed : WellFormed x.definitions x.sources) (bounds : Bounded x) where
  abbrev p : List ℕ
  p = program_of x

  abbrev ds : List Definition
  ds = x.definitions

  global_number : (y : ℕ) → y ≤ x.sources → global_kind p y ≡ 0
  unfolding global_kind
  global_number y h = by (same? y 0)
    where
      by : (y ≡ 0) ⊎ (y ≢ 0) → pick (y =? 0) 0 (byte p (7 + y)) ≡ 0
      by (inl e) = sym (yes (byte p (7 + y)) (eq! e) refl)
      by (inr n) = sym (no 0 (eq× n) (sym (in_globals x (7 + y) (omega arith) (omega arith))))

  ports : Ports p ds x.sources
  ports =
      record {
        count = reactors_are x;
        outside = globals_are x;
        kind_of_global = global_number;
        shape = shape_of_lem x;
        sources_in_lem = sources_in_lem x;
        sinks_in_lem = sinks_in_lem x;
        kind_of_source = λ j y h l. kind_of_source x j h y l;
        kind_of_sink = λ j y h l. kind_of_sink x j h y l;
        few_sources = bounds.few_parameters;
        few_sinks = bounds.few_sinks;
      }

  -- ---- header and tables

  header : HeaderRule p
  header =
      record {
        format = unfold byte program_of header_bytes in refl;
        some_shape = let a = shapes_are x in let b = bounds.some in omega arith;
        few_shapes = let a = shapes_are x in let b = bounds.few in omega arith;
        some_reactor = let a = reactors_are x in let b = bounds.some in omega arith;
        few_reactors = let a = reactors_are x in let b = bounds.few in omega arith;
        few_globals = let a = globals_are x in let b = bounds.few_sources in omega arith;
        zeros = header_zero x;
      }

  shape_rule : (s : ℕ) → s < length ds → ShapeRule p s
  shape_rule s h =
      let a = sources_in_lem x s h in
      let b = sinks_in_lem x s h in
      let c = bounds.few_parameters s h in
      let d = bounds.some_sink s h in
      let e = bounds.few_sinks s h in
      record {
        few_sources = omega arith;
        some_sink = omega arith;
        few_sinks = omega arith;
        source_kinds = λ y l. let z = kind_of_source x s h y (omega arith) in omega arith;
        sink_kinds = λ y l. let z = kind_of_sink x s h y (omega arith) in omega arith;
        no_source = λ y l m. kind_of_source x s h y m;
        no_sink = λ y l m. kind_of_sink x s h y m;
      }

  entry_rule : (r : ℕ) → r < length ds → EntryRule p r
  unfolding running
  entry_rule r h =
      let a = running_is x r h in
      record {
        shape = let b = shape_of_lem x r h in let c = shapes_are x in omega arith;
        few_declared = let b = declared_is x r h in let c = bounds.few_d r h in omega arith;
        some_running = let b = bounds.some_sink r h in omega arith;
        few_running = let b = bounds.few_r r h in omega arith;
        zero_byte = last_zero x r h;
      }

  main_rule : MainRule p
  unfolding main_of
  main_rule =
      let e : main_of p ≡ length ds - 1 = let a = reactors_are x in omega arith in
      let h : length ds - 1 < length ds = let a = bounds.some in omega arith in
      record {
        no_sources = rw e (sources_are x (length ds - 1) h ∙ formed.main_bare);
        plain_sinks = λ y l.
            let a = sinks_are x (length ds - 1) h in
            let b = bounds.few_sinks (length ds - 1) h in
            let m : y < sink_count p (length ds - 1) = rw e at l in
            let c = shape_of_lem x (length ds - 1) h in
            let d = kind_of_sink x (length ds - 1) h y (omega arith) in
            rw (e, c, d) (omega arith);
      }

  -- at most 160 commands a reactor
  few_code : (k : ℕ) → k ≤ length ds → before ds k ≤ 1280 * k
  few_code zero h = let a = before_first ds in omega arith
  few_code (suc k) h =
      let a = few_code k (omega arith) in
      let b = before_next ds k (omega arith) in
      let c = length_commands (nth ds k) in
      let d = bounds.few_d k (omega arith) in
      let e = bounds.few_r k (omega arith) in
      omega arith

  tables : TablesRight p
  tables =
      let few = bounds.few in
      let g = globals_are x in
      record {
        few_bytes =
            let a = length_program x in
            let b = few_code (length ds) (omega arith) in
            let c = bounds.few_sources in
            omega arith;
        header = header;
        global_kinds = λ y h l. let e = global_number y (omega arith) in omega arith;
        every_shape = λ s h. let a = shapes_are x in shape_rule s (omega arith);
        entries = λ r h. let a = reactors_are x in entry_rule r (omega arith);
        main = main_rule;
        whole = whole_length_lem x;
      }

  -- ---- commands

  bytes_there : (r : ℕ) → r < length ds → (i : ℕ) → i < commands_in p r → bytes_of p r i ≡ as_command (cmd_of p r i)
  bytes_there r h i l =
      let f = nth ds r in
      let m : i < length (commands_of f) = let a = commands_in_lem x r h in omega arith in
      let q = every_at Small (commands_of f) (small ds x.sources r f (formed.bodies r h)) i m in
      bytes_are x r i h m ∙ sym (ap as_command (command_is x r i h m q))

  rules : Rules p
  rules =
      record {
        tables = tables;
        every_reactor = λ r h.
            let l : r < length ds = let a = reactors_are x in omega arith in
            reactor_rule p ds x.sources ports (laid x bounds.some formed) formed r l (bytes_there r l);
      }

  pub accepted : IsAccepted p
  accepted = (exact p).1 rules
