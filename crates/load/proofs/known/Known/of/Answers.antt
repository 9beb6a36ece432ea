use Rattle.std.specs.Prelude.{ℕ, ◌+◌, ◌≤◌, length, get_or}
use Rattle.std.proofs.Common.{◌∙◌, ap, arith}
use Rattle.load.proofs.Exact.Bytes.{entries_end}
use Rattle.load.proofs.TableBytes.{entry_inside, shape_inside}
use Rattle.program.specs.Bytes.{byte, commands_d, commands_in, entry_at, commands_r, shape_at, shape_of, sinks_in, sources_in}
use Rattle.program.specs.Location.{sink_count, source_count}
use Rattle.load.proofs.known.Known.of.Goals as goal

pub bounds-program-e : goal.bounds-program-e
bounds-program-e c = let args = c.args in
    let pre = c.requires in
    omega (arith, c.entry_at-e.ensures.is, entry_inside (args.program.now) args.r pre.inside.0 pre.inside.1)

pub bounds-program-at : goal.bounds-program-at
unfolding shape_of byte
bounds-program-at c = let at_shape_at = c.shape_at-at in
    let at_entry_at = c.entry_at-e in
    let args = c.args in
    let pre = c.requires in
    let p = args.program.now in
    let e = at_entry_at.ensures.is in
    let shape = ap (λ (i : ℕ). get_or p i 0) e in
    let at = at_shape_at.ensures.is ∙ ap (shape_at p) shape in
    let low : entry_at p 0 ≤ length p = omega (arith, entries_end p, pre.inside.1) in
    omega (arith, at, shape_inside p (get_or p (entry_at p args.r) 0) (pre.tables.shape args.r pre.inside.0) low)

pub bounds-program-e-2 : goal.bounds-program-e-2
bounds-program-e-2 c = let at_entry_at = c.entry_at-e in
    let args = c.args in
    let pre = c.requires in
    omega (arith, at_entry_at.ensures.is, entry_inside (args.program.now) args.r pre.inside.0 pre.inside.1)

pub bounds-program-e-3 : goal.bounds-program-e-3
bounds-program-e-3 c = let at_entry_at = c.entry_at-e in
    let args = c.args in
    let pre = c.requires in
    omega (arith, at_entry_at.ensures.is, entry_inside (args.program.now) args.r pre.inside.0 pre.inside.1)

pub bounds-program-at-2 : goal.bounds-program-at-2
unfolding shape_of byte
bounds-program-at-2 c = let at_shape_at = c.shape_at-at in
    let at_entry_at = c.entry_at-e in
    let args = c.args in
    let pre = c.requires in
    let p = args.program.now in
    let e = at_entry_at.ensures.is in
    let shape = ap (λ (i : ℕ). get_or p i 0) e in
    let at = at_shape_at.ensures.is ∙ ap (shape_at p) shape in
    let low : entry_at p 0 ≤ length p = omega (arith, entries_end p, pre.inside.1) in
    omega (arith, at, shape_inside p (get_or p (entry_at p args.r) 0) (pre.tables.shape args.r pre.inside.0) low)

pub invariant_of-result : goal.invariant_of-result
unfolding commands_in shape_of sources_in sinks_in source_count sink_count commands_d commands_r byte
invariant_of-result c = let args = c.args in
    let p = args.program.now in
    let pre = c.requires in
    let e = c.entry_at-e.ensures.is in
    let shape = ap (λ (i : ℕ). get_or p i 0) e in
    let at = c.shape_at-at.ensures.is ∙ ap (shape_at p) shape in
    let declared = ap (λ (i : ℕ). get_or p (i + 1) 0) e in
    let running = ap (λ (i : ℕ). get_or p (i + 2) 0) e in record {
      legal = pre.tables;
      a_reactor = pre.inside.0;
      its_first = pre.here.0;
      its_shapes = c.shapes.ensures;
      its_globals = c.globals.ensures;
      its_shape = shape;
      its_sources = ap (λ (i : ℕ). get_or p i 0) at;
      its_declared = declared;
      its_running = running;
      its_sinks = ap (λ (i : ℕ). get_or p (i + 1) 0) at;
      few = omega (arith, pre.tables.few_commands args.r pre.inside.0, declared, running);
      inside = omega (arith, pre.here.1, declared, running);
      near = omega (arith, pre.here.1, pre.here.2, declared, running);
    }
