use Rattle.std.specs.Prelude.{ℕ, ◌≡◌, List}
use Rattle.std.proofs.Common.{sym, ◌∙◌, ap, subst, arith}
use Rattle.machine.proofs.Placing.{reads_at}
use Rattle.machine.proofs.Sequences.{command_at_lem, neither_r, no_r}
use Rattle.machine.specs.Clauses.{Stands, Reaches}
use Rattle.program.proofs.Decode.{decoded, undecoded}
use Rattle.program.specs.Command.{Cmd, decode, sequence_of}
use Rattle.program.specs.declared.Command.{Command}
use Rattle.program.specs.declared.commands.Code.TheVariants.{Constant, Global, Supply, React, Consume, Sink, AllocPoly}
use Rattle.program.specs.declared.commands.Code.TheVariants.{Primitive, Fetch, Keep}
use Rattle.program.specs.Location.{command_loc}
use Rattle.remus.specs.Steady.{ReadsUpTo}
use Rattle.machine.proofs.accepted.Accepted.exec.Goals as goal

-- what the bytes of a command reach, once it is known which it is
reach : (t : List ℕ) (o here n : ℕ) {c b : Command} {d : Cmd} → d ≡ decode c → c ≡ b → Reaches t o here n (decode b)
    → Reaches t o here n d
reach t o here n e f = subst (Reaches t o here n) (sym (e ∙ ap decode f))

pub constant-requires : goal.constant-requires
constant-requires c = let at_bytes_within = c.bytes_within-c in
    let pre = c.requires in
    reach _ _ _ _ (sym (decoded _ Constant (rw c.in-Constant.is at c.in-Ok.ensures))) at_bytes_within.ensures pre.reaches

pub global-requires : goal.global-requires
global-requires c = let at_bytes_within = c.bytes_within-c in
    let pre = c.requires in
    let r = reach _ _ _ _ (sym (decoded _ Global (rw c.in-Global.is at c.in-Ok.ensures))) at_bytes_within.ensures
    pre.reaches in
    record { here_in_bounds = r; time_fits = pre.workable.clock }

pub consume-requires : goal.consume-requires
consume-requires c = let at_bytes_within = c.bytes_within-c in
    let pre = c.requires in
    let r = reach _ _ _ _ (sym (decoded _ Consume (rw c.in-Consume.is at c.in-Ok.ensures))) at_bytes_within.ensures
    pre.reaches in
    record { here_in_bounds = r.0; b_le_here = omega (arith, r.1, c.index-b.ensures.at) }

pub alloc_poly-requires : goal.alloc_poly-requires
alloc_poly-requires c = let at_bytes_within = c.bytes_within-c in
    let pre = c.requires in
    let r = reach _ _ _ _ (sym (decoded _ AllocPoly (rw c.in-AllocPoly.is at c.in-Ok.ensures))) at_bytes_within.ensures pre.reaches in record {
      here_in_bounds = r.0;
      a_le_here = (
        omega (arith, r.1, c.index-a.ensures.at),
        omega (
          arith,
          r.2,
          c.index-b.ensures.at,
        ),
      );
      memory_len_bound = pre.workable.few;
    }

pub primitive-requires : goal.primitive-requires
primitive-requires c = let at_bytes_within = c.bytes_within-c in
    let pre = c.requires in
    let r = reach _ _ _ _ (sym (decoded _ Primitive (rw c.in-Primitive.is at c.in-Ok.ensures))) at_bytes_within.ensures
    pre.reaches in record {
      here_in_bounds = r.0;
      a_le_here = (
        omega (arith, r.1, c.index-a.ensures.at),
        omega (
          arith,
          r.2,
          c.index-b.ensures.at,
        ),
      );
    }

pub fetch-requires : goal.fetch-requires
fetch-requires c = let at_bytes_within = c.bytes_within-c in
    let pre = c.requires in
    let r = reach _ _ _ _ (sym (decoded _ Fetch (rw c.in-Fetch.is at c.in-Ok.ensures))) at_bytes_within.ensures pre.reaches in
    record { here_in_bounds = r.0; b_le_here = omega (arith, r.1, c.index-b.ensures.at) }

pub keep-requires : goal.keep-requires
keep-requires c = let at_bytes_within = c.bytes_within-c in
    let pre = c.requires in
    let r = reach _ _ _ _ (sym (decoded _ Keep (rw c.in-Keep.is at c.in-Ok.ensures))) at_bytes_within.ensures pre.reaches in
    record { here_in_bounds = r.0; a_le_here = omega (arith, r.1, c.index-a.ensures.at) }

pub returns-in-Constant : goal.returns-in-Constant
returns-in-Constant c = let at_constant = c.constant in
    let at_v = c.v in
    let at_bytes_within = c.bytes_within-c in
    λ r i lt at in_r fit here placed.
    let is = command_at_lem _ r i _ at_bytes_within.ensures at in
    let cmd = sym (decoded _ Constant (rw c.in-Constant.is at c.in-Ok.ensures)) ∙ is in
    rw (← cmd, ← at_v.ensures) (at_constant.ensures _ _ _ i here _)

pub returns-in-Global : goal.returns-in-Global
returns-in-Global c = let at_global = c.global in
    let at_bytes_within = c.bytes_within-c in
    λ r i lt at in_r fit here placed.
    let is = command_at_lem _ r i _ at_bytes_within.ensures at in
    let cmd = sym (decoded _ Global (rw c.in-Global.is at c.in-Ok.ensures)) ∙ is in
    rw (← cmd) (at_global.ensures _ _ _ i here)

pub returns-in-Supply : goal.returns-in-Supply
returns-in-Supply c = let at_supply = c.supply in
    let at_slot2 = c.index-b in
    let at_slot = c.index-a in
    let at_bytes_within = c.bytes_within-c in
    let args = c.args in
    λ r i lt at in_r fit here placed.
    let is = command_at_lem _ r i _ at_bytes_within.ensures at in
    let cmd = sym (decoded _ Supply (rw c.in-Supply.is at c.in-Ok.ensures)) ∙ is in
    let t = args.slots.now.before in
    let up = subst (ReadsUpTo (command_loc _ r i)) (sym cmd) fit.reads in
    let a = at_slot.ensures.is _ _ (reads_at _ _ t _ r _ _ fit.same placed up.0) in
    let b = at_slot2.ensures.is _ _ (reads_at _ _ t _ r _ _ fit.same placed up.1) in
    rw (← cmd) (at_supply.ensures _ _ _ i _ _ a b (fit.supplies _ _ _ (sym cmd)) _)

pub returns-in-React : goal.returns-in-React
returns-in-React c = let at_slot2 = c.index-b in
    let at_bytes_within = c.bytes_within-c in
    let args = c.args in
    λ r i lt at in_r fit here placed.
    let is = command_at_lem _ r i _ at_bytes_within.ensures at in
    let cmd = sym (decoded _ React (rw c.in-React.is at c.in-Ok.ensures)) ∙ is in
    let t = args.slots.now.before in
    let up = subst (ReadsUpTo (command_loc _ r i)) (sym cmd) fit.reads in
    let b = at_slot2.ensures.is _ _ (reads_at _ _ t _ r _ _ fit.same placed up) in
    rw (← cmd) (c.react.ensures _ _ _ i _ b _)

pub returns-in-Consume : goal.returns-in-Consume
returns-in-Consume c = let at_consume = c.consume in
    let at_slot2 = c.index-b in
    let at_bytes_within = c.bytes_within-c in
    let args = c.args in
    λ r i lt at in_r fit here placed.
    let is = command_at_lem _ r i _ at_bytes_within.ensures at in
    let cmd = sym (decoded _ Consume (rw c.in-Consume.is at c.in-Ok.ensures)) ∙ is in
    let t = args.slots.now.before in
    let up = subst (ReadsUpTo (command_loc _ r i)) (sym cmd) fit.reads in
    let b = at_slot2.ensures.is _ _ (reads_at _ _ t _ r _ _ fit.same placed up) in
    rw (← cmd) (at_consume.ensures _ _ _ i _ args.self.loaded.facts b here (fit.consumes _ _ (sym cmd)) _)

pub returns-in-Sink : goal.returns-in-Sink
returns-in-Sink c = let at_sink = c.sink in
    let at_slot = c.index-a in
    let at_bytes_within = c.bytes_within-c in
    let args = c.args in
    λ r i lt at in_r fit here placed.
    let is = command_at_lem _ r i _ at_bytes_within.ensures at in
    let cmd = sym (decoded _ Sink (rw c.in-Sink.is at c.in-Ok.ensures)) ∙ is in
    let t = args.slots.now.before in
    let up = subst (ReadsUpTo (command_loc _ r i)) (sym cmd) fit.reads in
    let a = at_slot.ensures.is _ _ (reads_at _ _ t _ r _ _ fit.same placed up) in
    rw (← cmd) (at_sink.ensures _ _ i _ args.self.loaded.facts (omega (arith, fit.same, lt)) a _)

pub returns-in-AllocPoly : goal.returns-in-AllocPoly
returns-in-AllocPoly c = let at_alloc_poly = c.alloc_poly in
    let at_slot2 = c.index-b in
    let at_slot = c.index-a in
    let at_bytes_within = c.bytes_within-c in
    let args = c.args in
    λ r i lt at in_r fit here placed.
    let is = command_at_lem _ r i _ at_bytes_within.ensures at in
    let cmd = sym (decoded _ AllocPoly (rw c.in-AllocPoly.is at c.in-Ok.ensures)) ∙ is in
    let t = args.slots.now.before in
    let up = subst (ReadsUpTo (command_loc _ r i)) (sym cmd) fit.reads in
    let a = at_slot.ensures.is _ _ (reads_at _ _ t _ r _ _ fit.same placed up.0) in
    let b = at_slot2.ensures.is _ _ (reads_at _ _ t _ r _ _ fit.same placed up.1) in
    let stands : Stands _ _ = record { above = fit.above; below = fit.below } in
    rw (← cmd) (at_alloc_poly.ensures _ i _ _ stands a b here (fit.operators _ _ (sym cmd)) _)

pub returns-in-Primitive : goal.returns-in-Primitive
returns-in-Primitive c = let at_primitive = c.primitive in
    let at_slot2 = c.index-b in
    let at_slot = c.index-a in
    let at_bytes_within = c.bytes_within-c in
    let args = c.args in
    λ r i lt at in_r fit here placed.
    let is = command_at_lem _ r i _ at_bytes_within.ensures at in
    let cmd = sym (decoded _ Primitive (rw c.in-Primitive.is at c.in-Ok.ensures)) ∙ is in
    let t = args.slots.now.before in
    let up = subst (ReadsUpTo (command_loc _ r i)) (sym cmd) fit.reads in
    let a = at_slot.ensures.is _ _ (reads_at _ _ t _ r _ _ fit.same placed up.0) in
    let b = at_slot2.ensures.is _ _ (reads_at _ _ t _ r _ _ fit.same placed up.1) in
    let l = reads_at _ _ t _ r _ _ fit.same placed up.2 in
    rw (← cmd) (at_primitive.ensures _ _ i _ _ a b l here _)

pub returns-in-Fetch : goal.returns-in-Fetch
returns-in-Fetch c = let at_fetch = c.fetch in
    let at_slot2 = c.index-b in
    let at_bytes_within = c.bytes_within-c in
    let args = c.args in
    λ r i lt at in_r fit here placed.
    let is = command_at_lem _ r i _ at_bytes_within.ensures at in
    let cmd = sym (decoded _ Fetch (rw c.in-Fetch.is at c.in-Ok.ensures)) ∙ is in
    let t = args.slots.now.before in
    let up = subst (ReadsUpTo (command_loc _ r i)) (sym cmd) fit.reads in
    let b = at_slot2.ensures.is _ _ (reads_at _ _ t _ r _ _ fit.same placed up) in
    rw (← cmd) (at_fetch.ensures _ _ _ i _ b here _)

pub returns-in-Keep : goal.returns-in-Keep
returns-in-Keep c = let at_keep = c.keep in
    let at_slot = c.index-a in
    let at_bytes_within = c.bytes_within-c in
    let args = c.args in
    λ r i lt at in_r fit here placed.
    let is = command_at_lem _ r i _ at_bytes_within.ensures at in
    let cmd = sym (decoded _ Keep (rw c.in-Keep.is at c.in-Ok.ensures)) ∙ is in
    let t = args.slots.now.before in
    let up = subst (ReadsUpTo (command_loc _ r i)) (sym cmd) fit.reads in
    let a = at_slot.ensures.is _ _ (reads_at _ _ t _ r _ _ fit.same placed up.0) in
    rw (← cmd) (at_keep.ensures _ _ _ i _ _ a here _)

pub returns-in_default : goal.returns-in_default
unfolding sequence_of
returns-in_default c = λ r i lt at in_r fit here placed.
    let is = command_at_lem _ r i _ c.bytes_within-c.ensures at in
    neither_r (ap sequence_of (sym (undecoded _ c.in_default.ensures) ∙ is) ∙ fit.runs in_r)

pub returns-in-AllocMono : goal.returns-in-AllocMono
returns-in-AllocMono c = λ r i lt at in_r fit here placed.
    let is = sym (decoded _ c.in-Ok.code c.in-Ok.ensures) ∙ command_at_lem _ r i _ c.bytes_within-c.ensures at in
    absurd (no_r _ _ c.in-AllocMono.is (ap sequence_of is ∙ fit.runs in_r))
