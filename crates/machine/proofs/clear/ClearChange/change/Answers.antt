use Rattle.std.specs.Prelude.{ℕ, ◌+◌, refl}
use Rattle.std.proofs.Common.{ap, arith}
use Rattle.image.specs.Memory.{size_at, slots_d, slots_r}
use Rattle.machine.proofs.Clears.{cleared_part, local_clear, lent_part}
use Rattle.machine.proofs.clear.ClearChange.change.Goals as goal

pub slice_bounds-clear_words-end : goal.slice_bounds-clear_words-end
unfolding size_at
slice_bounds-clear_words-end c = let at_size = c.size in
    let pre = c.requires in
    omega (arith, at_size.ensures.is _ _ (c.counts_at-counts.ensures.known _ c.args.accepted.loaded.facts pre.o_bound))

pub clear_words-requires : goal.clear_words-requires
clear_words-requires c = let pre = c.requires in
    let args = c.args in
    let at_size = c.size in
    let at_slots_d = c.slots_d-first in
    let at_slots_r = c.slots_r-end in
    let known = c.counts_at-counts.ensures.known _ c.args.accepted.loaded.facts pre.o_bound in
    let n = ap (λ (k : ℕ). args.o + k) (at_size.ensures.is _ _ known) in
    let part = lent_part _ _ _ pre.o_in_bounds _ _ _ _ refl (at_slots_d.ensures.is _ _ known)
    (at_slots_r.ensures.is _ _ known) n in
    (part.0, part.1, part.2)

pub returns : goal.returns
unfolding slots_d slots_r
returns c = let pre = c.requires in
    let at_slots_d = c.slots_d-first in
    let at_slots_r = c.slots_r-end in
    let args = c.args in
    let at_size = c.size in
    let at_clear_words = c.clear_words in
    let known = c.counts_at-counts.ensures.known _ c.args.accepted.loaded.facts pre.o_bound in
    let d = at_slots_d.ensures.is _ _ known in
    let e = at_slots_r.ensures.is _ _ known in
    let n = ap (λ (k : ℕ). args.o + k) (at_size.ensures.is _ _ known) in
    let part = lent_part _ _ _ pre.o_in_bounds _ _ _ _ refl d e n in
    let is = cleared_part _ _ _ pre.o_in_bounds _ _ _ refl n (at_clear_words.ensures _ _ d e part.3) in
    record { is = is; local = rw is (local_clear _ _ _ pre.o_in_bounds) }
