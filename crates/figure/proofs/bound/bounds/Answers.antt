use Rattle.std.specs.Prelude.{ℕ, ◌+◌, ◌-◌, ◌<◌, ◌≡◌, List, get_or, take}
use Rattle.std.proofs.Common.{sym, ◌∙◌, ap, arith}
use Rattle.std.specs.Cmp.Lexicographic.{same_text}
use Rattle.std.proofs.lemmas.List.{get_or-take}
use Rattle.value.proofs.Zeros.{zeros_at}
use Rattle.program.specs.Bytes.{reactors}
use Rattle.figure.specs.Bound.{bounds_after, bound_of}
use Rattle.figure.specs.Clauses.{capped}
use Rattle.figure.proofs.Capping.{capped_low, rounds_next, settled}
use Rattle.figure.proofs.bound.bounds.Goals as goal

pub loop-k-init : goal.loop-k-init
unfolding bounds_after
loop-k-init c = λ q h. zeros_at 256 q ∙ capped_low (omega arith)

-- a round has changed nothing: those that are left would not either
pub returns-then-eq : goal.returns-then-eq
unfolding bound_of
returns-then-eq c = λ q h.
    let loop = c.loop-k in
    let p = c.args.program.now in
    let next = c.next_bounds-next in
    let n = c.args.n in
    let count = c.requires.count in
    let all : loop._k + (reactors p - loop._k) ≡ reactors p = omega (arith, count) in
    let same = same_text (take n loop.t) (take n next.result) (sym c.if-eq.true ∙ c.eq.ensures) in
    let below = λ (i : ℕ) (l : i < n).
    sym (get_or-take n loop.t i 0 l) ∙ ap (λ (t : List ℕ). get_or t i 0) same ∙ get_or-take n next.result i 0 l in
    settled p loop.t next.result loop._k loop.invariant next.ensures
    (λ i l. below i (omega arith)) (reactors p - loop._k) q h
    ∙ ap (λ k. capped (get_or (bounds_after k p) q 0)) all

pub loop-k-preserved : goal.loop-k-preserved
loop-k-preserved c = let loop = c.loop-k in
    let next = c.next_bounds-next in
    rounds_next _ next.result loop._k (next.ensures _ loop.invariant)

pub returns : goal.returns
unfolding bound_of
returns c = λ q h.
    let p = c.args.program.now in
    let all : c.loop-k._k ≡ reactors p = omega (arith, c.requires.count) in
    c.loop-k.invariant q h ∙ ap (λ k. capped (get_or (bounds_after k p) q 0)) all

pub next_bounds-next-requires : goal.next_bounds-next-requires
next_bounds-next-requires c = record { count = c.requires.count; facts = c.requires.facts }
