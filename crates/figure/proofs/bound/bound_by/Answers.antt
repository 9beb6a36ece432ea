use Rattle.std.specs.Prelude.{ℕ, ◌+◌, ◌*◌, ◌≡◌, List}
use Rattle.std.proofs.Common.{◌∙◌, ap, ap₂, arith}
use Rattle.program.specs.Bytes.{commands_d, commands_at}
use Rattle.program.specs.Command.{Made, made_by, decode, bytes_at}
use Rattle.image.proofs.MadeByBytes.{made_at}
use Rattle.figure.specs.Bound.{sum_below, share, bound_by}
use Rattle.figure.specs.Clauses.{capped}
use Rattle.figure.proofs.Sums.{sum_next}
use Rattle.figure.proofs.Capping.{capped_low, capped_add}
use Rattle.figure.proofs.bound.bound_by.Invariants.{adds}
use Rattle.figure.proofs.bound.bound_by.Goals as goal

pub loop-j-init : goal.loop-j-init
unfolding sum_below
loop-j-init c = let small = c.size-sum.ensures.small in
    λ r b e t s. capped_low (omega arith) ∙ ap capped (omega arith)

-- one command more
one_more : (p : List ℕ) (b : ℕ → ℕ) (r at j first m n : ℕ) (d : Made) → at ≡ commands_at p r
    → d ≡ made_by (decode (bytes_at p (at + 8 * j))) → m ≡ capped (first + sum_below (adds p b r) j)
    → n ≡ capped (share p b d) → capped (m + n) ≡ capped (first + sum_below (adds p b r) (j + 1))
one_more p b r at j first m n d e f h k =
    capped_add _ _ h (k ∙ ap (λ y. capped (share p b y)) (f ∙ made_at p r j at e))
    ∙ ap capped (omega (arith, sum_next (adds p b r) j))

pub loop-j-preserved : goal.loop-j-preserved
loop-j-preserved c = λ r b e t s.
    c.add-sum.ensures ∙ one_more _ b r _ _ _ _ _ _ e c.makes_at-makes.ensures
    (c.loop-j.invariant r b e t s) (c.share.ensures _ b t s)

pub returns : goal.returns
unfolding bound_by
returns c = λ r b k t s.
    let size = c.size-sum.ensures.is _ r k in
    let count = c.commands_d-n.ensures _ r k in
    let p = c.args.program.now in
    let all : c.loop-j.j ≡ commands_d p r = omega arith in
    c.loop-j.invariant r b (c.at-at.ensures.is _ r k) t s
    ∙ ap₂ (λ m j. capped (m + sum_below (adds p b r) j)) size all

pub overflow_cast-sum : goal.overflow_cast-sum
overflow_cast-sum c = omega (arith, c.size-sum.ensures.small)
