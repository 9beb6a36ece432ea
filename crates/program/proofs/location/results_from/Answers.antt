use Rattle.std.specs.Prelude.{ℕ, suc, ◌+◌, ◌*◌, ◌≡◌, refl, List}
use Rattle.std.proofs.Common.{sym, ◌∙◌, ap, arith}
use Rattle.value.specs.Test.{pick}
use Rattle.program.specs.Bytes.{byte, commands_d, command_at}
use Rattle.program.specs.Command.{takes_words, decode, bytes_at, bytes_of, cmd_of}
use Rattle.program.specs.Location.{results}
use Rattle.program.specs.declared.Command.{Command}
use Rattle.program.proofs.location.results_from.Goals as goal

pub loop-j-init : goal.loop-j-init
unfolding results
loop-j-init c = ((λ r e. refl), omega arith)

-- one command more
one_more : (p : List ℕ) (r at j m b n : ℕ) → at ≡ command_at p r (commands_d p r) → b ≡ byte p (at + 8 * j) →
    ((c : Command) → c.code ≡ b → n ≡ pick (takes_words (decode c)) 1 0) → m ≡ results p r j →
    m + n ≡ results p r (j + 1)
unfolding results command_at bytes_of cmd_of bytes_at
one_more p r at j m b n e f g h =
    let c = bytes_of p r (commands_d p r + j) in
    let s : j + 1 ≡ suc j = omega arith in
    rw s (omega (arith, h, g c (ap (byte p) (omega arith) ∙ sym f)))

pub loop-j-preserved : goal.loop-j-preserved
loop-j-preserved c = let loop = c.loop-j in
    let one = c.result_of-m.ensures in (
      (λ r e. one_more _ r _ _ _ _ _ e c.byte.ensures one.is (loop.invariant.0 r e)),
      omega (arith, loop.invariant, one.one),
    )

pub returns : goal.returns
returns c = record { is = (λ r e. c.loop-j.invariant.0 r e ∙ ap (results _ r) (omega arith)); few = omega arith }

pub overflow_add-m : goal.overflow_add-m
overflow_add-m c = omega (arith, c.result_of-m.ensures.one)
