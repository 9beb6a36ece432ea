use Rattle.machine.proofs.Sequences.{command_of, neither_d, no_d}
use Rattle.program.proofs.Decode.{decoded, undecoded}
use Rattle.program.specs.Command.{sequence_of}
use Rattle.program.specs.declared.commands.Code.TheVariants.{AllocMono, MakePoly, Cell}
use Rattle.std.proofs.Common.{sym, ◌∙◌, ap}
use Rattle.machine.proofs.exec.declare.Goals as goal

pub returns-in-AllocMono : goal.returns-in-AllocMono
returns-in-AllocMono c = let args = c.args in
    λ p r o i f e d fit at.
    let cmd = sym (decoded args.c AllocMono (rw c.in-AllocMono.is at c.in-Ok.ensures)) ∙ command_of p r i e in
    rw (← cmd)
    (c.alloc_mono.ensures p o i f (fit.allocates _ (sym cmd))
    record { above = fit.above; below = fit.below } at)

pub returns-in-MakePoly : goal.returns-in-MakePoly
returns-in-MakePoly c = let args = c.args in
    λ p r o i f e d fit at.
    let cmd = sym (decoded args.c MakePoly (rw c.in-MakePoly.is at c.in-Ok.ensures)) ∙ command_of p r i e in
    rw (← cmd) (c.make_poly.ensures p _ o i _ at)

pub returns-in-Cell : goal.returns-in-Cell
returns-in-Cell c = let args = c.args in
    λ p r o i f e d fit at.
    let cmd = sym (decoded args.c Cell (rw c.in-Cell.is at c.in-Ok.ensures)) ∙ command_of p r i e in
    rw (← cmd, ← c.v.ensures) (c.cell.ensures p _ o i at)

pub returns-in_default-code : goal.returns-in_default-code
returns-in_default-code c = let args = c.args in
    λ p r o i f e d fit at.
    let cmd = sym (decoded args.c c.in-Ok.code c.in-Ok.ensures) ∙ command_of p r i e in
    let left = c.in_default-code in
    absurd
    (no_d _ args.c left.not-AllocMono left.not-MakePoly left.not-Cell (ap sequence_of cmd ∙ fit.declares d))

pub returns-in_default : goal.returns-in_default
unfolding sequence_of
returns-in_default c = let args = c.args in
    λ p r o i f e d fit at.
    let cmd = sym (undecoded args.c c.in_default.ensures) ∙ command_of p r i e in
    neither_d (ap sequence_of cmd ∙ fit.declares d)
