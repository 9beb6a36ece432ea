use Rattle.std.proofs.Common.{sym, ◌∙◌, ap}
use Rattle.program.specs.Command.{deployment, point, held, made_by, bytes_at}
use Rattle.program.specs.declared.commands.Code.TheVariants.{AllocMono, MakePoly, Cell}
use Rattle.program.proofs.Decode.{undecoded}
use Rattle.image.proofs.MadeByBytes.{made_there, makes_none}
use Rattle.image.specs.Clauses.{made}
use Rattle.image.proofs.commands.makes_at.Goals as goal

pub returns-in-AllocMono : goal.returns-in-AllocMono
unfolding made made_by bytes_at
returns-in-AllocMono c =
    made_there _ _ AllocMono (rw c.in-AllocMono.is at c.in-Ok.ensures ∙ c.byte.ensures)
    (ap deployment c.byte-x.ensures)

pub returns-in-MakePoly : goal.returns-in-MakePoly
unfolding made made_by bytes_at
returns-in-MakePoly c =
    made_there _ _ MakePoly (rw c.in-MakePoly.is at c.in-Ok.ensures ∙ c.byte.ensures) (ap point c.byte-x.ensures)

pub returns-in-Cell : goal.returns-in-Cell
unfolding made made_by bytes_at
returns-in-Cell c =
    made_there _ _ Cell (rw c.in-Cell.is at c.in-Ok.ensures ∙ c.byte.ensures) (ap held c.byte-x.ensures)

pub returns-in_default : goal.returns-in_default
unfolding made made_by bytes_at
returns-in_default c =
    let none = undecoded (bytes_at c.args.program.now c.args.at) (rw c.byte.ensures at c.in_default.ensures) in
    sym (ap made_by none)

pub returns-in_default-code : goal.returns-in_default-code
unfolding made
returns-in_default-code c =
    made_there _ _ _ (c.in-Ok.ensures ∙ c.byte.ensures)
    (makes_none _ _ c.in_default-code.not-AllocMono c.in_default-code.not-MakePoly c.in_default-code.not-Cell)
