use Rattle.answer.proofs.Refusal.number.Goals as goal

pub returns-in-ProgramLength : goal.returns-in-ProgramLength
returns-in-ProgramLength c = rw c.in-ProgramLength.is

pub returns-in-TableByte : goal.returns-in-TableByte
returns-in-TableByte c = rw c.in-TableByte.is

pub returns-in-Command : goal.returns-in-Command
returns-in-Command c = rw c.in-Command.is

pub returns-in-Operand : goal.returns-in-Operand
returns-in-Operand c = rw c.in-Operand.is

pub returns-in-PortOrKind : goal.returns-in-PortOrKind
returns-in-PortOrKind c = rw c.in-PortOrKind.is

pub returns-in-SetTwice : goal.returns-in-SetTwice
returns-in-SetTwice c = rw c.in-SetTwice.is

pub returns-in-Missing : goal.returns-in-Missing
returns-in-Missing c = rw c.in-Missing.is

pub returns-in-MemoryLength : goal.returns-in-MemoryLength
returns-in-MemoryLength c = rw c.in-MemoryLength.is

pub returns-in-UnsoundImage : goal.returns-in-UnsoundImage
returns-in-UnsoundImage c = rw c.in-UnsoundImage.is

pub returns-in-ReadingsLength : goal.returns-in-ReadingsLength
returns-in-ReadingsLength c = rw c.in-ReadingsLength.is

pub returns-in-Reading : goal.returns-in-Reading
returns-in-Reading c = rw c.in-Reading.is

pub returns-in-SinkSpace : goal.returns-in-SinkSpace
returns-in-SinkSpace c = rw c.in-SinkSpace.is

pub returns-in-Clock : goal.returns-in-Clock
returns-in-Clock c = rw c.in-Clock.is

pub returns-in-NoRoom : goal.returns-in-NoRoom
returns-in-NoRoom c = rw c.in-NoRoom.is

pub returns-in-TooDeep : goal.returns-in-TooDeep
returns-in-TooDeep c = rw c.in-TooDeep.is

pub returns-in-TextForm : goal.returns-in-TextForm
returns-in-TextForm c = rw c.in-TextForm.is

pub returns-in-TextName : goal.returns-in-TextName
returns-in-TextName c = rw c.in-TextName.is

pub returns-in-OutputSpace : goal.returns-in-OutputSpace
returns-in-OutputSpace c = rw c.in-OutputSpace.is

pub returns-in-TooEarly : goal.returns-in-TooEarly
returns-in-TooEarly c = rw c.in-TooEarly.is

pub returns-in-TooLate : goal.returns-in-TooLate
returns-in-TooLate c = rw c.in-TooLate.is

pub returns-in-NotLower : goal.returns-in-NotLower
returns-in-NotLower c = rw c.in-NotLower.is

pub returns-in-WorkLength : goal.returns-in-WorkLength
returns-in-WorkLength c = rw c.in-WorkLength.is

pub returns-in-Circular : goal.returns-in-Circular
returns-in-Circular c = rw c.in-Circular.is

pub returns-in-FigureTooLarge : goal.returns-in-FigureTooLarge
returns-in-FigureTooLarge c = rw c.in-FigureTooLarge.is

pub returns-in-Withdrawn : goal.returns-in-Withdrawn
returns-in-Withdrawn c = rw c.in-Withdrawn.is
