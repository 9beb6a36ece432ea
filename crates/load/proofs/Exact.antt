-- The check accepts exactly the programs that 01's rules allow: `exact`, both ways, for every string of bytes.
-- Header and tables: Widths, Bytes. The ladder of refusals: Ladder, Parts. One reactor's scan says what its tables
-- hold after each prefix of commands, as equations over that prefix: Holds, with what it takes and what follows.
-- `kinds_agree` is in Reactor. Order says for what a command out of order is refused; ByteFaults, First and Faults,
-- for which fault a program is. Bounds has the counts that the rules give, Static and StaticFromRules what stands
-- before each command. Assumes nothing.
pub mod Widths
pub mod Bytes
pub mod ByteFaults
pub mod Ladder
pub mod Acceptance
pub mod Bounds
pub mod Seen
pub mod Class
pub mod Places
pub mod Fits
pub mod Rule
pub mod Bits
pub mod Stand
pub mod KindLaws
pub mod Holds
pub mod Formed
pub mod PassesIfFits
pub mod Untouched
pub mod Change
pub mod TablesKept
pub mod Begin
pub mod Complete
pub mod Scanning
pub mod Reactor
pub mod Order
pub mod First
pub mod Faults
pub mod Static
pub mod StaticFromRules
use Rattle.std.proofs.Math.Logic.Iff.{trans as iff_trans}
use Rattle.load.specs.Rules.{ExactAcceptance}
use Rattle.load.proofs.Exact.Acceptance.{accepted_parts}
use Rattle.load.proofs.Exact.Reactor.{rules_exact}

pub exact : ExactAcceptance
exact p = iff_trans (accepted_parts p) (rules_exact p)
