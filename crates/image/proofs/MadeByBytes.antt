-- What a D command makes, by its bytes.
-- Assumes nothing.
use Rattle.std.specs.Prelude.{ℕ, ◌+◌, ◌*◌, ◌≡◌, refl, List}
use Rattle.std.proofs.Common.{sym, ◌∙◌, ap}
use Rattle.program.specs.Bytes.{byte, commands_at, command_at}
use Rattle.program.specs.Command.{Made, nought, made_by, decode, cmd_of, bytes_of, bytes_at}
use Rattle.program.specs.Clauses.{byte_of, row_of}
use Rattle.program.specs.declared.Command.{Command}
use Rattle.program.specs.declared.commands.Code.{Code}
use Rattle.program.specs.declared.commands.Code.TheVariants.{AllocMono, MakePoly, Constant, Global, Supply, React}
use Rattle.program.specs.declared.commands.Code.TheVariants.{Consume, Sink, AllocPoly, Primitive, Cell, Fetch, Keep}
use Rattle.program.proofs.Decode.{decoded}

-- by its code
pub made_there : (p : List ℕ) (at : ℕ) (k : Code) {m : Made} → byte_of k ≡ byte p at
    → m ≡ made_by (row_of k (bytes_at p at)) → m ≡ made_by (decode (bytes_at p at))
unfolding bytes_at
made_there p at k e h = h ∙ sym (ap made_by (decoded (bytes_at p at) k e))

-- all codes but three make nothing
pub makes_none : (c : Command) (k : Code) → (k ≡ AllocMono → ⊥) → (k ≡ MakePoly → ⊥) → (k ≡ Cell → ⊥)
    → nought ≡ made_by (row_of k c)
unfolding made_by
makes_none c AllocMono d e f = absurd (d refl)
makes_none c MakePoly d e f = absurd (e refl)
makes_none c Constant d e f = refl
makes_none c Global d e f = refl
makes_none c Supply d e f = refl
makes_none c React d e f = refl
makes_none c Consume d e f = refl
makes_none c Sink d e f = refl
makes_none c AllocPoly d e f = refl
makes_none c Primitive d e f = refl
makes_none c Cell d e f = absurd (f refl)
makes_none c Fetch d e f = refl
makes_none c Keep d e f = refl

-- command j of a reactor whose commands begin at byte `at`
pub made_at : (p : List ℕ) (r j at : ℕ) → at ≡ commands_at p r
    → made_by (decode (bytes_at p (at + 8 * j))) ≡ made_by (cmd_of p r j)
unfolding cmd_of bytes_of command_at
made_at p r j at e = rw e refl
